-- The contents of lists do not depend on places and line numbers: setting each of them to 0 commutes with reading.
use Prim.Native.Nat.{ℕ, suc, ◌+◌, ◌-◌}
use mathlib.Core.Path.{◌≡◌, refl, sym, ap, ◌∙◌}
use mathlib.Core.Bool.{Bool, true, false, cond, ◌||◌}
use mathlib.Core.List.{List, [], ◌∷◌, map}
use lib.ListN.{length}
use Rattle.format.specs.Bytes.{ascii, white}
use Rattle.format.specs.Texts.{Part, empty_part}
use Rattle.format.specs.Tokens.{in_token, on_token, before_tokens, tokens, name_of, value_of, Flagged, folded}
use Rattle.format.specs.CueSettings.{CueSettings, settings_after, is_over, cue_change, changed, cue_setting, cue_settings}
use Rattle.format.specs.RegionSettings.{RegionValues, region_change, region_after, over_region, region_setting, region_settings}
use Rattle.format.specs.Times.{Result, failed, got, value, milliseconds, over_hours}
use Rattle.format.specs.TimingLines.{Times, timings, with_settings, timing_of, timed_line, timing_line}
use Rattle.format.specs.Lines.{join}
use Rattle.format.specs.Blocks.{Line, line_part, holds_arrow, bytes_of, joined}
use Rattle.format.specs.Lists.{Cue, Item, nothing, cue, style, region, cue_of, region_of, is_word, definition, meaning, is_cue, items_from}
use Rattle.format.specs.Lists.{Lists, into, listed, item_over, any_over}
use Rattle.format.specs.Rows.{ids, region_for}
use Rattle.format.specs.Contents.{cue_contents, region_contents, contents}
use Rattle.laws.proofs.Changes.{name_after_lem, id_after_lem}

-- values with every place and every number 0
abbrev bare : Part → Part
bare l = record { place = 0; bytes = l.bytes }

abbrev pub bare_line : Line → Line
bare_line l = record { number = 0; place = 0; bytes = l.bytes }

abbrev pub unplaced : List Line → List Line
unplaced ls = map bare_line ls

abbrev bare_settings : CueSettings → CueSettings
bare_settings c = record { settings = c.settings; region = bare c.region }

abbrev bare_values : RegionValues → RegionValues
bare_values r = record { id = bare r.id; settings = r.settings }

-- two choices by the same test are alike where their parts are
alike : {A B : Type 0} (f : A → B) (t : Bool) {a b c d : A} → f a ≡ f c → f b ≡ f d → f (cond t a b) ≡ f (cond t c d)
alike f true p q = p
alike f false p q = q

abbrev part_bytes : List Part → List (List ℕ)
part_bytes ts = map (λ t. t.bytes) ts

-- a token's bytes do not depend on its place
on_token-bytes : (p q b : ℕ) (ts us : List Part) → part_bytes ts ≡ part_bytes us → part_bytes (on_token p b ts) ≡ part_bytes (on_token q b us)
unfolding on_token
on_token-bytes p q b [] [] e = refl
on_token-bytes p q b [] (u ∷ us) e = cc
on_token-bytes p q b (t ∷ ts) [] e = cc
on_token-bytes p q b (t ∷ ts) (u ∷ us) e = cc

token_bytes : (p q : ℕ) (x : List ℕ) → part_bytes (tokens p x) ≡ part_bytes (tokens q x)
unfolding tokens before_tokens
token_bytes p q [] = refl
token_bytes p q (b ∷ x) =
    let e = token_bytes (suc p) (suc q) x in
    alike part_bytes (white b) e
    (alike part_bytes (in_token x) (on_token-bytes p q b (tokens (suc p) x) (tokens (suc q) x) e) (ap (λ r. (b ∷ []) ∷ r) e))

-- Folds over tokens: where a step on bared values gives the same bared value, so does the whole, whatever the tokens' places are.
module _ {A : Type 0} (bare_of : A → A) (f : Part → A → Flagged A) where
  abbrev flat : Flagged A → Flagged A
  flat v = record { value = bare_of v.value; over = v.over }

  by_bytes : Flagged A → List (List ℕ) → Flagged A
  by_bytes v [] = v
  by_bytes v (x ∷ xs) =
      let r = flat (f (record { place = 0; bytes = x }) v.value) in
      by_bytes (record { value = r.value; over = v.over || r.over }) xs

  module _ (step : (t : Part) (a : A) → flat (f t a) ≡ flat (f (bare t) (bare_of a))) where
    fold_bytes : (v : Flagged A) (ts : List Part) → flat (folded f v ts) ≡ by_bytes (flat v) (part_bytes ts)
    unfolding by_bytes folded
    fold_bytes v [] = refl
    fold_bytes v (t ∷ ts) =
        let r = f t v.value in
        fold_bytes (record { value = r.value; over = v.over || r.over }) ts
        ∙ ap (λ r. by_bytes (record { value = r.value; over = v.over || r.over }) (part_bytes ts)) (step t v.value)

    folds_alike : (v : Flagged A) (ts us : List Part) → part_bytes ts ≡ part_bytes us → flat (folded f v ts) ≡ flat (folded f v us)
    folds_alike v ts us e = fold_bytes v ts ∙ ap (by_bytes (flat v)) e ∙ sym (fold_bytes v us)

cue_setting_lem : (t : Part) (c : CueSettings) → flat bare_settings cue_setting (cue_setting t c) ≡ flat bare_settings cue_setting (cue_setting (bare t) (bare_settings c))
unfolding cue_setting changed cue_change name_of value_of
cue_setting_lem t c =
    let h = cue_change t c.settings in
    ap (λ r. record { value = record { settings = settings_after h c.settings; region = r }; over = is_over h }) (name_after_lem (λ x y. bare x ≡ bare y) refl h {x = value_of t} {n = c.region} {y = value_of (bare t)} {m = bare c.region} refl refl)

abbrev bare_taken : Flagged CueSettings → Flagged CueSettings
bare_taken v = flat bare_settings cue_setting v

cue_settings_lem :
    (p q : ℕ) (x : List ℕ)
    → bare_taken (cue_settings (record { place = p; bytes = x })) ≡ bare_taken (cue_settings (record { place = q; bytes = x }))
unfolding cue_settings
cue_settings_lem p q x = folds_alike bare_settings cue_setting cue_setting_lem _ (tokens p x) (tokens q x) (token_bytes p q x)

-- the same for regions
region_setting_lem :
    (t : Part) (r : RegionValues)
    → flat bare_values region_setting (region_setting t r) ≡ flat bare_values region_setting (region_setting (bare t) (bare_values r))
unfolding region_setting region_change name_of value_of
region_setting_lem t r =
    let c = region_change t in
    ap (λ id. record { value = record { id = id; settings = region_after c r.settings }; over = over_region c })
    (id_after_lem (λ x y. bare x ≡ bare y) c (value_of t) r.id (value_of (bare t)) (bare r.id) refl refl)

abbrev bare_region : Flagged RegionValues → Flagged RegionValues
bare_region v = flat bare_values region_setting v

region_settings_lem :
    (p q : ℕ) (x : List ℕ)
    → bare_region (region_settings (record { place = p; bytes = x })) ≡ bare_region (region_settings (record { place = q; bytes = x }))
unfolding region_settings
region_settings_lem p q x = folds_alike bare_values region_setting region_setting_lem _ (tokens p x) (tokens q x) (token_bytes p q x)

-- what a block gives, with every place 0
abbrev bare_cue : Cue → Cue
bare_cue c = record { id = bare c.id; start = c.start; end = c.end; settings = c.settings; region = bare c.region; text = bare c.text }

bare_item : Item → Item
bare_item nothing = nothing
bare_item (cue c over) = cue (bare_cue c) over
bare_item (style text) = style (bare text)
bare_item (region r over) = region (bare_values r) over

bytes_unplaced : (ls : List Line) → bytes_of (unplaced ls) ≡ bytes_of ls
unfolding bytes_of
bytes_unplaced [] = refl
bytes_unplaced (l ∷ ls) = ap (λ r. l.bytes ∷ r) (bytes_unplaced ls)

joined_unplaced : (ls : List Line) → (joined (unplaced ls)).bytes ≡ (joined ls).bytes
unfolding joined bytes_of
joined_unplaced [] = refl
joined_unplaced (l ∷ ls) = ap (λ r. join (l.bytes ∷ r)) (bytes_unplaced ls)

-- the cue of a timing line, by its bytes
cue_with : List ℕ → Times → Flagged CueSettings → List ℕ → Item
cue_with id t s text =
    cue
    (record {
      id = record { place = 0; bytes = id };
      start = milliseconds t.start;
      end = milliseconds t.end;
      settings = s.value.settings;
      region = s.value.region;
      text = record { place = 0; bytes = text };
    })
    (over_hours t.start || over_hours t.end || s.over)

cue_of_lem :
    (id line : Part) (ls : List Line) (r : Result Times)
    → bare_item (cue_of (bare id) (unplaced ls) (value (timing_of (bare line) r))) ≡ bare_item (cue_of id ls (value (timing_of line r)))
unfolding bare_item cue_of value timing_of with_settings cue_with
cue_of_lem id line ls (failed f rest) = refl
cue_of_lem id line ls (got t rest) =
    let n = length line.bytes - length rest in
    ap (cue_with id.bytes t (bare_taken (cue_settings (record { place = 0 + n; bytes = rest })))) (joined_unplaced ls)
    ∙ ap (λ s. cue_with id.bytes t s (joined ls).bytes) (cue_settings_lem (0 + n) (line.place + n) rest)

region_of_lem : (p q : Part) → p.bytes ≡ q.bytes → bare_item (region_of (region_settings p)) ≡ bare_item (region_of (region_settings q))
unfolding bare_item region_of
region_of_lem p q e =
    ap (λ x. bare_item (region_of (region_settings (record { place = p.place; bytes = x })))) e
    ∙ ap region_of (region_settings_lem p.place q.place q.bytes)

style_of : (p q : Part) → p.bytes ≡ q.bytes → bare_item (style p) ≡ bare_item (style q)
unfolding bare_item
style_of p q e = ap (λ x. style (record { place = 0; bytes = x })) e

meaning_bare : (seen : Bool) (b : List Line) → bare_item (meaning seen (unplaced b)) ≡ bare_item (meaning seen b)
unfolding meaning timing_line timed_line definition
meaning_bare seen [] = refl
meaning_bare seen (first ∷ []) = alike bare_item (holds_arrow first.bytes) (cue_of_lem empty_part (line_part first) [] (timings first.bytes)) refl
meaning_bare seen (first ∷ (second ∷ ls)) =
    let ls₂ = second ∷ ls in
    alike bare_item (holds_arrow first.bytes) (cue_of_lem empty_part (line_part first) ls₂ (timings first.bytes))
    (alike bare_item (holds_arrow second.bytes) (cue_of_lem (line_part first) (line_part second) ls (timings second.bytes))
    (alike bare_item seen refl
    (alike bare_item (is_word (ascii "STYLE") first.bytes) (style_of (joined (unplaced ls₂)) (joined ls₂) (joined_unplaced ls₂))
    (alike bare_item (is_word (ascii "REGION") first.bytes) (region_of_lem (joined (unplaced ls₂)) (joined ls₂) (joined_unplaced ls₂)) refl))))

-- so the items are alike, and whether a cue has succeeded is the same
tests_bare : (i : Item) → (is_cue (bare_item i) ≡ is_cue i) × (item_over (bare_item i) ≡ item_over i)
unfolding is_cue item_over bare_item
tests_bare nothing = (refl, refl)
tests_bare (cue c over) = (refl, refl)
tests_bare (style text) = (refl, refl)
tests_bare (region r over) = (refl, refl)

pub is_cue_unplaced : (seen : Bool) (b : List Line) → is_cue (meaning seen (unplaced b)) ≡ is_cue (meaning seen b)
is_cue_unplaced seen b =
    sym (tests_bare (meaning seen (unplaced b))).0 ∙ ap is_cue (meaning_bare seen b) ∙ (tests_bare (meaning seen b)).0

items_bare : (seen : Bool) (bs : List (List Line)) → map bare_item (items_from seen (map unplaced bs)) ≡ map bare_item (items_from seen bs)
unfolding items_from
items_bare seen [] = refl
items_bare seen (b ∷ bs) =
    let rest = items_bare (seen || is_cue (meaning seen b)) bs in
    rw (is_cue_unplaced seen b, meaning_bare seen b, rest)

-- the lists of bare items have the same contents
bare_lists : Lists → Lists
bare_lists l = record { cues = map bare_cue l.cues; regions = map bare_values l.regions; styles = map bare l.styles }

into_bare : (i : Item) (l : Lists) → into (bare_item i) (bare_lists l) ≡ bare_lists (into i l)
unfolding into bare_item bare_lists
into_bare nothing l = refl
into_bare (cue c over) l = refl
into_bare (style text) l = refl
into_bare (region r over) l = refl

listed_bare : (items : List Item) → listed (map bare_item items) ≡ bare_lists (listed items)
unfolding listed bare_lists
listed_bare [] = refl
listed_bare (i ∷ items) = ap (into (bare_item i)) (listed_bare items) ∙ into_bare i (listed items)

ids_bare : (rs : List RegionValues) → ids (map bare_values rs) ≡ ids rs
unfolding ids
ids_bare [] = refl
ids_bare (r ∷ rs) = ap (λ i. r.id.bytes ∷ i) (ids_bare rs)

cue_contents_lem : (rs : List RegionValues) (c : Cue) → cue_contents (map bare_values rs) (bare_cue c) ≡ cue_contents rs c
unfolding cue_contents region_for
cue_contents_lem rs c = rw (ids_bare rs)

map_alike : {A B C : Type 0} (f : B → C) (g : A → C) (h : A → B) → ((a : A) → f (h a) ≡ g a) → (xs : List A) → map f (map h xs) ≡ map g xs
map_alike f g h e [] = refl
map_alike f g h e (x ∷ xs) = rw (e x, map_alike f g h e xs)

region_contents_lem : (r : RegionValues) → region_contents (bare_values r) ≡ region_contents r
unfolding region_contents
region_contents_lem r = refl

contents_bare : (l : Lists) → contents (bare_lists l) ≡ contents l
unfolding contents bare_lists
contents_bare l =
    let rs = l.regions in
    rw (
      map_alike (cue_contents (map bare_values rs)) (cue_contents rs) bare_cue (cue_contents_lem rs) l.cues,
      map_alike region_contents region_contents bare_values region_contents_lem rs,
      map_alike (λ t. t.bytes) (λ t. t.bytes) bare (λ t. refl) l.styles,
    )

contents-items : (items : List Item) → contents (listed (map bare_item items)) ≡ contents (listed items)
contents-items items = ap contents (listed_bare items) ∙ contents_bare (listed items)

over-items : (items : List Item) → any_over (map bare_item items) ≡ any_over items
unfolding any_over
over-items [] = refl
over-items (i ∷ items) = rw ((tests_bare i).1, over-items items)

-- what is the same for bare items is the same for blocks with no places
by_items :
    {A : Type 0} (f : List Item → A)
    → ((items : List Item) → f (map bare_item items) ≡ f items)
    → (seen : Bool) (bs : List (List Line)) → f (items_from seen (map unplaced bs)) ≡ f (items_from seen bs)
by_items f e seen bs = sym (e (items_from seen (map unplaced bs))) ∙ ap f (items_bare seen bs) ∙ e (items_from seen bs)

pub contents_unplaced :
    (seen : Bool) (bs : List (List Line))
    → contents (listed (items_from seen (map unplaced bs))) ≡ contents (listed (items_from seen bs))
contents_unplaced seen bs = by_items (λ i. contents (listed i)) contents-items seen bs

pub over_unplaced : (seen : Bool) (bs : List (List Line)) → any_over (items_from seen (map unplaced bs)) ≡ any_over (items_from seen bs)
over_unplaced seen bs = by_items any_over over-items seen bs

-- blocks with the same bytes are the same without their places
placeless : List (List ℕ) → List Line
placeless xs = map (λ x. record { number = 0; place = 0; bytes = x }) xs

unplaced_by : (ls : List Line) → placeless (bytes_of ls) ≡ unplaced ls
unfolding placeless bytes_of
unplaced_by [] = refl
unplaced_by (l ∷ ls) = ap (λ r. bare_line l ∷ r) (unplaced_by ls)

by_bytes_lem :
    {A : Type 0} (f : List Item → A)
    → ((items : List Item) → f (map bare_item items) ≡ f items)
    → (seen : Bool) (bs cs : List (List Line))
    → map bytes_of bs ≡ map bytes_of cs
    → f (items_from seen bs) ≡ f (items_from seen cs)
by_bytes_lem f e seen bs cs h =
    let without = map_alike placeless unplaced bytes_of unplaced_by in
    let k : map unplaced bs ≡ map unplaced cs = sym (without bs) ∙ ap (map placeless) h ∙ without cs in
    sym (by_items f e seen bs) ∙ ap (λ b. f (items_from seen b)) k ∙ by_items f e seen cs

pub contents-same :
    (seen : Bool) (bs cs : List (List Line))
    → map bytes_of bs ≡ map bytes_of cs
    → contents (listed (items_from seen bs)) ≡ contents (listed (items_from seen cs))
contents-same seen bs cs h = by_bytes_lem (λ i. contents (listed i)) contents-items seen bs cs h

pub over-same :
    (seen : Bool) (bs cs : List (List Line)) → map bytes_of bs ≡ map bytes_of cs → any_over (items_from seen bs) ≡ any_over (items_from seen cs)
over-same seen bs cs h = by_bytes_lem any_over over-items seen bs cs h
