-- Every part of a text's lists stands at its place in the text.
use Prim.Native.Nat.{ℕ, suc, ◌+◌, ◌-◌, ◌<◌}
use mathlib.Core.Path.{◌≡◌, refl, sym, ap, subst, ◌∙◌}
use mathlib.Core.Bool.{Bool, true, false, cond, ◌||◌, ◌&&◌, false≢true}
use mathlib.Core.List.{List, [], ◌∷◌, ◌++◌, append_assoc}
use Rattle.std.specs.Prelude.{Option, None, Some}
use Rattle.std.specs.Option.{option_map_or}
use native.Mathlib.Omega.{arith}
use lib.Dec.{ltb}
use lib.ListN.{length, take, drop, length-append, length-drop}
use borrow.Author.Tests.{ltb-true}
use lib.Seq.{take-length, append_snoc, take-take, take-add, take-append_seam, drop-append_seam, drop-drop}
use Rattle.format.specs.Bytes.{ascii, lf, white, colon, percent, comma}
use Rattle.format.specs.Texts.{Part, empty_part, is_empty, same, ends_with, before_first}
use Rattle.format.specs.Numbers.{percentage, LineNumber, line_number, over_line, is_negative, millionths}
use Rattle.format.specs.Tokens.{in_token, on_token, before_tokens, tokens, name_of, value_of, Flagged, folded}
use Rattle.format.specs.CueSettings.{CueSettings, settings_after, line_align, line_at_percentage, line_counted, line_aligned, line_change}
use Rattle.format.specs.CueSettings.{position_align, position_aligned, position_change, named, cue_change, changed, cue_setting, cue_settings}
use Rattle.format.specs.declared.settings.Settings.{Settings}
use Rattle.format.specs.declared.settings.Change.{Change}
use Rattle.format.specs.declared.settings.Line.{Line as LineSetting}
use Rattle.format.specs.declared.settings.LineAlign.{LineAlign}
use Rattle.format.specs.declared.settings.PositionAlign.{PositionAlign}
use Rattle.format.specs.Tokens.{Flagged, unflagged, folded}
use Rattle.format.specs.RegionSettings.{RegionValues, region_change, region_setting, region_settings}
use Rattle.format.specs.Times.{Result, failed, got, value}
use Rattle.format.specs.TimingLines.{Times, timings, Timing, with_settings, timing_of, timed_line, timing_line}
use Rattle.format.specs.declared.times.TimeFault.{TimeFault}
use Rattle.format.specs.Lines.{after_line_ends, join}
use Rattle.format.specs.Blocks.{Line, lines_at, line_part, holds_arrow, Collecting, between, header, inside, stops, begin, go_on, collected, ended, next}
use Rattle.format.specs.Blocks.{blocks_from, after_signature, blocks, bytes_of, joined}
use Rattle.format.specs.Lists.{Cue, Item, nothing, cue, style, region, cue_of, region_of, is_word, definition, meaning, is_cue, items_from}
use Rattle.format.specs.Lists.{items, Lists, into, listed, lists}
use Rattle.laws.proofs.Tests.{by-test}
use Rattle.laws.proofs.Runs.{drop-take}
use Rattle.laws.proofs.TimeSteps.{Leaves, timing_steps}
use Rattle.laws.proofs.Lines.{splits}
use Rattle.laws.proofs.Tokens.{after_at}
use Rattle.laws.proofs.Changes.{opening_values, name_after_lem, id_after_lem}

-- these bytes stand at this place of the text
abbrev pub StandsAt : List ℕ → ℕ → List ℕ → Type 0
StandsAt s p x = take (length x) (drop p s) ≡ x

abbrev pub Stands : List ℕ → Part → Type 0
Stands s l = StandsAt s l.place l.bytes

pub stands_empty : (s : List ℕ) → Stands s empty_part
stands_empty s = refl

pub stands_drop : (s : List ℕ) (p n : ℕ) (x : List ℕ) → StandsAt s p x → StandsAt s (p + n) (drop n x)
stands_drop s p n x h = rw (length-drop n x, ← drop-drop n p s, ← drop-take n (length x) (drop p s)) (ap (drop n) h)

-- bytes that follow each other stand where they all do
module _ (s : List ℕ) (p : ℕ) (x y : List ℕ) where
  pub stands_front : StandsAt s p (x ++ y) → StandsAt s p x
  stands_front h =
      sym (take-take (length x) (length (x ++ y)) (drop p s) (omega (arith, length-append x y)))
      ∙ ap (take (length x)) h
      ∙ take-append_seam x y

  pub stands_back : StandsAt s p (x ++ y) → StandsAt s (p + length x) y
  stands_back h = rw (drop-append_seam x y) at (stands_drop s p (length x) (x ++ y) h)

  pub stands_both : StandsAt s p x → StandsAt s (p + length x) y → StandsAt s p (x ++ y)
  stands_both h k =
      rw (length-append x y, take-add (length x) (length y) (drop p s), drop-drop (length x) p s) (rw (h, k))

-- every element of a list
abbrev pub All : {A : Type 0} → (A → Type 0) → List A → Type 0
All P [] = Unit
All P (x ∷ xs) = P x × All P xs

pub all_append : {A : Type 0} (P : A → Type 0) (xs ys : List A) → All P xs → All P ys → All P (xs ++ ys)
all_append P [] ys g h = h
all_append P (x ∷ xs) ys g h = (g.0, all_append P xs ys g.1 h)

-- a choice between two
pub either : {A : Type 0} (P : A → Type 0) (t : Bool) {a b : A} → P a → P b → P (cond t a b)
either P true p q = p
either P false p q = q

-- a value that may be missing
pub by_option : {A : Type 0} (P : Option A → Type 0) (o : Option A) → P None → ((a : A) → P (Some a)) → P o
by_option P None n s = n
by_option P (Some a) n s = s a

-- where a text begins with a token, that token stands at the text's place
First : ℕ → List Part → Type 0
First p [] = ⊥
First p (t ∷ ts) = t.place ≡ p

first_on : (p b : ℕ) (ts : List Part) → First p (on_token p b ts)
unfolding First on_token
first_on p b [] = refl
first_on p b (t ∷ ts) = refl

first_token : (p : ℕ) (x : List ℕ) → in_token x ≡ true → First p (tokens p x)
unfolding First tokens before_tokens in_token
first_token p [] e = absurd (false≢true e)
first_token p (b ∷ x) e =
    by-test (white b)
    (λ y. absurd (false≢true (rw y at e)))
    (λ n. rw n (either (First p) (in_token x) (first_on p b (tokens (suc p) x)) refl))

module _ (s : List ℕ) where
  stands_on : (p b : ℕ) (ts : List Part) → First (suc p) ts → StandsAt s p (b ∷ []) → All (Stands s) ts → All (Stands s) (on_token p b ts)
  unfolding First on_token
  stands_on p b [] f h hs = absurd f
  stands_on p b (t ∷ ts) f h hs =
      let e : p + 1 ≡ t.place = omega (arith, f) in
      (stands_both s p (b ∷ []) t.bytes h (rw e hs.0), hs.1)

  pub stands_token : (p : ℕ) (x : List ℕ) → StandsAt s p x → All (Stands s) (tokens p x)
  unfolding tokens before_tokens
  stands_token p [] h = tt
  stands_token p (b ∷ x) h =
      let e : p + 1 ≡ suc p = omega arith in
      let front = stands_front s p (b ∷ []) x h in
      let back = stands_token (suc p) x (rw e at (stands_back s p (b ∷ []) x h)) in
      either (All (Stands s)) (white b)
      back
      (by-test (in_token x)
      (λ y. rw y (stands_on p b (tokens (suc p) x) (first_token (suc p) x y) front back))
      (λ n. rw n (front, back)))

  pub stands_value : (t : Part) → Stands s t → Stands s (value_of t)
  unfolding value_of name_of
  stands_value t h = rw (after_at colon t.bytes) (stands_drop s t.place (suc (length (before_first colon t.bytes))) t.bytes h)

-- a line that is not minus zero
abbrev pub Signed : LineSetting → Type 0
Signed LineSetting.Auto = Unit
Signed (LineSetting.At false n) = Unit
Signed (LineSetting.At true n) = 0 < n

-- a setting leaves a cue's region as it was, takes it away, or puts its value there
cue_settings_lem :
    (P : Part → Type 0) (s : Flagged CueSettings) (ts : List Part)
    → P empty_part
    → All (λ t. P (value_of t)) ts
    → P s.value.region
    → P (folded cue_setting s ts).value.region
unfolding folded cue_setting changed
cue_settings_lem P s [] e v h = h
cue_settings_lem P s (t ∷ ts) e v h =
    let r = cue_setting t s.value in
    let n = s.value.region in
    cue_settings_lem P (record { value = r.value; over = s.over || r.over }) ts e v.1
    (name_after_lem (λ a b. P a) {b = n} e (cue_change t s.value.settings) {x = value_of t} {n = n} {y = n} {m = n} v.0 h)

-- a setting leaves a region's identifier as it was, or puts its value there
pub region-id :
    (P : Part → Type 0) (s : Flagged RegionValues) (ts : List Part)
    → All (λ t. P (value_of t)) ts
    → P s.value.id
    → P (folded region_setting s ts).value.id
unfolding folded region_setting
region-id P s [] v h = h
region-id P s (t ∷ ts) v h =
    let r = region_setting t s.value in
    let x = value_of t in
    let id = s.value.id in
    region-id P (record { value = r.value; over = s.over || r.over }) ts v.1 (id_after_lem (λ a b. P a) (region_change t) x id x id v.0 h)

-- no setting makes a line minus zero
line_signed : (n : LineNumber) → Signed (LineSetting.At (is_negative n) (millionths n.size))
unfolding is_negative
line_signed n = go n.minus
  where
    go : (minus : Bool) → Signed (LineSetting.At (minus && ltb 0 (millionths n.size)) (millionths n.size))
    go true = by-test (ltb 0 (millionths n.size)) (λ y. rw y (ltb-true 0 (millionths n.size) y)) (λ z. rw z tt)
    go false = tt

-- a change that sets no line to minus zero
SignedChange : Change → Type 0
SignedChange Change.Nothing = Unit
SignedChange Change.Over = Unit
SignedChange Change.Region = Unit
SignedChange (Change.Vertical d) = Unit
SignedChange (Change.Line l) = Signed l.line
SignedChange (Change.Position p) = Unit
SignedChange (Change.Size n) = Unit
SignedChange (Change.Align a) = Unit

line_changed : (place : List ℕ) (a : Option LineAlign) → SignedChange (line_aligned place a)
unfolding SignedChange line_aligned line_at_percentage line_counted
line_changed place None = tt
line_changed place (Some a) =
    either SignedChange (ends_with percent place)
    (by_option (λ n. SignedChange (option_map_or (line_at_percentage a) n Change.Nothing)) (percentage place) tt (λ n. tt))
    (by_option (λ n. SignedChange (line_counted n a)) (line_number place) tt (λ n. either SignedChange (over_line n) tt (line_signed n)))

position_changed : (n : Option ℕ) (a : Option PositionAlign) → SignedChange (position_aligned n a)
unfolding SignedChange position_aligned
position_changed None a = tt
position_changed (Some n) None = tt
position_changed (Some n) (Some a) = tt

change_signed : (t : Part) (s : Settings) → SignedChange (cue_change t s)
unfolding SignedChange cue_change named line_change position_change
change_signed t s =
    let name = name_of t in
    let x = (value_of t).bytes in
    let n = before_first comma x in
    either SignedChange (is_empty name || is_empty x) tt
    (either SignedChange (same name (ascii "region")) tt
    (either SignedChange (same name (ascii "vertical")) tt
    (either SignedChange (same name (ascii "line")) (line_changed n (line_align x s.line.align))
    (either SignedChange (same name (ascii "position")) (position_changed (percentage n) (position_align x s.position.align))
    (either SignedChange (same name (ascii "size")) (by_option (λ n. SignedChange (option_map_or Change.Size n Change.Nothing)) (percentage x) tt (λ n. tt))
    (either SignedChange (same name (ascii "align")) tt tt))))))

changed-signed : (h : Change) (s : Settings) → SignedChange h → Signed s.line.line → Signed (settings_after h s).line.line
unfolding SignedChange
changed-signed Change.Nothing s k h = h
changed-signed Change.Over s k h = h
changed-signed Change.Region s k h = h
changed-signed (Change.Vertical d) s k h = h
changed-signed (Change.Line l) s k h = k
changed-signed (Change.Position p) s k h = h
changed-signed (Change.Size n) s k h = h
changed-signed (Change.Align a) s k h = h

settings-signed : (s : Flagged CueSettings) (ts : List Part) → Signed s.value.settings.line.line → Signed (folded cue_setting s ts).value.settings.line.line
unfolding folded cue_setting changed
settings-signed s [] h = h
settings-signed s (t ∷ ts) h =
    let r = cue_setting t s.value in
    settings-signed (record { value = r.value; over = s.over || r.over }) ts
    (changed-signed (cue_change t s.value.settings) s.value.settings (change_signed t s.value.settings) h)

timing_signed : (line : Part) (t : Timing) (r : Result Times) → value (timing_of line r) ≡ Some t → Signed t.settings.line.line
unfolding value timing_of with_settings cue_settings
timing_signed line t (failed f rest) e = let z : ◌≡◌ {A = ℕ} 0 1 = cc in absurd (omega arith)
timing_signed line t (got x rest) e =
    let q = line.place + (length line.bytes - length rest) in
    let left : Part = record { place = q; bytes = rest } in
    let f : with_settings x (cue_settings left) ≡ t = cc in
    subst (λ u. Signed u.settings.line.line) f (settings-signed _ (tokens q rest) tt)

all_values : (s : List ℕ) (ts : List Part) → All (Stands s) ts → All (λ t. Stands s (value_of t)) ts
all_values s [] h = tt
all_values s (t ∷ ts) h = (stands_value s t h.0, all_values s ts h.1)

stands_values : (s : List ℕ) (p : Part) → Stands s p → All (λ t. Stands s (value_of t)) (tokens p.place p.bytes)
stands_values s p h = all_values s (tokens p.place p.bytes) (stands_token s p.place p.bytes h)

pub stands_cue_settings : (s : List ℕ) (p : Part) → Stands s p → Stands s (cue_settings p).value.region
unfolding cue_settings
stands_cue_settings s p h =
    let none = stands_empty s in
    cue_settings_lem (Stands s) _ (tokens p.place p.bytes) none (stands_values s p h) none

pub stands_region : (s : List ℕ) (p : Part) → Stands s p → Stands s (region_settings p).value.id
unfolding region_settings
stands_region s p h =
    region-id (Stands s) (unflagged opening_values) (tokens p.place p.bytes) (stands_values s p h) (stands_empty s)

-- a timing line's settings are the end of the line
timing_of_lem :
    (P : TimeFault → Type 0) (s : List ℕ) (line : Part) (t : Timing) (r : Result Times)
    → Leaves P line.bytes r
    → Stands s line
    → value (timing_of line r) ≡ Some t
    → Stands s t.region
unfolding value timing_of with_settings
timing_of_lem P s line t (failed f rest) k h e = let z : ◌≡◌ {A = ℕ} 0 1 = cc in absurd (omega arith)
timing_of_lem P s line t (got x rest) k h e =
    let q = line.place + (length line.bytes - length rest) in
    let n : line.place + length k.gone ≡ q = omega (arith, ap length k.is, length-append k.gone rest) in
    let left : Part = record { place = q; bytes = rest } in
    let whole : StandsAt s line.place (k.gone ++ rest) = rw k.is at h in
    let settled = stands_cue_settings s left (rw n at (stands_back s line.place k.gone rest whole)) in
    let f : with_settings x (cue_settings left) ≡ t = cc in
    subst (λ u. Stands s u.region) f settled

pub stands_timing : (s : List ℕ) (line : Part) (t : Timing) → Stands s line → timing_line line ≡ Some t → Stands s t.region
unfolding timing_line timed_line
stands_timing s line t h e = timing_of_lem _ s line t (timings line.bytes) (timing_steps.at line.bytes) h e

-- lines that follow each other: from each of them on, they stand as one part
abbrev pub Follow : List ℕ → List Line → Type 0
Follow s [] = Unit
Follow s (l ∷ ls) = Stands s (joined (l ∷ ls)) × Follow s ls

pub bytes_append : (a b : List Line) → bytes_of (a ++ b) ≡ bytes_of a ++ bytes_of b
unfolding bytes_of
bytes_append [] b = refl
bytes_append (l ∷ a) b = ap (λ r. l.bytes ∷ r) (bytes_append a b)

pub bytes-lines : (n p : ℕ) (ls : List (List ℕ)) → bytes_of (lines_at n p ls) ≡ ls
unfolding bytes_of lines_at
bytes-lines n p [] = refl
bytes-lines n p (l ∷ ls) = ap (λ r. l ∷ r) (bytes-lines (suc n) (p + suc (length l)) ls)

pub length-bytes : (ls : List Line) → length (bytes_of ls) ≡ length ls
unfolding bytes_of
length-bytes [] = refl
length-bytes (l ∷ ls) = ap suc (length-bytes ls)

pub ended_append : (a b : List (List ℕ)) → after_line_ends (a ++ b) ≡ after_line_ends a ++ after_line_ends b
unfolding after_line_ends
ended_append [] b = refl
ended_append (l ∷ a) b =
    ap (λ r. lf ∷ (l ++ r)) (ended_append a b) ∙ ap (λ r. lf ∷ r) (sym (append_assoc l (after_line_ends a) (after_line_ends b)))

join_append : (l : List ℕ) (a b : List Line) → join (l ∷ bytes_of (a ++ b)) ≡ join (l ∷ bytes_of a) ++ after_line_ends (bytes_of b)
unfolding join
join_append l a b =
    ap (λ r. l ++ after_line_ends r) (bytes_append a b)
    ∙ ap (λ r. l ++ r) (ended_append (bytes_of a) (bytes_of b))
    ∙ sym (append_assoc l (after_line_ends (bytes_of a)) (after_line_ends (bytes_of b)))

-- the lines that a block being collected has so far
lines_in : Collecting → List Line
lines_in between = []
lines_in header = []
lines_in (inside ls) = ls

module _ (s : List ℕ) where
  follow_joined : (ls : List Line) → Follow s ls → Stands s (joined ls)
  unfolding joined
  follow_joined [] h = stands_empty s
  follow_joined (l ∷ ls) h = h.0

  follow_line : (l : Line) (ls : List Line) → Follow s (l ∷ ls) → Stands s (line_part l)
  unfolding joined bytes_of join
  follow_line l ls h = stands_front s l.place l.bytes (after_line_ends (bytes_of ls)) h.0

  follow_front : (a b : List Line) → Follow s (a ++ b) → Follow s a
  unfolding joined bytes_of
  follow_front [] b h = tt
  follow_front (l ∷ a) b h =
      let joins = join_append l.bytes a b in
      (stands_front s l.place (join (l.bytes ∷ bytes_of a)) (after_line_ends (bytes_of b)) (rw joins at h.0), follow_front a b h.1)

  follow_back : (a b : List Line) → Follow s (a ++ b) → Follow s b
  follow_back [] b h = h
  follow_back (l ∷ a) b h = follow_back a b h.1

  follow_lines : (n p : ℕ) (l : List ℕ) (ls : List (List ℕ)) → StandsAt s p (join (l ∷ ls)) → Follow s (lines_at n p (l ∷ ls))
  unfolding joined bytes_of lines_at join after_line_ends
  follow_lines n p l [] h = (h, tt)
  follow_lines n p l (m ∷ ls) h =
      let e : p + length l + 1 ≡ p + suc (length l) = omega arith in
      let rest = stands_back s (p + length l) (lf ∷ []) (m ++ after_line_ends ls) (stands_back s p l (lf ∷ (m ++ after_line_ends ls)) h) in
      (rw (bytes-lines (suc (suc n)) (p + suc (length l) + suc (length m)) ls) h, follow_lines (suc n) (p + suc (length l)) m ls (rw e at rest))

  -- a block's lines follow each other
  follow_collected : (st : Collecting) → Follow s (lines_in st) → All (Follow s) (collected st)
  unfolding lines_in collected
  follow_collected between h = tt
  follow_collected header h = tt
  follow_collected (inside ls) h = (h, tt)

  follow_begin : (l : Line) (ls : List Line) → Follow s (l ∷ ls) → Follow s (lines_in (begin l) ++ ls)
  unfolding lines_in begin
  follow_begin l ls h = either (λ st. Follow s (lines_in st ++ ls)) (is_empty l.bytes) h.1 h

  follow_on : (st : Collecting) (l : Line) (ls : List Line) → Follow s (lines_in st ++ l ∷ ls) → Follow s (lines_in (go_on st l) ++ ls)
  unfolding lines_in go_on
  follow_on between l ls h = follow_begin l ls h
  follow_on header l ls h = h.1
  follow_on (inside ks) l ls h = rw (append_snoc ks l ls) h

  follow_blocks : (st : Collecting) (ls : List Line) → Follow s (lines_in st ++ ls) → All (Follow s) (blocks_from st ls)
  unfolding blocks_from ended next
  follow_blocks st [] h = follow_collected st (follow_front (lines_in st) [] h)
  follow_blocks st (l ∷ ls) h =
      by-test (stops st l)
      (λ y. let block = follow_collected st (follow_front (lines_in st) (l ∷ ls) h) in
      let rest = follow_blocks (begin l) ls (follow_begin l ls (follow_back (lines_in st) (l ∷ ls) h)) in
      rw y (all_append (Follow s) (collected st) (blocks_from (begin l) ls) block rest))
      (λ n. rw n (follow_blocks (go_on st l) ls (follow_on st l ls h)))

  pub blocks_follow : All (Follow s) (blocks s)
  unfolding blocks after_signature lines_in lines_at
  blocks_follow =
      let t = splits s in
      let h = follow_lines 0 0 t.first t.rest (rw t.joined (take-length s)) in
      rw t.is (follow_blocks header (lines_at 1 (0 + suc (length t.first)) t.rest) h.1)

  -- so the parts of what it gives stand
  pub record CueStands (c : Cue) : Type 0 where
    pub id : Stands s c.id
    pub text : Stands s c.text
    pub region : Stands s c.region
    -- and its line is not minus zero
    pub line : Signed c.settings.line.line

  abbrev pub ItemStands : Item → Type 0
  ItemStands nothing = Unit
  ItemStands (cue c over) = CueStands c
  ItemStands (style text) = Stands s text
  ItemStands (region r over) = Stands s r.id

  cue_stands :
      (id line : Part) (ls : List Line) (o : Option Timing)
      → timing_line line ≡ o
      → Stands s id
      → Stands s line
      → Follow s ls
      → ItemStands (cue_of id ls o)
  unfolding cue_of timing_line timed_line
  cue_stands id line ls None e i l h = tt
  cue_stands id line ls (Some t) e i l h =
      record { id = i; text = follow_joined ls h; region = stands_timing s line t l e; line = timing_signed line t (timings line.bytes) e }

  meaning_stands : (seen : Bool) (b : List Line) → Follow s b → ItemStands (meaning seen b)
  unfolding meaning definition region_of
  meaning_stands seen [] h = tt
  meaning_stands seen (first ∷ []) h =
      either ItemStands (holds_arrow first.bytes)
      (cue_stands empty_part (line_part first) [] (timing_line (line_part first)) refl (stands_empty s) (follow_line first [] h) tt) tt
  meaning_stands seen (first ∷ (second ∷ ls)) h =
      let ls₂ = second ∷ ls in
      let one = follow_line first ls₂ h in
      either ItemStands (holds_arrow first.bytes)
      (cue_stands empty_part (line_part first) ls₂ (timing_line (line_part first)) refl (stands_empty s) one h.1)
      (either ItemStands (holds_arrow second.bytes)
      (cue_stands (line_part first) (line_part second) ls (timing_line (line_part second)) refl one (follow_line second ls h.1) h.1.1)
      (either ItemStands seen tt
      (either ItemStands (is_word (ascii "STYLE") first.bytes) (follow_joined ls₂ h.1)
      (either ItemStands (is_word (ascii "REGION") first.bytes) (stands_region s (joined ls₂) (follow_joined ls₂ h.1)) tt))))

  pub items_stand : (seen : Bool) (bs : List (List Line)) → All (Follow s) bs → All ItemStands (items_from seen bs)
  unfolding items_from
  items_stand seen [] h = tt
  items_stand seen (b ∷ bs) h = (meaning_stands seen b h.0, items_stand (seen || is_cue (meaning seen b)) bs h.1)

  pub record ListsStand (l : Lists) : Type 0 where
    pub cues : All CueStands l.cues
    pub regions : All (λ r. Stands s r.id) l.regions
    pub styles : All (Stands s) l.styles

  into_stands : (i : Item) (l : Lists) → ItemStands i → ListsStand l → ListsStand (into i l)
  unfolding into
  into_stands nothing l h k = k
  into_stands (cue c over) l h k = record { cues = (h, k.cues); regions = k.regions; styles = k.styles }
  into_stands (style text) l h k = record { cues = k.cues; regions = k.regions; styles = (h, k.styles) }
  into_stands (region r over) l h k = record { cues = k.cues; regions = (h, k.regions); styles = k.styles }

  listed_stand : (items : List Item) → All ItemStands items → ListsStand (listed items)
  unfolding listed
  listed_stand [] h = record { cues = tt; regions = tt; styles = tt }
  listed_stand (i ∷ items) h = into_stands i (listed items) h.0 (listed_stand items h.1)

  pub lists_stand : ListsStand (lists s)
  unfolding lists items
  lists_stand = listed_stand (items_from false (blocks s)) (items_stand false (blocks s) blocks_follow)
