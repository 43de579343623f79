-- The names of a file's regions have no whitespace: each is the end of a token.
use Prim.Native.Nat.{ℕ, zero, suc}
use mathlib.Core.Path.{◌≡◌, refl}
use mathlib.Core.Bool.{Bool, true, false, ◌||◌}
use mathlib.Core.List.{List, [], ◌∷◌}
use Rattle.std.specs.Prelude.{Option, None, Some}
use lib.Dec.{eqb}
use lib.ListN.{get_or}
use Rattle.format.specs.Bytes.{ascii, colon, white}
use Rattle.format.specs.Texts.{Part, empty_part, all, after_first}
use Rattle.format.specs.Tokens.{unflagged, in_token, on_token, before_tokens, tokens, value_of}
use Rattle.format.specs.RegionSettings.{RegionValues, region_settings}
use Rattle.laws.proofs.Changes.{opening_values}
use Rattle.format.specs.TimingLines.{Timing, timing_line}
use Rattle.format.specs.Blocks.{Line, line_part, holds_arrow, blocks, joined}
use Rattle.format.specs.Lists.{Item, nothing, cue, style, region, cue_of, region_of, is_word, definition, meaning, is_cue, items_from, items, into, listed, lists}
use Rattle.format.specs.Rows.{ids}
use Rattle.laws.proofs.Tests.{by-test, and_right}
use Rattle.laws.proofs.Tokens.{inside as black}
use Rattle.laws.proofs.Standing.{All, either, region-id}

abbrev Dark : Part → Type 0
Dark t = all black t.bytes ≡ true

dark_on : (p b : ℕ) (ts : List Part) → black b ≡ true → All Dark ts → All Dark (on_token p b ts)
unfolding on_token all
dark_on p b [] e h = (rw e, tt)
dark_on p b (t ∷ ts) e h = (rw e h.0, h.1)

dark_tokens : (p : ℕ) (x : List ℕ) → All Dark (tokens p x)
unfolding tokens before_tokens all
dark_tokens p [] = tt
dark_tokens p (b ∷ x) =
    let rest = dark_tokens (suc p) x in
    by-test (white b)
    (λ y. rw y rest)
    (λ n. let e : black b ≡ true = rw n refl in rw n (either (All Dark) (in_token x) (dark_on p b (tokens (suc p) x) e rest) (rw n, rest)))

dark_after : (c : ℕ) (x : List ℕ) → all black x ≡ true → all black (after_first c x) ≡ true
unfolding all after_first
dark_after c [] h = refl
dark_after c (b ∷ x) h =
    let rest = and_right (black b) (all black x) h in
    either (λ r. all black r ≡ true) (eqb b c) {a = x} {b = after_first c x} rest (dark_after c x rest)

dark_values : (ts : List Part) → All Dark ts → All (λ t. Dark (value_of t)) ts
unfolding value_of
dark_values [] h = tt
dark_values (t ∷ ts) h = (dark_after colon t.bytes h.0, dark_values ts h.1)

dark_region : (p : Part) → Dark (region_settings p).value.id
unfolding region_settings all
dark_region p =
    let ts = tokens p.place p.bytes in
    region-id Dark (unflagged opening_values) ts (dark_values ts (dark_tokens p.place p.bytes)) refl

-- an item's region has such a name
abbrev DarkItem : Item → Type 0
DarkItem nothing = Unit
DarkItem (cue c over) = Unit
DarkItem (style text) = Unit
DarkItem (region r over) = Dark r.id

dark_cue : (id : Part) (ls : List Line) (o : Option Timing) → DarkItem (cue_of id ls o)
unfolding cue_of
dark_cue id ls None = tt
dark_cue id ls (Some t) = tt

dark_meaning : (seen : Bool) (b : List Line) → DarkItem (meaning seen b)
unfolding meaning definition region_of
dark_meaning seen [] = tt
dark_meaning seen (first ∷ []) = either DarkItem (holds_arrow first.bytes) (dark_cue empty_part [] (timing_line (line_part first))) tt
dark_meaning seen (first ∷ (second ∷ ls)) =
    either DarkItem (holds_arrow first.bytes) (dark_cue empty_part (second ∷ ls) (timing_line (line_part first)))
    (either DarkItem (holds_arrow second.bytes) (dark_cue (line_part first) ls (timing_line (line_part second)))
    (either DarkItem seen tt
    (either DarkItem (is_word (ascii "STYLE") first.bytes) tt
    (either DarkItem (is_word (ascii "REGION") first.bytes) (dark_region (joined (second ∷ ls))) tt))))

dark_into : (i : Item) (is : List Item) → DarkItem i → All (λ r. Dark r.id) (listed is).regions → All (λ r. Dark r.id) (into i (listed is)).regions
unfolding into
dark_into nothing is h k = k
dark_into (cue c over) is h k = k
dark_into (style text) is h k = k
dark_into (region r over) is h k = (h, k)

dark_items : (seen : Bool) (bs : List (List Line)) → All (λ r. Dark r.id) (listed (items_from seen bs)).regions
unfolding items_from listed
dark_items seen [] = tt
dark_items seen (b ∷ bs) =
    let rest = seen || is_cue (meaning seen b) in
    dark_into (meaning seen b) (items_from rest bs) (dark_meaning seen b) (dark_items rest bs)

dark_at : (rs : List RegionValues) (i : ℕ) → All (λ r. Dark r.id) rs → all black (get_or (ids rs) i []) ≡ true
unfolding ids all
dark_at [] zero h = refl
dark_at [] (suc i) h = refl
dark_at (r ∷ rs) zero h = h.0
dark_at (r ∷ rs) (suc i) h = dark_at rs i h.1

-- no name of a file's region has whitespace
pub names_dark : (s : List ℕ) (i : ℕ) → all black (get_or (ids (lists s).regions) i []) ≡ true
unfolding lists items
names_dark s i = dark_at (listed (items_from false (blocks s))).regions i (dark_items false (blocks s))
