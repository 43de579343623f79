-- Rows and what they say: coding and decoding are inverse, and the rows that reading stores have the contents of what was read.
use Prim.Native.Nat.{ℕ, suc, ◌+◌, ◌-◌, ◌≤◌, ◌<◌, min}
use mathlib.Core.Path.{◌≡◌, refl, ap, ◌∙◌}
use mathlib.Core.Bool.{Bool, true, false, ◌||◌, ◌&&◌}
use mathlib.Core.List.{List, [], ◌∷◌, map}
use Rattle.std.specs.Prelude.{Option, None, Some}
use native.Mathlib.Omega.{arith}
use lib.Dec.{eqb, ltb}
use lib.ListN.{length, take, drop, length-append}
use borrow.Author.Tests.{lt-ltb, ltb-true, ne_eqb}
use Rattle.format.specs.Limits.{max_text}
use Rattle.format.specs.Bytes.{lf}
use Rattle.format.specs.Texts.{Part, is_empty, bytes_at}
use Rattle.format.specs.Lines.{split_list_at, split, before, on_first}
use Rattle.format.specs.CueSettings.{span_is}
use Rattle.format.specs.RegionSettings.{RegionValues, last_named, region_is}
use Rattle.format.specs.Blocks.{Line as TextLine, lines_at, Collecting, between, header, inside, stops, begin, go_on, collected, ended, next, blocks_from, after_signature, blocks}
use Rattle.format.specs.Lists.{Cue, Item, nothing, cue, style, region, meaning, is_cue, items_from, items, Lists, into, listed, lists}
use Rattle.format.specs.Rows.{direction_of, line_of, line_align_of, position_of, position_align_of, align_of, region_index_of, scroll_of, direction_word, line_word, line_number_word, snap_word, line_align_word, position_word, position_number_word, position_align_word, align_word, region_word, scroll_word, greatest_word}
use Rattle.format.specs.Rows.{word, cue_entry_with, cue_words, region_words, style_words, cue_entry, region_entry, cue_span, region_for, entry_is, ids, cue_rows, region_rows, style_rows, stored_cues}
use Rattle.format.specs.LineNumbers.{line_spans}
use Rattle.format.specs.Contents.{cue_contents, region_contents, contents, cue_of_entry, region_of_entry, cue_of_row, region_of_row, style_of_row, contents_of_rows, stored_contents}
use Rattle.laws.proofs.Tests.{by-test}
use Rattle.laws.proofs.Names.{found}
use Rattle.laws.proofs.LineNumbers.{spans_length}
use Rattle.laws.proofs.Standing.{All, Stands, Signed, CueStands, lists_stand}
use Rattle.format.specs.declared.settings.Direction.{Direction}
use Rattle.format.specs.declared.settings.Line.{Line}
use Rattle.format.specs.declared.settings.LineAlign.{LineAlign}
use Rattle.format.specs.declared.settings.Position.{Position}
use Rattle.format.specs.declared.settings.PositionAlign.{PositionAlign}
use Rattle.format.specs.declared.settings.Align.{Align}
use Rattle.format.specs.declared.regions.Region.{Region}
use Rattle.format.specs.declared.regions.Scroll.{Scroll}
use Rattle.format.specs.declared.rows.CueEntry.{CueEntry}
use Rattle.format.specs.declared.rows.LineSpan.{LineSpan}

-- each choice's word names the choice
direction_coded : (d : Direction) → direction_of (direction_word d) ≡ d
direction_coded Direction.Horizontal = refl
direction_coded Direction.Rl = refl
direction_coded Direction.Lr = refl

-- a line's word names it, where it is not minus zero
line_coded : (l : Line) → Signed l → line_of (line_word l) (line_number_word l) ≡ l
line_coded Line.Auto h = refl
line_coded (Line.At false n) h = refl
line_coded (Line.At true n) h = rw (lt-ltb 0 n h)

snap_coded : (s : Bool) → eqb (snap_word s) 0 ≡ s
snap_coded true = refl
snap_coded false = refl

line_align_coded : (a : LineAlign) → line_align_of (line_align_word a) ≡ a
line_align_coded LineAlign.Start = refl
line_align_coded LineAlign.Center = refl
line_align_coded LineAlign.End = refl

position_coded : (p : Position) → position_of (position_word p) (position_number_word p) ≡ p
position_coded Position.Auto = refl
position_coded (Position.At n) = refl

position_align_coded : (a : PositionAlign) → position_align_of (position_align_word a) ≡ a
position_align_coded PositionAlign.Auto = refl
position_align_coded PositionAlign.LineLeft = refl
position_align_coded PositionAlign.Center = refl
position_align_coded PositionAlign.LineRight = refl

align_coded : (a : Align) → align_of (align_word a) ≡ a
align_coded Align.Start = refl
align_coded Align.Center = refl
align_coded Align.End = refl
align_coded Align.Left = refl
align_coded Align.Right = refl

-- a line that a row says is never minus zero
pub row-signed : (r : Option ℕ) (w : List ℕ) → Signed (cue_entry_with r w).settings.line.line
row-signed r w = go (word 7 w) (word 8 w)
  where
    below : (m : ℕ) (b : Bool) → Signed (Line.At (b && ltb 0 m) m)
    below m true = by-test (ltb 0 m) (λ y. rw y (ltb-true 0 m y)) (λ z. rw z tt)
    below m false = tt

    go : (n m : ℕ) → Signed (line_of n m)
    go n m = by-test (eqb n 0) (λ y. rw y tt) (λ z. rw z (below m (eqb n 2)))

-- an index that has a word of its own
abbrev pub Indexed : Option ℕ → Type 0
Indexed None = Unit
Indexed (Some n) = n < greatest_word

region_coded : (i : Option ℕ) → Indexed i → region_index_of (region_word i) ≡ i
region_coded None l = refl
region_coded (Some n) l =
    let h : min (suc n) greatest_word ≡ suc n = omega arith in
    let q : suc n - 1 ≡ n = omega arith in
    rw (h, ne_eqb (suc n) 0 (λ e. omega arith), q)

scroll_coded : (s : Scroll) → scroll_of (scroll_word s) ≡ s
scroll_coded Scroll.None = refl
scroll_coded Scroll.Up = refl

-- coding and decoding are inverse
pub cue_inverse : (e : CueEntry) (lines : LineSpan) → Signed e.settings.line.line → Indexed e.region → cue_entry (cue_words e lines) ≡ e
cue_inverse e lines h l =
    rw (
      direction_coded e.settings.vertical,
      line_coded e.settings.line.line h,
      snap_coded e.settings.line.snap,
      line_align_coded e.settings.line.align,
      position_coded e.settings.position.position,
      position_align_coded e.settings.position.align,
      align_coded e.settings.align,
      region_coded e.region l,
    )

pub region_inverse : (r : Region) → region_entry (region_words r) ≡ r
region_inverse r = rw (scroll_coded r.settings.scroll)

ids-length : (rs : List RegionValues) → length (ids rs) ≡ length rs
unfolding ids
ids-length [] = refl
ids-length (r ∷ rs) = ap suc (ids-length rs)

region_indexed : (rs : List RegionValues) (name : Part) → length rs ≤ greatest_word → Indexed ((region_for rs name))
unfolding region_for
region_indexed rs name l =
    by-test (is_empty name.bytes)
    (λ y. rw y tt)
    (λ n. rw n (go (last_named 0 name.bytes (ids rs)) refl))
  where
    go : (o : Option ℕ) → last_named 0 name.bytes (ids rs) ≡ o → Indexed (o)
    go None q = tt
    go (Some i) q = omega (arith, (found 0 name.bytes (ids rs) i q).below, ids-length rs)

-- the rows that reading makes are read back as their entries
pub read_inverse :
    (rs : List RegionValues) (c : Cue) (lines : LineSpan)
    → Signed c.settings.line.line
    → length rs ≤ greatest_word
    → cue_entry (cue_words (entry_is rs c) lines) ≡ entry_is rs c
unfolding entry_is
read_inverse rs c lines h l = cue_inverse (entry_is rs c) lines h (region_indexed rs c.region l)

-- a text has no more lines than bytes and one, no more blocks than lines, and no more regions than blocks
split-length : (s : List ℕ) → length (split s) ≤ suc (length s)
unfolding split_list_at before on_first
split-length [] = omega arith
split-length (b ∷ s) =
    by-test (eqb b lf)
    (λ y. rw y (omega (arith, split-length s)))
    (λ n. rw n (omega (arith, first (split s), split-length s)))
  where
    first : (ls : List (List ℕ)) → length (on_first b ls) ≤ suc (length ls)
    first [] = omega arith
    first (l ∷ ls) = omega arith

pub lines-length : (n p : ℕ) (ls : List (List ℕ)) → length (lines_at n p ls) ≡ length ls
unfolding lines_at
lines-length n p [] = refl
lines-length n p (l ∷ ls) = ap suc (lines-length (suc n) (p + suc (length l)) ls)

begin-length : (l : TextLine) → length (collected (begin l)) ≤ 1
unfolding begin collected
begin-length l = by-test (is_empty l.bytes) (λ y. rw y (omega arith)) (λ n. rw n (omega arith))

on_length : (st : Collecting) (l : TextLine) → length (collected (go_on st l)) ≤ suc (length (collected st))
unfolding go_on collected
on_length between l = begin-length l
on_length header l = omega arith
on_length (inside ls) l = omega arith

blocks-length : (st : Collecting) (ls : List TextLine) → length (blocks_from st ls) ≤ length (collected st) + length ls
unfolding blocks_from ended next
blocks-length st [] = omega arith
blocks-length st (l ∷ ls) =
    by-test (stops st l)
    (λ y. rw y (omega (arith, length-append (collected st) (blocks_from (begin l) ls), blocks-length (begin l) ls, begin-length l)))
    (λ n. rw n (omega (arith, blocks-length (go_on st l) ls, on_length st l)))

into-length : (i : Item) (l : Lists) → length (into i l).regions ≤ suc (length l.regions)
unfolding into
into-length nothing l = omega arith
into-length (cue c over) l = omega arith
into-length (style text) l = omega arith
into-length (region r over) l = omega arith

items-length : (seen : Bool) (bs : List (List TextLine)) → length (listed (items_from seen bs)).regions ≤ length bs
unfolding items_from listed
items-length seen [] = omega arith
items-length seen (b ∷ bs) =
    let later = items_from (seen || is_cue (meaning seen b)) bs in
    omega (arith, into-length (meaning seen b) (listed later), items-length (seen || is_cue (meaning seen b)) bs)

regions-length : (s : List ℕ) → length (lists s).regions ≤ suc (length s)
unfolding lists items blocks after_signature collected
regions-length s = omega (arith, items-length false (blocks s), few (lines_at 0 0 (split s)), lines-length 0 0 (split s), split-length s)
  where
    few : (ls : List TextLine) → length (after_signature ls) ≤ length ls
    few [] = omega arith
    few (l ∷ ls) = omega (arith, blocks-length header ls)

-- a part that stands in a text is there between the places of its span
pub stands_bytes : (s : List ℕ) (p : Part) → Stands s p → bytes_at s (span_is p).from (span_is p).to ≡ p.bytes
unfolding bytes_at span_is is_empty
stands_bytes s p h = go p.place p.bytes h
  where
    go : (place : ℕ) (x : List ℕ) → take (length x) (drop place s) ≡ x → bytes_at s (span_is (record { place = place; bytes = x })).from (span_is (record { place = place; bytes = x })).to ≡ x
    go place [] e = refl
    go place (b ∷ x) e = let n : place + length (b ∷ x) - place ≡ length (b ∷ x) = omega arith in rw n e

-- the row of a cue, a region and a style has the contents of what was read
cue-same :
    (s : List ℕ) (rs : List RegionValues) (c : Cue) (lines : LineSpan)
    → CueStands s c
    → length rs ≤ greatest_word
    → cue_of_row s (cue_words (entry_is rs c) lines) ≡ cue_contents rs c
unfolding cue_of_entry entry_is cue_contents
cue-same s rs c lines k l =
    ap (cue_of_entry s) (read_inverse rs c lines k.line l)
    ∙ rw (stands_bytes s c.id k.id, stands_bytes s c.text k.text)

region-same : (s : List ℕ) (r : RegionValues) → Stands s r.id → region_of_row s (region_words (region_is r)) ≡ region_contents r
unfolding region_of_entry region_contents
region-same s r k = ap (region_of_entry s) (region_inverse (region_is r)) ∙ rw (stands_bytes s r.id k)

style-same : (s : List ℕ) (t : Part) → Stands s t → style_of_row s (style_words (span_is t)) ≡ t.bytes
style-same s t k = stands_bytes s t k

-- two functions agree on a list whose members have a property
maps : {A B C : Type 0} (P : A → Type 0) (f : B → C) (g : A → B) (h : A → C) → ((a : A) → P a → f (g a) ≡ h a) → (xs : List A) → All P xs → map f (map g xs) ≡ map h xs
maps P f g h e [] k = refl
maps P f g h e (x ∷ xs) k = rw (e x k.0, maps P f g h e xs k.1) refl

-- the rows of cues that have lines, as many of these as cues
rows_same :
    (s : List ℕ) (rs : List RegionValues) (cs : List Cue) (ls : List LineSpan)
    → length ls ≡ length cs
    → All (CueStands s) cs
    → length rs ≤ greatest_word
    → map (cue_of_row s) (cue_rows rs cs ls) ≡ map (cue_contents rs) cs
unfolding cue_rows
rows_same s rs [] ls e k l = refl
rows_same s rs (c ∷ cs) [] e k l = absurd (omega arith)
rows_same s rs (c ∷ cs) (m ∷ ls) e k l = rw (cue-same s rs c m k.0 l, rows_same s rs cs ls (omega arith) k.1 l) refl

-- and what they say of these lines
rows_spans : (rs : List RegionValues) (cs : List Cue) (ls : List LineSpan) → length ls ≡ length cs → map cue_span (cue_rows rs cs ls) ≡ ls
unfolding cue_rows
rows_spans rs [] [] e = refl
rows_spans rs [] (m ∷ ls) e = absurd (omega arith)
rows_spans rs (c ∷ cs) [] e = absurd (omega arith)
rows_spans rs (c ∷ cs) (m ∷ ls) e = ap (λ r. m ∷ r) (rows_spans rs cs ls (omega arith))

rows-length : (rs : List RegionValues) (cs : List Cue) (ls : List LineSpan) → length ls ≡ length cs → length (cue_rows rs cs ls) ≡ length cs
unfolding cue_rows
rows-length rs [] ls e = refl
rows-length rs (c ∷ cs) [] e = absurd (omega arith)
rows-length rs (c ∷ cs) (m ∷ ls) e = ap suc (rows-length rs cs ls (omega arith))

-- a row for each cue
pub stored-length : (s : List ℕ) → length (stored_cues s) ≡ length (lists s).cues
unfolding stored_cues
stored-length s = rows-length (lists s).regions (lists s).cues (line_spans s) (spans_length s)

-- what a text's rows say of the cues' lines is their lines in the text
pub lines_say : (s : List ℕ) → map cue_span (stored_cues s) ≡ line_spans s
unfolding stored_cues
lines_say s = rows_spans (lists s).regions (lists s).cues (line_spans s) (spans_length s)

-- what a text's rows say is what was read
pub rows_say :
    (s : List ℕ)
    → length s ≤ max_text
    → stored_contents s ≡ contents (lists s)
unfolding stored_contents contents_of_rows contents style_rows region_rows stored_cues
rows_say s l =
    let rs = (lists s).regions in
    let stand = lists_stand s in
    let few : length rs ≤ greatest_word = omega (arith, regions-length s) in
    let cues = rows_same s rs (lists s).cues (line_spans s) (spans_length s) stand.cues few in
    let regions = maps (λ r. Stands s r.id) (region_of_row s) (λ r. region_words (region_is r)) region_contents (region-same s) rs stand.regions in
    let styles = maps (Stands s) (style_of_row s) (λ t. style_words (span_is t)) (λ t. t.bytes) (style-same s) (lists s).styles stand.styles in
    rw (cues, regions, styles) refl
