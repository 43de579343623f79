-- Laws of blocks one after another, as the loop over a table puts them.
use Prim.Native.Nat.{ℕ, ◌+◌, ◌<◌}
use mathlib.Core.Path.{◌≡◌, refl, sym, ap, ◌∙◌}
use mathlib.Core.List.{List, [], ◌∷◌, ◌++◌, map, map-map, map-append, append_assoc, append-nil}
use native.Mathlib.Numerals.{add-one}
use lib.ListN.{length, get_or, take}
use lib.Seq.{take-suc}
use Rattle.format.specs.Bytes.{ascii, lf}
use Rattle.format.specs.Lines.{split, after_line_ends, join}
use Rattle.format.specs.Contents.{CueContents, RegionContents, contents_of_rows, cue_of_row, region_of_row, style_of_row}
use Rattle.format.specs.Writing.{file_of}
use Rattle.format.specs.Written.{written_timing, lines_of, cue_lines, region_lines, style_lines, apart, file_lines, line_ended, written}
use Rattle.writer.specs.Blocks.{blocks}

line_ended_append : (xs ys : List (List ℕ)) → line_ended (xs ++ ys) ≡ line_ended xs ++ line_ended ys
unfolding line_ended
line_ended_append [] ys = refl
line_ended_append (l ∷ xs) ys = ap (λ r. l ++ lf ∷ r) (line_ended_append xs ys) ∙ sym (append_assoc l (lf ∷ line_ended xs) (line_ended ys))

apart_append : (bs cs : List (List (List ℕ))) → apart (bs ++ cs) ≡ apart bs ++ apart cs
unfolding apart
apart_append [] cs = refl
apart_append (b ∷ bs) cs = ap (λ r. [] ∷ (b ++ r)) (apart_append bs cs) ∙ ap (λ r. [] ∷ r) (sym (append_assoc b (apart bs) (apart cs)))

-- the blocks of one table and those of the next
blocks_append : (bs cs : List (List (List ℕ))) → line_ended (apart (bs ++ cs)) ≡ line_ended (apart bs) ++ line_ended (apart cs)
blocks_append bs cs = ap line_ended (apart_append bs cs) ∙ line_ended_append (apart bs) (apart cs)

-- a block's lines, each ended, are the lines joined and one LF more
ended-joined : (l : List ℕ) (ls : List (List ℕ)) → line_ended (l ∷ ls) ≡ join (l ∷ ls) ++ lf ∷ []
unfolding line_ended join after_line_ends
ended-joined l [] = ap (λ r. r ++ lf ∷ []) (sym (append-nil l))
ended-joined l (m ∷ ls) = ap (λ r. l ++ lf ∷ r) (ended-joined m ls) ∙ sym (append_assoc l (lf ∷ join (m ∷ ls)) (lf ∷ []))

abbrev Ended : List (List ℕ) → Type 0
Ended ls = line_ended ls ≡ join ls ++ lf ∷ []

ended_middle : (xs : List (List ℕ)) (t : List ℕ) (ys : List (List ℕ)) → Ended (xs ++ t ∷ ys)
ended_middle [] t ys = ended-joined t ys
ended_middle (x ∷ xs) t ys = ended-joined x (xs ++ t ∷ ys)

style-ended : (text : List ℕ) → Ended (style_lines text)
unfolding style_lines
style-ended text = ended-joined (ascii "STYLE") (split text)

region-ended : (r : RegionContents) → Ended (region_lines r)
unfolding region_lines
region-ended r = ended-joined (ascii "REGION") _

cue-ended : (rs : List RegionContents) (c : CueContents) → Ended (cue_lines rs c)
unfolding cue_lines
cue-ended rs c = ended_middle (lines_of c.id) (written_timing rs c) (lines_of c.text)

-- the blocks of a table
abbrev table_form : (List ℕ → List (List ℕ)) → List (List ℕ) → List ℕ
table_form lines rows = line_ended (apart (map lines rows))

-- what the rows of a table say, each put as a block
module _ (lines : List ℕ → List (List ℕ)) (ended : (w : List ℕ) → Ended (lines w)) where
  table_blocks : (rows : List (List ℕ)) → table_form lines rows ≡ blocks (map (λ w. join (lines w)) rows)
  unfolding apart line_ended blocks
  table_blocks [] = refl
  table_blocks (w ∷ ws) =
      ap (λ r. lf ∷ r) (line_ended_append (lines w) (apart (map lines ws)) ∙ ap (λ r. r ++ table_form lines ws) (ended w))
      ∙ ap (λ r. (lf ∷ (join (lines w) ++ lf ∷ [])) ++ r) (table_blocks ws)

-- and one block more
blocks_more : (xs : List (List ℕ)) (x : List ℕ) → blocks (xs ++ x ∷ []) ≡ blocks xs ++ lf ∷ (x ++ lf ∷ [])
unfolding blocks
blocks_more [] x = append-nil (lf ∷ (x ++ lf ∷ []))
blocks_more (y ∷ xs) x =
    ap (λ r. (lf ∷ (y ++ lf ∷ [])) ++ r) (blocks_more xs x) ∙ sym (append_assoc (lf ∷ (y ++ lf ∷ [])) (blocks xs) (lf ∷ (x ++ lf ∷ [])))

pub next-block :
    {R : Type 0} (form : R → List ℕ) (rows : List R) (i : ℕ) (row : R)
    → i < length rows
    → row ≡ get_or rows i row
    → blocks (map form (take (i + 1) rows)) ≡ blocks (map form (take i rows)) ++ lf ∷ (form row ++ lf ∷ [])
next-block form rows i row h e =
    rw (add-one i, take-suc rows i row h, ← e, map-append form (take i rows) (row ∷ []), blocks_more (map form (take i rows)) (form row)) refl

-- the whole file: its first line, then the blocks of the three tables
pub file_form :
    (s : List ℕ) (styles regions cues : List (List ℕ))
    → file_of s styles regions cues
    ≡ ascii "WEBVTT"
    ++ lf ∷ []
    ++ blocks (map (λ row. join (style_lines (style_of_row s row))) styles)
    ++ blocks (map (λ row. join (region_lines (region_of_row s row))) regions)
    ++ blocks (map (λ row. join (cue_lines (map (region_of_row s) regions) (cue_of_row s row))) cues)
unfolding file_of contents_of_rows written file_lines line_ended
file_form s styles regions cues =
    let rs = map (region_of_row s) regions in
    let first = map style_lines (map (style_of_row s) styles) in
    let second = map region_lines rs in
    let third = map (cue_lines rs) (map (cue_of_row s) cues) in
    ap (λ r. ascii "WEBVTT" ++ lf ∷ r)
    (blocks_append (first ++ second) third ∙ ap (λ r. r ++ line_ended (apart third)) (blocks_append first second))
    ∙ rw (map-map style_lines (style_of_row s) styles, map-map region_lines (region_of_row s) regions, map-map (cue_lines rs) (cue_of_row s) cues)
    (rw (
      table_blocks (λ row. style_lines (style_of_row s row)) (λ row. style-ended (style_of_row s row)) styles,
      table_blocks (λ row. region_lines (region_of_row s row)) (λ row. region-ended (region_of_row s row)) regions,
      table_blocks (λ row. cue_lines rs (cue_of_row s row)) (λ row. cue-ended rs (cue_of_row s row)) cues,
    )
    refl)
