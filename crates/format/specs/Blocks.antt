-- The signature, the lines with their numbers and places, and the blocks of a plain text: document 01 "Blocks". The numbers are the steps
-- of source document 000, section 6.1; those that begin with 11 and a full stop are of "collect a WebVTT block".
use Rattle.std.specs.Prelude.{ℕ, suc, ◌+◌, Bool, true, false, cond, not, ◌&&◌, ◌||◌, List, [], ◌∷◌, ◌++◌, eqb, length, drop}
use Rattle.format.specs.Bytes.{ascii, space, tab, lf}
use Rattle.format.specs.Texts.{starts_with, is_empty, Part, empty_part}
use Rattle.format.specs.Lines.{split, join}

-- 6: the seventh character, if any
unfoldable pub seventh : List ℕ → Bool
seventh [] = true
seventh (b ∷ s) = eqb b space || eqb b tab || eqb b lf

-- 4 to 6: "the first six characters are WEBVTT; a seventh, if any, is space, tab or LF"
unfoldable pub has_signature : List ℕ → Bool
has_signature s = starts_with (ascii "WEBVTT") s && seventh (drop 6 s)

-- a line of a plain text: its number, counted from 0, the place where it stands, and its bytes
pub record Line : Type 0 where
  pub number : ℕ
  pub place : ℕ
  pub bytes : List ℕ

-- lines with their numbers and places, the first being line n at p: each ends one byte before the next one begins
unfoldable pub lines_at : ℕ → ℕ → List (List ℕ) → List Line
lines_at n p [] = []
lines_at n p (l ∷ ls) = record { number = n; place = p; bytes = l } ∷ lines_at (suc n) (p + suc (length l)) ls

-- the part of the text that a line is
abbrev pub line_part : Line → Part
line_part l = record { place = l.place; bytes = l.bytes }

-- 11.4: does a line hold `-->`
unfoldable pub holds_arrow : List ℕ → Bool
holds_arrow [] = false
holds_arrow (b ∷ s) = starts_with (ascii "-->") (b ∷ s) || holds_arrow s

-- where the collecting of blocks stands: between two blocks, in the header block, or inside a block with these lines so far
pub data Collecting : Type 0 where
  between : Collecting
  header : Collecting
  inside : (lines : List Line) → Collecting

-- 11.4.1: can the next line be the timing line of a block with these lines so far: "… and it is line 1, or line 2 when line 1 held no `-->`"
unfoldable pub can_time : List Line → Bool
can_time [] = true
can_time (first ∷ []) = not (holds_arrow first.bytes)
can_time (first ∷ (second ∷ ls)) = false

-- 11.4, 11.5: does collecting stop before this line: "an empty line, … or a line holding `-->` that cannot be this block's timing line"
unfoldable pub stops : Collecting → Line → Bool
stops between l = true
stops header l = is_empty l.bytes || holds_arrow l.bytes
stops (inside ls) l = is_empty l.bytes || (holds_arrow l.bytes && not (can_time ls))

-- 12, 14.5: a line where nothing is being collected: "blocks, parted by empty lines"
unfoldable pub begin : Line → Collecting
begin l = cond (is_empty l.bytes) between (inside (l ∷ []))

-- a line more
unfoldable pub go_on : Collecting → Line → Collecting
go_on between l = begin l
go_on header l = header
go_on (inside ls) l = inside (ls ++ l ∷ [])

-- the block that has been collected; a header block "yields nothing"
unfoldable pub collected : Collecting → List (List Line)
collected between = []
collected header = []
collected (inside ls) = ls ∷ []

-- what a line ends, and where collecting stands after it: "in the third case the next block begins at that line"
unfoldable pub ended : Collecting → Line → List (List Line)
ended st l = cond (stops st l) (collected st) []

unfoldable pub next : Collecting → Line → Collecting
next st l = cond (stops st l) (begin l) (go_on st l)

-- the blocks of these lines, each as its lines
unfoldable pub blocks_from : Collecting → List Line → List (List Line)
blocks_from st [] = collected st
blocks_from st (l ∷ ls) = ended st l ++ blocks_from (next st l) ls

-- 7 to 11: "if a non-empty line follows directly, it starts a header block": the first line is passed over
unfoldable pub after_signature : List Line → List (List Line)
after_signature [] = []
after_signature (l ∷ ls) = blocks_from header ls

unfoldable pub blocks : List ℕ → List (List Line)
blocks s = after_signature (lines_at 0 0 (split s))

unfoldable pub bytes_of : List Line → List (List ℕ)
bytes_of [] = []
bytes_of (l ∷ ls) = l.bytes ∷ bytes_of ls

-- lines that follow each other, "joined by LF: one unbroken part of the plain text"; no lines are the empty part
unfoldable pub joined : List Line → Part
joined [] = empty_part
joined (l ∷ ls) = record { place = l.place; bytes = join (bytes_of (l ∷ ls)) }
