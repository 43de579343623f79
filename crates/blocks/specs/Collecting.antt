-- Collecting a block by places of the text. `proofs/BlockLaws.antt` proves that this is what `format` says.
use Rattle.std.specs.Prelude.{ℕ, ◌+◌, ◌-◌, ◌≤◌, ◌≡◌, Bool, true, false, cond, not, ◌&&◌, List, [], ◌∷◌, eqb, ltb, length, take, drop}
use Rattle.std.specs.Prelude.{Option, None, Some}
use Rattle.format.specs.Bytes.{ascii, lf}
use Rattle.format.specs.Texts.{starts_with, is_empty, run}
use Rattle.format.specs.Lines.{split}
use Rattle.format.specs.Blocks.{Line, lines_at, holds_arrow}
use Rattle.blocks.specs.declared.collecting.Why.{Why}
use Rattle.blocks.specs.declared.collecting.Head.{Head}
use Rattle.blocks.specs.declared.collecting.Stop.{Stop}
use Rattle.blocks.specs.declared.collecting.Block.{Block}

-- how many LF a text has
unfoldable pub line_ends : List ℕ → ℕ
line_ends [] = 0
line_ends (b ∷ s) = cond (eqb b lf) 1 0 + line_ends s

-- the lines that begin at a place of a text, or after it; a text ends one place before there are none
unfoldable pub lines_from : List ℕ → ℕ → List Line
lines_from s p = cond (ltb (length s) p) [] (lines_at (line_ends (take p s)) p (split (drop p s)))

abbrev pub line_end : Line → ℕ
line_end l = l.place + length l.bytes

-- the first lines known, with one line more
abbrev pub head_with : ℕ → ℕ → ℕ → Bool → Head
head_with left first end arrow =
    cond arrow (record { left = 0; first = first; end = end; timed = true })
    (record { left = left - 1; first = first; end = first; timed = false })

abbrev pub head_after : Head → ℕ → Bool → Head
head_after h end arrow = cond (eqb h.left 0) h (head_with h.left (cond (eqb h.left 2) end h.first) end arrow)

-- the same stop, so many lines more having been taken
abbrev pub more_lines : ℕ → Stop → Stop
more_lines n st = record { why = st.why; at = st.at; to = st.to; lines = n + st.lines; head = st.head }

-- where collecting stops that has these first lines so far, the last line ending at e, with these lines to come; only these are counted
unfoldable pub collect_from : Head → ℕ → List Line → Stop
collect_from h e [] = record { why = Why.End; at = e; to = e; lines = 0; head = h }
collect_from h e (l ∷ ls) =
    cond (is_empty l.bytes) (record { why = Why.EmptyLine; at = l.place; to = e; lines = 0; head = h })
    (cond (eqb h.left 0 && holds_arrow l.bytes) (record { why = Why.Arrow; at = l.place; to = e; lines = 0; head = h })
    (more_lines 1 (collect_from (head_after h (line_end l) (holds_arrow l.bytes)) (line_end l) ls)))

-- no line yet, and no line that can be a timing line
abbrev pub opening : Head
opening = record { left = 2; first = 0; end = 0; timed = false }

abbrev pub no_timing : Head
no_timing = record { left = 0; first = 0; end = 0; timed = false }

-- the bytes of the line that begins at a place
abbrev pub in_line : ℕ → Bool
in_line b = not (eqb b lf)

abbrev pub line_at : List ℕ → ℕ → List ℕ
line_at s p = run in_line (drop p s)

-- of the line that begins at p: where its first arrow stands; where the line ends, if it has none
pub record ArrowOrEnd (s : List ℕ) (p i : ℕ) : Type 0 where
  pub begins : p ≤ i
  pub inside : i ≤ length s
  pub same_end : i + length (line_at s i) ≡ p + length (line_at s p)
  pub holds : holds_arrow (line_at s p) ≡ starts_with (ascii "-->") (drop i s)
  pub ends : starts_with (ascii "-->") (drop i s) ≡ false → line_at s i ≡ []

-- where the first line ends, and where the lines begin that stand after it and a header
abbrev pub first_end : List ℕ → ℕ
first_end s = 0 + length (line_at s 0)

unfoldable pub header_end : List ℕ → ℕ
header_end s =
    cond (eqb (first_end s) (length s)) (first_end s) (collect_from no_timing (first_end s + 1) (lines_from s (first_end s + 1))).at

-- the first place from one on that holds no LF
abbrev pub past_empty : List ℕ → ℕ → ℕ
past_empty s at = at + length (run (λ b. eqb b lf) (drop at s))

-- the next block that begins at a place or after it
unfoldable pub next_is : List ℕ → ℕ → Option Block
next_is s at =
    cond (ltb (past_empty s at) (length s))
    (Some (record { from = past_empty s at; stop = collect_from opening (past_empty s at) (lines_from s (past_empty s at)) }))
    None

abbrev pub is_end : Why → Bool
is_end Why.EmptyLine = false
is_end Why.End = true
is_end Why.Arrow = false

-- what stands where collecting stopped: an empty line or the text's end, the text's end, or a line with an arrow
abbrev pub WhyIs : List ℕ → Why → ℕ → Type 0
WhyIs s Why.EmptyLine at = line_at s at ≡ []
WhyIs s Why.End at = at ≡ length s
WhyIs s Why.Arrow at = holds_arrow (line_at s at) ≡ true
