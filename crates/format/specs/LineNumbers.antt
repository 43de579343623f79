-- The lines of each cue of a text: request Q-8 of document 02. A plain text's lines have the numbers that they have in the raw file.
use Rattle.std.specs.Prelude.{ℕ, suc, ◌+◌, ◌≡◌, Bool, false, cond, ◌||◌, List, [], ◌∷◌, ◌++◌, map, length, get_or, take, drop}
use Rattle.format.specs.Blocks.{Line, blocks}
use Rattle.format.specs.Lists.{Item, meaning, is_cue}
use Rattle.format.specs.declared.rows.LineSpan.{LineSpan}

-- the blocks that give cues, one after the other
unfoldable pub block_of_cue : Item → List Line → List (List Line)
block_of_cue i b = cond (is_cue i) (b ∷ []) []

unfoldable pub cue_blocks_from : Bool → List (List Line) → List (List Line)
cue_blocks_from seen [] = []
cue_blocks_from seen (b ∷ bs) = block_of_cue (meaning seen b) b ++ cue_blocks_from (seen || is_cue (meaning seen b)) bs

unfoldable pub cue_blocks : List ℕ → List (List Line)
cue_blocks s = cue_blocks_from false (blocks s)

-- the number of a block's first line, counted from 0: a cue's identifier, or its timing line where it has none
unfoldable pub first_number : List Line → ℕ
first_number [] = 0
first_number (l ∷ ls) = l.number

-- "its first line's number, from 1, and its count of lines"
unfoldable pub line_span : List Line → LineSpan
line_span b = record { first = suc (first_number b); count = length b }

-- the lines of each cue, in the order of the cues
unfoldable pub line_spans : List ℕ → List LineSpan
line_spans s = map line_span (cue_blocks s)

-- the lines of the cue with a number; 0 and 0 where there is none
unfoldable pub span_at : ℕ → List LineSpan → LineSpan
span_at number ls = get_or ls number (record { first = 0; count = 0 })

-- lines that stand n lines later
unfoldable pub later : ℕ → LineSpan → LineSpan
later n l = record { first = l.first + n; count = l.count }

-- One cue's lines replaced by this many: "the first lines of cues after the changed one move by the difference in line counts; it and the
-- others keep theirs, and it has as many lines as its written form". The difference may be below zero, so both sides are added to.
pub record LinesMoved (number lines : ℕ) (old new : List LineSpan) : Type 0 where
  pub before : take number new ≡ take number old
  pub here : span_at number new ≡ record { first = (span_at number old).first; count = lines }
  pub after : map (later (span_at number old).count) (drop (suc number) new) ≡ map (later lines) (drop (suc number) old)
