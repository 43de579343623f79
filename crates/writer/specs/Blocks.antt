-- Blocks with the line ends around them, and what the check of the lists says of the answer after it.
use Rattle.std.specs.Prelude.{ℕ, List, [], ◌∷◌, ◌++◌, Result, Ok, Err}
use Rattle.format.specs.Bytes.{lf}
use Rattle.format.specs.Answers.{Answer}
use Rattle.format.specs.Writing.{not_writable}
use Rattle.format.specs.declared.errors.NotWritable.{NotWritable}

-- blocks one after another, each after an empty line, its last line ended
unfoldable pub blocks : List (List ℕ) → List ℕ
blocks [] = []
blocks (x ∷ xs) = (lf ∷ (x ++ lf ∷ [])) ++ blocks xs

-- the first row that is not writable refuses, whatever would be answered after it
abbrev pub unless : Result (Unit {0}) NotWritable → Answer → Answer
unless (Ok _) answer = answer
unless (Err f) answer = not_writable f
