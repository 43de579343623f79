-- Rewriting a raw file: "It converts, reads, and prints the written form, or only … the library's first refusal".
use Rattle.std.specs.Prelude.{ℕ, List, length}
use Rattle.std.specs.Prelude.{Result}
use Rattle.format.specs.Plain.{plain_text}
use Rattle.format.specs.Lists.{lists}
use Rattle.format.specs.Contents.{contents}
use Rattle.format.specs.Written.{written}
use Rattle.format.specs.Rows.{region_rows, style_rows, stored_cues}
use Rattle.format.specs.Answers.{Answer, if_accepted, and_then, placed, answered, length_told}
use Rattle.format.specs.Reading.{read_file_error, reading_raw}
use Rattle.format.specs.Writing.{write_error, writing}
use Rattle.format.specs.declared.errors.RewriteError.{RewriteError}

-- the number and the values of each case
unfoldable pub rewrite_error : RewriteError → Answer
rewrite_error (RewriteError.Read e) = read_file_error e
rewrite_error (RewriteError.Write e) = write_error e

unfoldable pub rewriting_is : Result ℕ RewriteError → Answer
rewriting_is = answered length_told rewrite_error

-- the lengths of the lent room and tables
pub record Lent : Type 0 where
  pub text : ℕ
  pub cues : ℕ
  pub regions : ℕ
  pub styles : ℕ
  pub out : ℕ

unfoldable pub lengths : List ℕ → List (List ℕ) → List (List ℕ) → List (List ℕ) → List ℕ → Lent
lengths text cues regions styles out =
    record { text = length text; cues = length cues; regions = length regions; styles = length styles; out = length out }

-- writing what a plain text reads as, and the file that this gives: "the written form" of its lists
unfoldable pub writing_of : List ℕ → ℕ → Answer
writing_of s out = writing s (style_rows (lists s).styles) (region_rows (lists s).regions) (stored_cues s) out

unfoldable pub rewritten_file : List ℕ → List ℕ
rewritten_file s = written (contents (lists s))

-- converting and reading, in that room and those tables
unfoldable pub reading_in : List ℕ → Lent → Answer
reading_in raw lent = reading_raw raw lent.text lent.cues lent.regions lent.styles

-- what rewriting answers; a table after it is as after `reading_in`, for the room and the tables are scratch to this call
unfoldable pub rewriting : List ℕ → Lent → Answer
rewriting raw lent = and_then (reading_in raw lent) (writing_of (plain_text raw) lent.out)

-- the output room after it
unfoldable pub rewritten_room : List ℕ → Lent → List ℕ → List ℕ
rewritten_room raw lent out = if_accepted (rewriting raw lent) (placed (rewritten_file (plain_text raw)) out) out
