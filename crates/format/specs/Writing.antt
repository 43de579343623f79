-- Writing lists to a file: document 01's numbers and values, and what the output room holds after it.
use Rattle.std.specs.Prelude.{ℕ, ◌+◌, ◌≡◌, List, [], ◌∷◌, length}
use Rattle.std.specs.Prelude.{Option, None, Some}
use Rattle.std.specs.Prelude.{Result}
use Rattle.format.specs.Plain.{plain_text}
use Rattle.format.specs.Lists.{lists}
use Rattle.format.specs.Reading.{ReadsAgain}
use Rattle.format.specs.Answers.{Answer, refused, if_accepted, file_answer, placed, answered, length_told}
use Rattle.format.specs.Writable.{cue_fails, region_fails, style_fails}
use Rattle.format.specs.Contents.{Contents, contents, contents_of_rows, stored_contents}
use Rattle.format.specs.Written.{written}
use Rattle.format.specs.declared.errors.ListKind.{ListKind}
use Rattle.format.specs.declared.errors.NotWritable.{NotWritable}
use Rattle.format.specs.declared.errors.OutError.{OutError}
use Rattle.format.specs.declared.errors.WriteError.{WriteError}

-- the number of a list: 0 styles, 1 regions, 2 cues
unfoldable pub list_number : ListKind → ℕ
list_number ListKind.Styles = 0
list_number ListKind.Regions = 1
list_number ListKind.Cues = 2

-- the number and the values of each case: which list, index in it, first failing test
unfoldable pub not_writable : NotWritable → Answer
not_writable f = refused 8 (list_number f.list ∷ f.index ∷ f.test ∷ [])

unfoldable pub out_error : OutError → Answer
out_error OutError.FileTooLong = refused 1 []
out_error (OutError.OutTooShort n) = refused 10 (n ∷ [])

unfoldable pub write_error : WriteError → Answer
write_error (WriteError.NotWritable f) = not_writable f
write_error (WriteError.Out e) = out_error e

-- the file's length, where it accepts
unfoldable pub writing_is : Result ℕ WriteError → Answer
writing_is = answered length_told write_error

-- the first row of a list that is not writable: the list, the row's index, i being that of the first here, and the test
unfoldable pub or_else : Option ℕ → ℕ → ℕ → Option (List ℕ) → Option (List ℕ)
or_else None list i later = later
or_else (Some test) list i later = Some (list ∷ i ∷ test ∷ [])

unfoldable pub first_in : ℕ → (List ℕ → Option ℕ) → ℕ → List (List ℕ) → Option (List ℕ)
first_in list fails i [] = None
first_in list fails i (w ∷ ws) = or_else (fails w) list i (first_in list fails (i + 1) ws)

-- refusal 8 with these values, or what comes after it
unfoldable pub unless_failing : Option (List ℕ) → Answer → Answer
unless_failing None answer = answer
unless_failing (Some vs) answer = refused 8 vs

-- the file that rows over a text give
unfoldable pub file_of : List ℕ → List (List ℕ) → List (List ℕ) → List (List ℕ) → List ℕ
file_of s styles regions cues = written (contents_of_rows s styles regions cues)

-- what writing answers: "8 (styles, regions, cues in order), 1, 10", else the file's length
unfoldable pub writing : List ℕ → List (List ℕ) → List (List ℕ) → List (List ℕ) → ℕ → Answer
writing s styles regions cues room =
    unless_failing (first_in 0 (style_fails s) 0 styles)
    (unless_failing (first_in 1 (region_fails s) 0 regions)
    (unless_failing (first_in 2 (cue_fails s regions) 0 cues)
    (file_answer (file_of s styles regions cues) room)))

-- the output room after writing
unfoldable pub written_room : List ℕ → List (List ℕ) → List (List ℕ) → List (List ℕ) → List ℕ → List ℕ
written_room s styles regions cues room =
    if_accepted (writing s styles regions cues (length room)) (placed (file_of s styles regions cues) room) room

-- Demand 2's second half, of a file that was made of lists with these contents: converting changes nothing, the file reads as those lists, and
-- the rows that reading stores say the same. It rules out a program that writes the same file, or an empty one, for every list.
pub record ReadBack (c : Contents) (file : List ℕ) : Type 0 where
  pub plain : plain_text file ≡ file
  pub reads : contents (lists (plain_text file)) ≡ c
  pub stores : stored_contents (plain_text file) ≡ c
  pub again : ReadsAgain file
