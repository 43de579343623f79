-- Reading a plain text into the lent tables: document 01's numbers and values, and what the tables hold after it.
use Rattle.std.specs.Prelude.{ℕ, ◌≡◌, true, cond, not, ◌||◌, List, [], ◌∷◌, ◌++◌, ltb, length}
use Rattle.std.specs.Prelude.{Result}
use Rattle.format.specs.Limits.{max_text}
use Rattle.format.specs.Plain.{plain_text, first_not_plain}
use Rattle.format.specs.Blocks.{has_signature}
use Rattle.format.specs.Lists.{items, Lists, lists, any_over}
use Rattle.format.specs.Answers.{Answer, accepted, refused, refused_only_by, if_accepted, and_then, placed, answered}
use Rattle.format.specs.Converting.{convert_error, converting}
use Rattle.format.specs.declared.Counts.{Counts}
use Rattle.format.specs.declared.FileLists.{FileLists}
use Rattle.format.specs.declared.errors.TextError.{TextError}
use Rattle.format.specs.declared.errors.ListsError.{ListsError}
use Rattle.format.specs.declared.errors.ReadError.{ReadError}
use Rattle.format.specs.declared.errors.ReadFileError.{ReadFileError}

-- the number and the values of each case; the counts are of cues, regions, styles
unfoldable pub text_error : TextError → Answer
text_error TextError.NoSignature = refused 4 []
text_error TextError.OverLimit = refused 5 []

unfoldable pub count_values : Counts → List ℕ
count_values n = n.cues ∷ n.regions ∷ n.styles ∷ []

unfoldable pub counts_told : Counts → Answer
counts_told n = accepted (count_values n)

unfoldable pub lists_error : ListsError → Answer
lists_error (ListsError.Text e) = text_error e
lists_error (ListsError.TablesTooShort n) = refused 6 (count_values n)

unfoldable pub read_error : ReadError → Answer
read_error ReadError.TooLong = refused 1 []
read_error (ReadError.NotPlainAt i) = refused 3 (i ∷ [])
read_error (ReadError.Lists e) = lists_error e

unfoldable pub reading_is : Result Counts ReadError → Answer
reading_is = answered counts_told read_error

-- refusal 6: "all counts needed"
unfoldable pub counts : Lists → List ℕ
counts l = length l.cues ∷ length l.regions ∷ length l.styles ∷ []

-- what reading answers, the tables having this many rows: the checks 1, 3, 4, 5, 6 in this order, else the counts
unfoldable pub reading : List ℕ → ℕ → ℕ → ℕ → Answer
reading s cues regions styles =
    cond (ltb max_text (length s)) (refused 1 [])
    (cond (ltb (first_not_plain s) (length s)) (refused 3 (first_not_plain s ∷ []))
    (cond (not (has_signature s)) (refused 4 [])
    (cond (any_over (items s)) (refused 5 [])
    (cond (ltb cues (length (lists s).cues) || ltb regions (length (lists s).regions) || ltb styles (length (lists s).styles))
    (refused 6 (counts (lists s)))
    (accepted (counts (lists s)))))))

-- converting a raw file and then reading its text, the text room having this length: the first refusal of both, else the counts
unfoldable pub reading_raw : List ℕ → ℕ → ℕ → ℕ → ℕ → Answer
reading_raw raw room cues regions styles = and_then (converting raw room) (reading (plain_text raw) cues regions styles)

-- the same as one call, which tells the text's length after the counts: the number and the values of each case
unfoldable pub read_file_error : ReadFileError → Answer
read_file_error (ReadFileError.Convert e) = convert_error e
read_file_error (ReadFileError.Lists e) = lists_error e

unfoldable pub file_lists_told : FileLists → Answer
file_lists_told f = accepted (count_values f.counts ++ f.text ∷ [])

unfoldable pub file_reading_is : Result FileLists ReadFileError → Answer
file_reading_is = answered file_lists_told read_file_error

unfoldable pub file_reading : List ℕ → ℕ → ℕ → ℕ → ℕ → Answer
file_reading raw room cues regions styles =
    and_then (reading_raw raw room cues regions styles) (accepted (counts (lists (plain_text raw)) ++ length (plain_text raw) ∷ []))

-- "Converting the … file and reading the text so made is refused by no number but 2 and 6."
abbrev pub ReadsAgain : List ℕ → Type 0
ReadsAgain file = (room cues regions styles : ℕ) → refused_only_by (2 ∷ 6 ∷ []) (reading_raw file room cues regions styles) ≡ true

-- each table after reading: the rows of its list, and beyond them what stood there; as it was where reading refuses
unfoldable pub after_reading {ℓ} : {A : Type ℓ} → Answer → List A → List A → List A
after_reading answer rows table = if_accepted answer (placed rows table) table
