use Rattle.std.proofs.Common.{◌≡◌, ℕ, List, refl, sym, ap, ◌∙◌, arith}
use Rattle.std.specs.Prelude.{Result, Ok, Err, OnErr}
use Rattle.format.specs.Answers.{Answer, accepted, refused, refusal_number, if_accepted, and_then}
use Rattle.format.specs.Reading.{read_file_error, reading_raw, file_lists_told, file_reading_is, file_reading}
use Rattle.format.specs.declared.FileLists.{FileLists}
use Rattle.format.specs.declared.errors.ReadFileError.{ReadFileError}
use Rattle.listing.proofs.show.Goals as goal

-- an answer that is followed by one that accepts has the number of both
number_first : (a : Answer) (vs : List ℕ) → refusal_number (and_then a (accepted vs)) ≡ refusal_number a
unfolding and_then if_accepted refusal_number
number_first (accepted us) vs = refl
number_first (refused n us) vs = refl

-- the number of reading a file in one call is that of converting and reading
number_is :
    (raw : List ℕ) (room cues regions styles : ℕ) (r : Result FileLists ReadFileError)
    → file_reading_is r ≡ file_reading raw room cues regions styles
    → refusal_number (file_reading_is r) ≡ refusal_number (reading_raw raw room cues regions styles)
unfolding file_reading
number_is raw room cues regions styles r e = ap refusal_number e ∙ number_first (reading_raw raw room cues regions styles) _

shown :
    (raw : List ℕ) (room cues regions styles : ℕ) (lists : FileLists)
    → file_reading_is (Ok lists) ≡ file_reading raw room cues regions styles
    → refusal_number (reading_raw raw room cues regions styles) ≡ 0
unfolding file_reading_is file_lists_told refusal_number
shown raw room cues regions styles lists e = sym (number_is raw room cues regions styles (Ok lists) e)

on_err : {T E P : Type 0} (r : Result T E) → P → OnErr r P
on_err (Ok x) p = tt
on_err (Err e) p = p

pub returns-in_err-print_all-in-Ok-clause-err : goal.returns-in_err-print_all-in-Ok-clause-err
returns-in_err-print_all-in-Ok-clause-err g c = on_err _ (shown _ _ _ _ _ _ c.in-Ok.ensures.answer)

pub returns-in_err-print_all-in-Ok-2-clause-err : goal.returns-in_err-print_all-in-Ok-2-clause-err
returns-in_err-print_all-in-Ok-2-clause-err g c = on_err _ (shown _ _ _ _ _ _ c.in-Ok.ensures.answer)

pub returns-in_err-print_all-in-Ok-3-clause-err : goal.returns-in_err-print_all-in-Ok-3-clause-err
returns-in_err-print_all-in-Ok-3-clause-err g c = on_err _ (shown _ _ _ _ _ _ c.in-Ok.ensures.answer)

pub returns-in_ok-print_all-in-Ok-3-clause-number : goal.returns-in_ok-print_all-in-Ok-3-clause-number
unfolding refusal_number
returns-in_ok-print_all-in-Ok-3-clause-number g c = sym (shown _ _ _ _ _ _ c.in-Ok.ensures.answer)

pub returns-in-Err-clause-number : goal.returns-in-Err-clause-number
unfolding file_reading_is
returns-in-Err-clause-number g c = number_is _ _ _ _ _ (Err c.in-Err.why) c.in-Err.ensures.answer
