-- Converting a raw file to plain text, and the test that a text is plain: document 01's numbers and values, and the lent room.
use Rattle.std.specs.Prelude.{ℕ, cond, List, [], ◌∷◌, ltb, length}
use Rattle.std.specs.Prelude.{Option, None, Some, Result}
use Rattle.format.specs.Limits.{max_file}
use Rattle.format.specs.Plain.{plain_text, first_not_plain}
use Rattle.format.specs.Answers.{Answer, accepted, refused, if_accepted, placed, answered, length_told}
use Rattle.format.specs.declared.errors.ConvertError.{ConvertError}

-- the number and the values of each case
unfoldable pub convert_error : ConvertError → Answer
convert_error ConvertError.TooLong = refused 1 []
convert_error (ConvertError.RoomTooShort n) = refused 2 (n ∷ [])

-- the text's length, where it accepts
unfoldable pub converted_is : Result ℕ ConvertError → Answer
converted_is = answered length_told convert_error

-- what converting answers: the checks 1, 2 in this order, else the text's length
unfoldable pub converting : List ℕ → ℕ → Answer
converting raw room =
    cond (ltb max_file (length raw)) (refused 1 [])
    (cond (ltb room (length (plain_text raw))) (refused 2 (length (plain_text raw) ∷ []))
    (accepted (length (plain_text raw) ∷ [])))

-- the room after converting
unfoldable pub converted_room : List ℕ → List ℕ → List ℕ
converted_room raw room = if_accepted (converting raw (length room)) (placed (plain_text raw) room) room

-- the number and the values of the first place that is not plain, if there is one
unfoldable pub plainness_is : Option ℕ → Answer
plainness_is None = accepted []
plainness_is (Some i) = refused 3 (i ∷ [])

-- what the test of a text answers: refusal 3 with the first place that is not plain, where there is one
unfoldable pub testing : List ℕ → Answer
testing text = cond (ltb (first_not_plain text) (length text)) (refused 3 (first_not_plain text ∷ [])) (accepted [])
