-- Handing back a cue's identifier or its text: document 01's numbers and values, and the part itself.
use Rattle.std.specs.Prelude.{ℕ, cond, List, [], ◌∷◌, ltb, length, get_or}
use Rattle.std.specs.Prelude.{Result}
use Rattle.format.specs.Contents.{cue_of_row}
use Rattle.format.specs.Writable.{cue_test1}
use Rattle.format.specs.Answers.{Answer, accepted, refused, if_accepted, answered}
use Rattle.format.specs.declared.errors.PartError.{PartError}
use Rattle.format.specs.declared.settings.Span.{Span}

-- the number and the values of each case; a cue that is not writable is of list 2, and fails test 1
unfoldable pub part_error : PartError → Answer
part_error (PartError.NoSuchCue count) = refused 7 (count ∷ [])
part_error (PartError.NotWritable number) = refused 8 (2 ∷ number ∷ 1 ∷ [])

unfoldable pub part_answer_is : Result Unit PartError → Answer
part_answer_is = answered (λ part. accepted []) part_error

-- the place of a part, told by its two ends
unfoldable pub span_told : Span → Answer
span_told p = accepted (p.from ∷ p.to ∷ [])

-- what asking for a part of the cue with this number answers: the checks 7, 8
unfoldable pub asking : List ℕ → List (List ℕ) → ℕ → Answer
asking s cues number =
    cond (ltb number (length cues))
    (cond (cue_test1 s (get_or cues number [])) (accepted []) (refused 8 (2 ∷ number ∷ 1 ∷ [])))
    (refused 7 (length cues ∷ []))

-- the part that is handed back: the identifier, or the text; "a refused call hands back an empty part"
unfoldable pub identifier_of : List ℕ → List (List ℕ) → ℕ → List ℕ
identifier_of s cues number =
    if_accepted (asking s cues number) (cue_of_row s (get_or cues number [])).id []

unfoldable pub text_of : List ℕ → List (List ℕ) → ℕ → List ℕ
text_of s cues number =
    if_accepted (asking s cues number) (cue_of_row s (get_or cues number [])).text []
