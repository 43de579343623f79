-- The new file as the code puts it together, and what replacing answers check by check.
use Rattle.std.specs.Prelude.{ℕ, ◌≡◌, cond, not, List, [], ◌∷◌, ◌++◌, ltb, length, take, drop}
use Rattle.format.specs.Texts.{is_empty}
use Rattle.format.specs.Plain.{plain_text}
use Rattle.format.specs.Lists.{lists}
use Rattle.format.specs.Answers.{Answer, refused, if_accepted, file_answer, placed}
use Rattle.format.specs.Rows.{new_cue_entry}
use Rattle.format.specs.Replacing.{name_lent, new_cue_fails, region_names, new_file, no_gap, replacing_is, unless_test}
use Rattle.std.specs.Prelude.{Option, None, Some, Result}
use Rattle.format.specs.declared.errors.ReplaceError.{ReplaceError}
use Rattle.forms.specs.Forms.{cue_form}

-- the name of the region that a cue asks for; none where it is empty
unfoldable pub asked : List ℕ → Option (List ℕ)
asked name = cond (is_empty name) None (Some name)

-- the written form of the new cue
unfoldable pub lent_form : List ℕ → List ℕ → List ℕ
lent_form t w = cue_form t (new_cue_entry w) (asked (name_lent t w))

-- that form in place of the bytes of a file from one place up to another
unfoldable pub in_place : List ℕ → ℕ → ℕ → List ℕ → List ℕ → List ℕ
in_place raw start end t w = take start raw ++ lent_form t w ++ drop end raw

-- what replacing answers after the new cue's tests, and after the count of cues
unfoldable pub gap_answer : List ℕ → ℕ → List ℕ → List ℕ → ℕ → Answer
gap_answer raw number t w out =
    cond (no_gap (plain_text raw) number t w) (refused 9 []) (file_answer (new_file raw number t w) out)

unfoldable pub tested_answer : List ℕ → ℕ → List ℕ → List ℕ → ℕ → Answer
tested_answer raw number t w out =
    unless_test (new_cue_fails t w (region_names (plain_text raw))) number (gap_answer raw number t w out)

-- what it answers after the file's own refusals
unfoldable pub counted_answer : List ℕ → ℕ → List ℕ → List ℕ → ℕ → Answer
counted_answer raw number t w out =
    cond (not (ltb number (length (lists (plain_text raw)).cues))) (refused 7 (length (lists (plain_text raw)).cues ∷ []))
    (tested_answer raw number t w out)

-- an answer, and the output room after it
pub record Outcome (new out : List ℕ) (a : Answer) (r : Result ℕ ReplaceError) (room : List ℕ) : Type 0 where
  pub answer : replacing_is r ≡ a
  pub holds : room ≡ if_accepted a (placed new out) out
