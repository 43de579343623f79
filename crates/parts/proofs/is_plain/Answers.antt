use Rattle.std.proofs.Common.{◌≡◌, ℕ, List, Bool, true, false, length, not, refl, sym, ◌∙◌}
use Rattle.std.specs.Prelude.{Option, None, Some, is_some}
use lib.Dec.{ltb}
use Rattle.format.specs.Plain.{first_not_plain}
use Rattle.format.specs.Converting.{plainness_is, testing}
use Rattle.laws.proofs.Answers.{all_plain, not_plain}
use Rattle.parts.proofs.is_plain.Goals as goal

-- there is a place that is not plain where the test refuses
place_told : (s : List ℕ) (place : Option ℕ) → plainness_is place ≡ testing s → is_some place ≡ ltb (first_not_plain s) (length s)
place_told s None e = sym (all_plain s e)
place_told s (Some i) e = sym (not_plain s i e).0

turned : (a b : Bool) → a ≡ not b → b ≡ not a
turned a true e = rw e refl
turned a false e = rw e refl

pub returns : goal.returns
returns c = turned _ _ (sym (place_told _ _ c.first_not_plain.ensures) ∙ c.is_none.ensures)
