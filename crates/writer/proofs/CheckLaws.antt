-- Laws of checking lists in their order: a row that fails refuses, and lists without one let what is after them answer.
use Prim.Native.Nat.{ℕ}
use mathlib.Core.Path.{◌≡◌, refl, sym}
use mathlib.Core.List.{List, [], ◌∷◌}
use Rattle.std.specs.Prelude.{Option, None, Some}
use Rattle.format.specs.Answers.{Answer, refused}
use Rattle.format.specs.Writing.{unless_failing}
use Rattle.writable.specs.Faults.{fault_is}
use Rattle.writable.specs.declared.Fault.{Fault}

module _ (list : ℕ) {found : Option Fault} {o : Option (List ℕ)} (e : fault_is list found ≡ o) (answer : Answer) where
  pub refuses : {index test : ℕ} → found ≡ Some (record { index = index; test = test }) → refused 8 (list ∷ index ∷ test ∷ []) ≡ unless_failing o answer
  unfolding unless_failing
  refuses {index} {test} at = rw (sym e, at) refl

  pub goes_on : found ≡ None → answer ≡ unless_failing o answer
  unfolding unless_failing
  goes_on is_none = rw (sym e, is_none) refl
