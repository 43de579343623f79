use Prim.Native.Nat.{ℕ, ◌<◌}
use mathlib.Core.Path.{◌≡◌, sym}
use mathlib.Core.Bool.{Bool, true, false, not}
use mathlib.Core.List.{List}
use native.Mathlib.Omega.{arith}
use borrow.Author.Tests.{eqb-true, eqb-false}
use lib.ListN.{length, get_or}
use Rattle.format.specs.Bytes.{digit}
use Rattle.laws.proofs.Runs.{run-stop, run_end}
use Rattle.timing.specs.Usual.{NoDigitIs}
use Rattle.timing.proofs.usual.no_digit.Goals as goal

-- by its first byte
first_tells : (t : List ℕ) (b : Bool) → 0 < length t → b ≡ digit (get_or t 0 0) → NoDigitIs t (not b)
first_tells t true h e = tt
first_tells t false h e = run-stop digit t 0 h (sym e)

pub returns-then-is_empty : goal.returns-then-is_empty
returns-then-is_empty c = run_end digit c.args.t.now 0 (omega (arith, eqb-true _ _ (sym c.if-is_empty.ensures)))

pub returns : goal.returns
returns c = first_tells c.args.t.now c.is_digit.result (omega (arith, eqb-false _ _ (sym c.if-is_empty.ensures))) c.is_digit.ensures
