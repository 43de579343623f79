-- The table of times and numbers holds of the definitions: one test over all rows, and one law that makes it the statement.
use Prim.Native.Nat.{ℕ, zero, suc, ◌<◌}
use mathlib.Core.Path.{◌≡◌, refl, ap}
use mathlib.Core.Bool.{Bool, true, false, ◌&&◌, false≢true}
use mathlib.Core.List.{List, [], ◌∷◌}
use native.Mathlib.Omega.{arith}
use lib.Dec.{eqb}
use lib.ListN.{length, get_or}
use borrow.Author.Tests.{eqb-true}
use Rattle.format.specs.Bytes.{digit}
use Rattle.format.specs.Texts.{starts_with, ends_with, without_last, is_empty, all, run, past_run}
use Rattle.format.specs.Numbers.{number_from, some_digits, decimal_of, decimal, above, millionths, up_to100, percentage}
use Rattle.format.specs.Times.{on_got, missing, expect, hours_first, field, three_values, in_range, last_steps, timestamp, only_time, milliseconds}
use Rattle.format.specs.TellingTimes.{fault_number}
use Rattle.format.specs.Examples.{Outcome, gives, fails_at, fails, Example, examples, time_outcome, percent_outcome, reads_as, reads}

same_outcome : Outcome → Outcome → Bool
same_outcome (gives m) (gives n) = eqb m n
same_outcome (gives m) (fails_at j q) = false
same_outcome (gives m) fails = false
same_outcome (fails_at i p) (gives n) = false
same_outcome (fails_at i p) (fails_at j q) = eqb i j && eqb p q
same_outcome (fails_at i p) fails = false
same_outcome fails (gives n) = false
same_outcome fails (fails_at j q) = false
same_outcome fails fails = true

both : (a b : Bool) → a && b ≡ true → (a ≡ true) × (b ≡ true)
both true b e = (refl, e)
both false b e = absurd (false≢true e)

outcome-is : (a b : Outcome) → same_outcome a b ≡ true → a ≡ b
unfolding same_outcome
outcome-is (gives m) (gives n) e = ap gives (eqb-true m n e)
outcome-is (gives m) (fails_at j q) e = absurd (false≢true e)
outcome-is (gives m) fails e = absurd (false≢true e)
outcome-is (fails_at i p) (gives n) e = absurd (false≢true e)
outcome-is (fails_at i p) (fails_at j q) e =
    let b = both (eqb i j) (eqb p q) e in
    rw (eqb-true i j b.0, eqb-true p q b.1)
outcome-is (fails_at i p) fails e = absurd (false≢true e)
outcome-is fails (gives n) e = absurd (false≢true e)
outcome-is fails (fails_at j q) e = absurd (false≢true e)
outcome-is fails fails e = refl

right : List Example → Bool
right [] = true
right (e ∷ es) = same_outcome (reads e) e.outcome && right es

right_at : (es : List Example) (d : Example) → right es ≡ true → (i : ℕ) → i < length es → reads (get_or es i d) ≡ (get_or es i d).outcome
unfolding right
right_at [] d r i l = absurd (omega arith)
right_at (e ∷ es) d r zero l = outcome-is (reads e) e.outcome (both (same_outcome (reads e) e.outcome) (right es) r).0
right_at (e ∷ es) d r (suc i) l = right_at es d (both (same_outcome (reads e) e.outcome) (right es) r).1 i (omega arith)

all_right : right examples ≡ true
unfolding right same_outcome reads reads_as time_outcome percent_outcome fault_number only_time timestamp missing milliseconds on_got expect hours_first field three_values in_range last_steps percentage up_to100 millionths above decimal decimal_of some_digits number_from past_run run all is_empty without_last ends_with starts_with digit
all_right = refl

-- each row of the table
pub examples_hold : (d : Example) (i : ℕ) → i < length examples → reads (get_or examples i d) ≡ (get_or examples i d).outcome
examples_hold d i l = right_at examples d all_right i l
