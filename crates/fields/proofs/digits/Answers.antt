use Prim.Native.Nat.{◌≤◌, ◌<◌}
use mathlib.Core.Path.{◌≡◌, refl, sym, ◌∙◌}
use mathlib.Core.Bool.{false, not}
use native.Mathlib.Numerals.{add-one}
use native.Mathlib.Nat.{pow-suc, pow-le-pow_right}
use native.Mathlib.Omega.{arith}
use lib.ListN.{get_or}
use borrow.Author.Tests.{not-true, not-false}
use Rattle.fields.proofs.NumberLaws.{digit_range, digits-stop, digits-next, digits-end}
use Rattle.fields.proofs.digits.Goals as goal
use Rattle.fields.proofs.digits.Goals.{After-is_digit}

-- the byte that is looked at is a digit
ranged :
    (c : After-is_digit)
    → not c.is_digit.result ≡ false
    → let b = get_or c.args.field.now c.loop-b.b-index 0 in (0x30 ≤ b) × (b ≤ 0x39)
ranged c h = digit_range _ (sym c.is_digit.ensures ∙ not-false c.is_digit.result h)

-- and there are at most 11 before it
small : (c : After-is_digit) → c.loop-b.n < 100_000_000_000
small c =
    omega (arith, pow-le-pow_right {n = 10} (omega arith) {i = c.loop-b.b-index} {j = 11} (omega arith), c.loop-b.invariant.0)

pub loop-b-init : goal.loop-b-init
loop-b-init c = (omega arith, refl)

pub returns-then-not-is_digit : goal.returns-then-not-is_digit
returns-then-not-is_digit c =
    let other = sym c.is_digit.ensures ∙ not-true c.is_digit.result c.if-not-is_digit.true-raw in
    (sym (digits-stop c.loop-b.n c.args.field.now c.loop-b.b-index (omega arith) other) ∙ c.loop-b.invariant.1)

pub overflow_mul-n : goal.overflow_mul-n
overflow_mul-n c = record { fits = omega (arith, small (goal.at.overflow_mul-n c).After-is_digit) }

pub overflow_sub-n : goal.overflow_sub-n
overflow_sub-n c = (ranged (goal.at.overflow_sub-n c).After-is_digit c.if-not-is_digit.false-raw).0

pub overflow_cast-n : goal.overflow_cast-n
overflow_cast-n c = omega (arith, ranged (goal.at.overflow_cast-n c).After-is_digit c.if-not-is_digit.false-raw)

pub overflow_add-n : goal.overflow_add-n
overflow_add-n c = record { fits = omega (arith, small (goal.at.overflow_add-n c).After-is_digit, ranged (goal.at.overflow_add-n c).After-is_digit c.if-not-is_digit.false-raw) }

pub loop-b-preserved : goal.loop-b-preserved
loop-b-preserved c =
    let field = c.args.field.now in
    let i = c.loop-b.b-index in
    let here = sym c.is_digit.ensures ∙ not-false c.is_digit.result c.if-not-is_digit.false-raw in (
      rw (add-one i, pow-suc 10 i) (omega (arith, ranged (goal.at.loop-b-preserved c).After-is_digit c.if-not-is_digit.false-raw, c.loop-b.invariant.0)),
      sym (digits-next c.loop-b.n field i (omega arith) here) ∙ c.loop-b.invariant.1,
    )

pub returns : goal.returns
returns c =
    (sym (digits-end c.loop-b.n c.args.field.now c.loop-b.b-index (omega arith)) ∙ c.loop-b.invariant.1)
