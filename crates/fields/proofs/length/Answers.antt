use Prim.Native.Nat.{◌+◌}
use mathlib.Core.Path.{◌≡◌, sym, ap, ◌∙◌}
use native.Mathlib.Omega.{arith}
use Rattle.std.specs.Prelude.{Some}
use lib.ListN.{drop}
use Rattle.format.specs.Fields.{escapes, unescaped}
use Rattle.fields.specs.Fields.{Step}
use Rattle.fields.proofs.EscapeLaws.{Made, made, came, failed, length_after, length_from_lem, length_more}
use Rattle.fields.proofs.length.Goals as goal
use Rattle.fields.proofs.length.Goals.{After-step}

-- what the step from `at` says
step-made :
    (c : After-step) {step : Step}
    → c.step.result ≡ step
    → Made escapes c.args.field.now c.loop-byte.at step
step-made c e = made escapes c.args.field.now c.loop-byte.at c.step.ensures e

pub loop-byte-init : goal.loop-byte-init
loop-byte-init c = (omega arith, omega arith, length_from_lem (unescaped c.args.field.now))

pub returns-in_err-byte : goal.returns-in_err-byte
returns-in_err-byte c =
    let none = failed escapes c.args.field.now c.loop-byte.at c.step.ensures (sym c.ok.ensures.value ∙ c.in_err-byte.was) in
    c.from_residual.ensures ∙ sym (ap (length_after c.loop-byte.n) none) ∙ c.loop-byte.invariant.2

pub overflow_add-n : goal.overflow_add-n
overflow_add-n c = omega (arith, (step-made (goal.at.overflow_add-n c).After-step (came c.step.result _ (sym c.ok.ensures.value ∙ c.in_ok-byte.was ∙ ap Some c.in-Some.is))).moves)

pub loop-byte-smaller : goal.loop-byte-smaller
loop-byte-smaller c = omega (arith, (step-made (goal.at.loop-byte-smaller c).After-step (came c.step.result _ (sym c.ok.ensures.value ∙ c.in_ok-byte.was ∙ ap Some c.in-Some.is))).moves)

pub loop-byte-preserved : goal.loop-byte-preserved
loop-byte-preserved c =
    let step = step-made (goal.at.loop-byte-preserved c).After-step (came c.step.result _ (sym c.ok.ensures.value ∙ c.in_ok-byte.was ∙ ap Some c.in-Some.is)) in
    let rest = unescaped (drop c.in-Some.byte.next c.args.field.now) in (
      step.moves.1,
      omega (arith, step.moves),
      sym (ap (length_after c.loop-byte.n) step.text ∙ length_more c.loop-byte.n c.in-Some.byte.value rest) ∙ c.loop-byte.invariant.2,
    )

pub returns : goal.returns
returns c =
    let n = c.loop-byte.n in
    let all : n + 0 ≡ n = omega arith in
    let step = step-made (goal.at.returns c).After-step (came c.step.result _ (sym c.ok.ensures.value ∙ c.in_ok-byte.was ∙ ap Some c.in_default.is)) in
    sym (ap (length_after n) step.text ∙ ap Some all) ∙ c.loop-byte.invariant.2
