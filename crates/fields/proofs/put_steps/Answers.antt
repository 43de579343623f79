use mathlib.Core.Path.{◌≡◌, sym, ap, ◌∙◌}
use native.Mathlib.Omega.{arith}
use Rattle.std.specs.Prelude.{Ok, None}
use borrow.Author.Rules.{rules}
use lib.ListN.{drop}
use Rattle.format.specs.Fields.{escapes, unescaped}
use Rattle.output.proofs.PutLaws.{puts_none, puts_as, byte_then}
use Rattle.fields.specs.Fields.{Step, text_of, is_good, IsGood}
use Rattle.fields.proofs.EscapeLaws.{Made, made, good_more, text-more}
use Rattle.fields.proofs.put_steps.Goals as goal
use Rattle.fields.proofs.put_steps.Goals.{After-step}

-- what the step from `at` says
step-made :
    (c : After-step) {step : Step}
    → c.step.result ≡ step
    → Made escapes c.args.field.now c.loop-byte.at step
step-made c e = made escapes c.args.field.now c.loop-byte.at c.step.ensures e

pub loop-byte-init : goal.loop-byte-init
loop-byte-init c = (c.requires, λ n p. p)

pub loop-byte-smaller : goal.loop-byte-smaller
loop-byte-smaller c = omega (arith, (step-made (goal.at.loop-byte-smaller c).After-step (c.in-Ok-Some.is ∙ ap Ok c.in-Ok-Some.field-0-is)).moves)

pub loop-byte-preserved : goal.loop-byte-preserved
loop-byte-preserved c =
    let step = step-made (goal.at.loop-byte-preserved c).After-step (c.in-Ok-Some.is ∙ ap Ok c.in-Ok-Some.field-0-is) in
    let b = c.in-Ok-Some.byte in
    let rest = unescaped (drop b.next c.args.field.now) in
    let good : IsGood rest = sym (good_more b.value rest) ∙ sym (ap is_good step.text) ∙ c.loop-byte.invariant.0 in
    let text = ap text_of step.text ∙ text-more b.value rest good in
    (good, λ end p. c.loop-byte.invariant.1 end (puts_as (sym text) (byte_then c.byte.ensures p)))

pub returns-in_default : goal.returns-in_default
returns-in_default c =
    let none : c.in_default.field-0 ≡ None = search rules in
    let step = step-made (goal.at.returns-in_default c).After-step (c.in_default.is ∙ ap Ok none) in
    c.loop-byte.invariant.1 _ (puts_as (sym (ap text_of step.text)) (puts_none _))

pub returns-in_default-2 : goal.returns-in_default-2
returns-in_default-2 c =
    let step = step-made (goal.at.returns-in_default-2 c).After-step c.in_default.is in
    c.loop-byte.invariant.1 _ (puts_as (sym (ap text_of step.text)) (puts_none _))
