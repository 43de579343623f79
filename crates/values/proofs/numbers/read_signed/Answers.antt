use mathlib.Core.Path.{◌≡◌, sym, ap, ◌∙◌}
use Rattle.format.specs.Numbers.{decimal, signed}
use Rattle.std.specs.Prelude.{Some}
use Rattle.values.specs.Numbers.{line_number_is}
use Rattle.values.proofs.NumberLaws.{signed-none, signed-is, line_at}
use Rattle.values.proofs.numbers.read_signed.Goals as goal
use Rattle.values.proofs.numbers.read_signed.Goals.{In-Some-up_to}

pub returns-in_default : goal.returns-in_default
returns-in_default c = sym (signed-none c.args.minus (decimal c.args.s.now) (sym c.read_decimal.ensures ∙ c.in_default.is))

pub returns-in_default-up_to : goal.returns-in_default-up_to
returns-in_default-up_to c =
    sym
    (signed-is c.args.minus (decimal c.args.s.now) c.in-Some.size (sym c.read_decimal.ensures ∙ c.in-Some.is)
    ∙ ap (line_at c.args.minus) (sym c.up_to.ensures ∙ c.in_default-up_to.is))

-- a number within its limit
within :
    (c : In-Some-up_to)
    → let args = c.args in
    line_number_is (signed args.minus (decimal args.s.now)) ≡ line_at args.minus (Some c.in-Some-up_to.millionths)
within c =
    signed-is c.args.minus (decimal c.args.s.now) c.in-Some.size (sym c.read_decimal.ensures ∙ c.in-Some.is)
    ∙ ap (line_at c.args.minus) (sym c.up_to.ensures ∙ c.in-Some-up_to.is)

pub returns-then-minus : goal.returns-then-minus
returns-then-minus c = sym (within (goal.at.returns-then-minus c).In-Some-up_to ∙ rw c.if-minus.true)

pub returns-else-minus : goal.returns-else-minus
returns-else-minus c = sym (within (goal.at.returns-else-minus c).In-Some-up_to ∙ rw c.if-minus.false)
