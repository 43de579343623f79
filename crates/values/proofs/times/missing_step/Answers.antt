use borrow.Author.Tests.{ne_eqb}
use Rattle.format.specs.Times.{missing}
use Rattle.values.proofs.times.missing_step.Goals as goal

-- `values::times::missing_step` meets its contract.
pub returns-in-58 : goal.returns-in-58
unfolding missing
returns-in-58 c = rw c.in-58.is

pub returns-in-46 : goal.returns-in-46
unfolding missing
returns-in-46 c = rw c.in-46.is

pub returns-in_default : goal.returns-in_default
unfolding missing
returns-in_default c = simp (ne_eqb _ _ c.in_default.in_default-own.rest.0.1, ne_eqb _ _ c.in_default.in_default-own.rest.1)
