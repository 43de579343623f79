use mathlib.Core.Path.{refl}
use borrow.Author.Tests.{ne_eqb}
use Rattle.format.specs.Fields.{escapes}
use Rattle.fields.proofs.escaped_byte.Goals as goal

-- `fields::escaped_byte` meets its contract.
pub returns-in-92 : goal.returns-in-92
unfolding escapes
returns-in-92 c = rw c.in-92.is refl

pub returns-in-116 : goal.returns-in-116
unfolding escapes
returns-in-116 c = rw c.in-116.is refl

pub returns-in-110 : goal.returns-in-110
unfolding escapes
returns-in-110 c = rw c.in-110.is refl

pub returns-in_default : goal.returns-in_default
unfolding escapes
returns-in_default c =
    rw (ne_eqb _ _ c.in_default.in_default-own.rest.0.0.1, ne_eqb _ _ c.in_default.in_default-own.rest.0.1, ne_eqb _ _ c.in_default.in_default-own.rest.1) refl
