use mathlib.Core.Path.{refl}
use native.Mathlib.Omega.{arith}
use Rattle.timing.proofs.UsualLaws.{digit_range}
use Rattle.timing.proofs.usual.value_of.Goals as goal

-- `timing::usual::value_of` meets its contract.
pub overflow_sub-result : goal.overflow_sub-result
overflow_sub-result c = omega (arith, digit_range c.args.b c.requires)

pub returns : goal.returns
returns c = (refl, omega (arith, digit_range c.args.b c.requires))
