use mathlib.Core.Path.{sym}
use Rattle.format.specs.Written.{decimal_in}
use Rattle.output.proofs.PutLaws.{puts_as}
use Rattle.output.proofs.Output.number.Goals as goal

pub returns : goal.returns
unfolding decimal_in
returns c = puts_as (sym c.width.ensures.1) c.digits.ensures
