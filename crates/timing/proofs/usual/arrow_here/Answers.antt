use native.Mathlib.Omega.{arith}
use Rattle.timing.proofs.UsualLaws.{arrow_read}
use Rattle.timing.proofs.usual.arrow_here.Goals as goal

pub returns-in-32 : goal.returns-in-32
returns-in-32 c = arrow_read c.args.t.now (omega arith) (omega arith) (omega arith) (omega arith) (omega arith) (omega arith)
