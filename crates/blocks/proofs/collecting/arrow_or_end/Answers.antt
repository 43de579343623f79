use mathlib.Core.Path.{sym, ◌∙◌}
use native.Mathlib.Omega.{arith}
use Rattle.blocks.proofs.LineLaws.{sought_next}
use Rattle.blocks.proofs.collecting.arrow_or_end.Goals as goal

pub loop-i-preserved : goal.loop-i-preserved
loop-i-preserved c =
    sought_next c.args.s.now c.args.line c.loop-i.i c.loop-i.invariant (omega arith) c.if-s-i-eq10.false (sym c.arrow_here.ensures ∙ c.if-arrow_here.false)
