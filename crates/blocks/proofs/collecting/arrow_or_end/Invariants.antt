use Rattle.blocks.proofs.LineLaws.{Sought}
use Rattle.blocks.proofs.collecting.arrow_or_end.Given as goal

abbrev pub invariant-loop-i : goal.invariant-loop-i
invariant-loop-i l = Sought l.s l.line l.i
