use lib.ListN.{take}
use Rattle.output.specs.Puts.{Puts}
use Rattle.output.proofs.Output.each_byte.Given as goal

abbrev pub invariant-loop-b : goal.invariant-loop-b
invariant-loop-b l = Puts (take l.b-index l.s) l.initial.self l.self
