use Prim.Native.Nat.{◌-◌}
use lib.ListN.{length}
use Rattle.places.proofs.FindLaws.{Walking}
use Rattle.places.proofs.inner.finding.survey.Given as goal

-- `places::inner::finding::survey` meets its contract: what has been found, with what the blocks from `at` on give, is what the text has.
abbrev pub invariant-loop-block : goal.invariant-loop-block
invariant-loop-block l = Walking l.s l.number l.name l.at l.found

abbrev pub decreases-loop-block : goal.decreases-loop-block
decreases-loop-block l = length l.s - l.at
