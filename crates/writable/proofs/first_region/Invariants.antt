use Rattle.format.specs.Writable.{region_fails}
use Rattle.writable.proofs.FaultLaws.{Left}
use Rattle.writable.proofs.first_region.Given as goal

-- `writable::first_region` meets its contract: the rows from i on give the answer of all.
abbrev pub invariant-loop-index : goal.invariant-loop-index
invariant-loop-index l = Left 1 (region_fails l.text) l.regions l.index
