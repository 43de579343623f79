use Prim.Native.Nat.{◌-◌}
use lib.ListN.{length}
use Rattle.node_sizes.proofs.BoundLaws.{Reached}
use Rattle.node_sizes.proofs.inner.measuring.measure.Given as goal

-- `node_sizes::inner::measuring::measure` meets its contract.
abbrev pub invariant-loop-found : goal.invariant-loop-found
invariant-loop-found l = Reached l.text (length l.fn.words) l.at l.m

abbrev pub decreases-loop-found : goal.decreases-loop-found
decreases-loop-found l = length l.text - l.at
