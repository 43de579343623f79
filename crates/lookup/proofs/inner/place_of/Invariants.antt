use Rattle.std.proofs.Common.{◌<◌}
use Rattle.lookup.proofs.inner.place_of.Given as goal

abbrev pub invariant-loop-b : goal.invariant-loop-b
invariant-loop-b l = l.sum < 256
