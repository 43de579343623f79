use Rattle.std.proofs.Common.{◌≤◌}
use Rattle.listing.proofs.printing.field.Given as goal

-- What was printed ends no later than the byte that is read.
abbrev pub invariant-loop-i : goal.invariant-loop-i
invariant-loop-i g l = l.start ≤ l.i
