use Prim.Native.Nat.{◌+◌, ◌-◌}
use mathlib.Core.Path.{◌≡◌}
use lib.ListN.{length, drop}
use Rattle.format.specs.Texts.{run}
use Rattle.values.specs.Runs.{passes}
use Rattle.values.proofs.bytes.past.Given as goal

-- `values::bytes::past` meets its contract: what is left of the run from `i` on ends where the whole does.
abbrev pub invariant-loop-i : goal.invariant-loop-i
invariant-loop-i l = l.i + length (run (passes l.kind) (drop l.i l.s)) ≡ l.at + length (run (passes l.kind) (drop l.at l.s))

abbrev pub decreases-loop-i : goal.decreases-loop-i
decreases-loop-i l = length l.s - l.i
