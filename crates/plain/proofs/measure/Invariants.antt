use Prim.Native.Nat.{◌+◌, ◌≤◌, ◌-◌}
use mathlib.Core.Path.{◌≡◌}
use lib.ListN.{length, drop}
use Rattle.format.specs.Plain.{to_plain}
use Rattle.plain.proofs.measure.Given as goal

-- `plain::measure` meets its contract: what is counted, with what is left, is the whole length.
abbrev pub invariant-loop-i : goal.invariant-loop-i
invariant-loop-i l = (l.i ≤ length l.s) × (l.n + length (to_plain (drop l.i l.s)) ≡ length (to_plain l.s))

abbrev pub decreases-loop-i : goal.decreases-loop-i
decreases-loop-i l = length l.s - l.i
