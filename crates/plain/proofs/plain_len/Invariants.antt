use Prim.Native.Nat.{◌+◌, ◌≤◌, ◌-◌}
use mathlib.Core.Path.{◌≡◌}
use lib.ListN.{length, drop}
use Rattle.format.specs.Plain.{first_not_plain}
use Rattle.plain.proofs.plain_len.Given as goal

-- `plain::plain_len` meets its contract: the bytes passed are plain, so the first that is not is the first of the rest.
abbrev pub invariant-loop-i : goal.invariant-loop-i
invariant-loop-i l = (l.i ≤ length l.s) × (l.i + first_not_plain (drop l.i l.s) ≡ first_not_plain l.s)

abbrev pub decreases-loop-i : goal.decreases-loop-i
decreases-loop-i l = length l.s - l.i
