use mathlib.Core.Path.{◌≡◌}
use mathlib.Core.List.{◌++◌}
use lib.ListN.{length, take, drop}
use Rattle.output.proofs.copy.Given as goal

-- `output::copy` meets its contract: after i turns the first i bytes of the text stand at the room's start.
abbrev pub invariant-loop-i : goal.invariant-loop-i
invariant-loop-i l = (length l.room ≡ length l.s) × (l.room ≡ take l.i l.s ++ drop l.i l.initial.room)
