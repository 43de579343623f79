use Prim.Native.Nat.{◌+◌, ◌<◌}
use mathlib.Core.Path.{◌≡◌}
use lib.ListN.{take}
use Rattle.blocks.specs.Collecting.{line_ends}
use Rattle.replace.proofs.gap_before.Given as goal

-- `replace::gap_before` meets its contract: from `i` up to the place, only the byte at `i` can be a line end.
abbrev pub invariant-loop-i : goal.invariant-loop-i
invariant-loop-i l = (l.i < l.place) × (line_ends (take (l.i + 1) l.s) ≡ line_ends (take l.place l.s))

abbrev pub decreases-loop-i : goal.decreases-loop-i
decreases-loop-i l = l.i
