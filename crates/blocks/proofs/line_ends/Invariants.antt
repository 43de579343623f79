use Prim.Native.Nat.{◌≤◌}
use mathlib.Core.Path.{◌≡◌}
use lib.ListN.{take}
use Rattle.blocks.specs.Collecting.{line_ends}
use Rattle.blocks.proofs.line_ends.Given as goal

-- `blocks::line_ends` meets its contract: `n` line ends stand before the place `i`.
abbrev pub invariant-loop-i : goal.invariant-loop-i
invariant-loop-i l = (l.n ≤ l.i) × (l.n ≡ line_ends (take l.i l.s))
