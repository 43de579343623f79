use Prim.Native.Nat.{◌+◌}
use mathlib.Core.Path.{◌≡◌}
use lib.ListN.{drop}
use Rattle.format.specs.Replacing.{raw_start}
use Rattle.places.proofs.lines.raw_start.Given as goal

-- from `i` on, the line asked for is `left` lines ahead
abbrev pub invariant-loop-i : goal.invariant-loop-i
invariant-loop-i l = l.i + raw_start (drop l.i l.raw) l.left ≡ l.from + raw_start (drop l.from l.raw) l.n
