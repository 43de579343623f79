use Prim.Native.Nat.{◌+◌}
use mathlib.Core.Path.{◌≡◌}
use lib.ListN.{drop}
use Rattle.format.specs.Replacing.{raw_end}
use Rattle.places.proofs.lines.raw_end.Given as goal

-- the first line of what is left from `i` on ends where the line asked for does
abbrev pub invariant-loop-i : goal.invariant-loop-i
invariant-loop-i l = l.i + raw_end (drop l.i l.raw) 0 ≡ l.from + raw_end (drop l.from l.raw) l.n
