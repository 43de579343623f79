use mathlib.Core.Path.{◌≡◌}
use lib.ListN.{drop}
use lib.Seq.{paste}
use Rattle.plain.proofs.pieces.copy.Given as goal

-- `plain::pieces::copy` meets its contract: after i turns the first i bytes are pasted in.
abbrev pub invariant-loop-i : goal.invariant-loop-i
invariant-loop-i l = l.room ≡ paste l.initial.room l.to (drop l.at l.s) l.i
