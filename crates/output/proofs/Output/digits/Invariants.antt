use mathlib.Core.Path.{◌≡◌}
use mathlib.Core.List.{◌++◌}
use lib.ListN.{length}
use lib.Seq.{slice}
use Rattle.format.specs.Written.{last_digits}
use Rattle.output.proofs.Output.digits.Given as goal

abbrev pub invariant-loop-i : goal.invariant-loop-i
invariant-loop-i l = (length l.made ≡ 20) × (last_digits l.k l.n ≡ last_digits l.i l.rest ++ slice l.i l.k l.made)
