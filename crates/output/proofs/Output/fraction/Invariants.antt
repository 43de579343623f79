use mathlib.Core.Path.{◌≡◌}
use Rattle.format.specs.Written.{last_digits, without_zeros}
use Rattle.output.proofs.Output.fraction.Given as goal

abbrev pub invariant-loop-k : goal.invariant-loop-k
invariant-loop-k l =
    (l.self ≡ l.initial.self) × (without_zeros (last_digits 6 l.millionths) ≡ without_zeros (last_digits l.k l.rest))
