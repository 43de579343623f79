use Prim.Native.Nat.{◌≤◌, min}
use mathlib.Core.Path.{◌≡◌}
use lib.ListN.{drop}
use Rattle.format.specs.Numbers.{number_from, number}
use Rattle.values.specs.Numbers.{cap}
use Rattle.values.proofs.numbers.number_of.Given as goal

-- `values::numbers::number_of` meets its contract: the value so far, with the digits that are left, gives the whole, up to the cap.
abbrev pub invariant-loop-d : goal.invariant-loop-d
invariant-loop-d l = (l.v ≤ cap) × (min (number_from l.v (drop l.d-index l.ds)) cap ≡ min (number l.ds) cap)
