use Prim.Native.Nat.{◌+◌, ◌-◌, ◌≤◌}
use mathlib.Core.Path.{◌≡◌}
use lib.ListN.{length}
use Rattle.format.specs.Lines.{split}
use Rattle.format.specs.Bytes.{lf}
use Rattle.laws.proofs.Parted.{parts_from}
use Rattle.names.specs.Names.{index_in}
use Rattle.names.proofs.index_of.Given as goal

-- `values::names::index_of` meets its contract: the lines before `at` are not the name.
abbrev pub invariant-loop-at : goal.invariant-loop-at
invariant-loop-at l =
    (l.at ≤ length l.table + 1) × (l.index ≤ l.at) × (l.index + index_in (parts_from lf l.table l.at) l.name ≡ index_in (split l.table) l.name)

abbrev pub decreases-loop-at : goal.decreases-loop-at
decreases-loop-at l = length l.table + 1 - l.at
