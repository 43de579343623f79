use Prim.Native.Nat.{◌-◌}
use mathlib.Core.Path.{◌≡◌}
use lib.ListN.{length}
use Rattle.node_rows.proofs.FillLaws.{Filling}
use Rattle.node_rows.proofs.inner.filling.fill.Given as goal

-- `node_rows::inner::filling::fill` meets its contract.
abbrev pub invariant-loop-found : goal.invariant-loop-found
invariant-loop-found l =
    (Filling l.text l.initial.room l.initial.rows l.at l.filled l.room l.rows) × (length l.room ≡ length l.initial.room) × (length l.rows ≡ length l.initial.rows)

abbrev pub decreases-loop-found : goal.decreases-loop-found
decreases-loop-found l = length l.text - l.at
