use Prim.Native.Nat.{◌≤◌}
use mathlib.Core.Path.{◌≡◌}
use lib.ListN.{drop}
use Rattle.format.specs.Blocks.{holds_arrow}
use Rattle.writable.proofs.TextLaws.{arrow_from}
use Rattle.writable.proofs.texts.holds_arrow.Given as goal

-- `writable::texts::holds_arrow` meets its contract: the hyphens before the byte and what is left hold `-->` where the whole does.
abbrev pub invariant-loop-b : goal.invariant-loop-b
invariant-loop-b l = (l.hyphens ≤ 2) × (arrow_from l.hyphens (drop l.b-index l.s) ≡ holds_arrow l.s)
