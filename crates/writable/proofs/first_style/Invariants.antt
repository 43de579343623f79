use Rattle.format.specs.Writable.{style_fails}
use Rattle.writable.proofs.FaultLaws.{Left}
use Rattle.writable.proofs.first_style.Given as goal

-- `writable::first_style` meets its contract: the rows from i on give the answer of all.
abbrev pub invariant-loop-index : goal.invariant-loop-index
invariant-loop-index l = Left 0 (style_fails l.text) l.styles l.index
