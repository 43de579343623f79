use mathlib.Core.Path.{◌≡◌}
use lib.ListN.{drop}
use Rattle.format.specs.Lines.{split}
use Rattle.format.specs.Writable.{none_empty}
use Rattle.writable.proofs.TextLaws.{none_empty_from}
use Rattle.writable.proofs.texts.none_empty.Given as goal

-- `writable::texts::none_empty` meets its contract: the line that goes on at the byte and those after it have none empty where the whole has none.
abbrev pub invariant-loop-b : goal.invariant-loop-b
invariant-loop-b l = (none_empty_from l.fresh (split (drop l.b-index l.s)) ≡ none_empty (split l.s))
