use mathlib.Core.Path.{◌≡◌}
use lib.ListN.{length}
use Rattle.format.specs.Writable.{names_of, cue_fails}
use Rattle.lookup.specs.Known.{AllLast}
use Rattle.writable.proofs.FaultLaws.{Left}
use Rattle.writable.proofs.first_cue.Given as goal

-- `writable::first_cue` meets its contract: the rows from i on give the answer of all.
abbrev pub invariant-loop-index : goal.invariant-loop-index
invariant-loop-index l =
    Left 2 (cue_fails l.text l.regions) l.cues l.index × (length l.known ≡ 256) × AllLast (names_of l.text l.regions) l.known
