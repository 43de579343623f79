use Prim.Native.Nat.{suc, ◌-◌, ◌<◌}
use mathlib.Core.Path.{◌≡◌}
use lib.ListN.{length, take}
use Rattle.blocks.specs.Collecting.{line_ends}
use Rattle.lookup.specs.Known.{AllRight}
use Rattle.reader.proofs.FillLaws.{Filled}
use Rattle.reader.proofs.filling.fill.Given as goal

abbrev pub invariant-loop-block : goal.invariant-loop-block
invariant-loop-block l =
    record {
      filled : Filled l.text l.initial.cues l.initial.regions l.initial.styles l.at l.n l.cues l.regions l.styles;
      known_len : length l.known ≡ 256;
      right : AllRight l.text (take l.n.regions l.regions) l.known;
      numbered : l.at < length l.text → l.line ≡ suc (line_ends (take l.at l.text));
    }

abbrev pub decreases-loop-block : goal.decreases-loop-block
decreases-loop-block l = length l.text - l.at
