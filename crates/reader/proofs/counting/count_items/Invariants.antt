use Prim.Native.Nat.{◌≤◌, ◌-◌}
use mathlib.Core.Path.{◌≡◌}
use mathlib.Core.Bool.{false}
use lib.Dec.{ltb}
use lib.ListN.{length}
use Rattle.format.specs.Lists.{items_from}
use Rattle.reader.specs.Counting.{tally_with, tally_is}
use Rattle.blocks.proofs.WalkLaws.{fresh}
use Rattle.reader.proofs.counting.count_items.Given as goal

abbrev pub invariant-loop-block : goal.invariant-loop-block
invariant-loop-block l =
    record {
      inside : l.at ≤ length l.s;
      cues_most : l.n.cues ≤ l.at;
      regions_most : l.n.regions ≤ l.at;
      styles_most : l.n.styles ≤ l.at;
      gives : tally_with l.n (items_from (ltb 0 l.n.cues) (fresh l.s l.at)) ≡ tally_is (items_from false (fresh l.s l.from));
    }

abbrev pub decreases-loop-block : goal.decreases-loop-block
decreases-loop-block l = length l.s - l.at
