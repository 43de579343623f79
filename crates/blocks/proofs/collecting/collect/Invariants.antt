use Rattle.std.proofs.Common.{◌≡◌, ◌≤◌, length, ◌+◌, ◌-◌}
use Rattle.blocks.specs.Collecting.{lines_from, more_lines, collect_from}
use Rattle.blocks.proofs.collecting.collect.Given as goal

-- what is left of the lines, from this one on, gives the whole
abbrev pub invariant-loop-stop : goal.invariant-loop-stop
invariant-loop-stop l = record {
  inside : l.stop.at ≤ length l.s;
  few : l.stop.lines ≤ l.stop.at;
  gives : more_lines l.stop.lines (collect_from l.stop.head l.stop.to (lines_from l.s l.stop.at)) ≡ collect_from l.fn.known l.from (lines_from l.s l.from);
}

abbrev pub decreases-loop-stop : goal.decreases-loop-stop
decreases-loop-stop l = length l.s + 1 - l.stop.at
