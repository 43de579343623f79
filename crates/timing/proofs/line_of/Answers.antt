use mathlib.Core.Path.{ap, ◌∙◌}
use Rattle.values.proofs.CutLaws.{Cut, cut_at}
use Rattle.values.specs.Tokens.{part_of}
use Rattle.timing.specs.TimingLines.{timed_line_is}
use Rattle.timing.proofs.LineLaws.{timing_told}
use Rattle.timing.proofs.line_of.Goals as goal
use Rattle.timing.proofs.line_of.Goals.{After-min-start}

-- the part that was cut
cut :
    (c : After-min-start)
    → let args = c.args in Cut args.text.now args.from args.to c.min-end.result c.min-start.result
cut c =
    let args = c.args in
    cut_at args.text.now args.from args.to c.min-end.result c.min-start.result c.min-end.ensures c.min-start.ensures

pub slice_bounds-read_timing_line-end : goal.slice_bounds-read_timing_line-end
slice_bounds-read_timing_line-end c = (cut (goal.at.slice_bounds-read_timing_line-end c).After-min-start).size

pub read_timing_line-requires : goal.read_timing_line-requires
read_timing_line-requires c = (cut (goal.at.read_timing_line-requires c).After-min-start).inside

pub returns : goal.returns
returns c =
    let args = c.args in
    let both = timing_told (part_of args.text.now args.from args.to) c.read_timing_line.result (c.read_timing_line.ensures ∙ ap timed_line_is (cut (goal.at.returns c).After-min-start).part) in
    record { is = both.0; answer = both.1 }
