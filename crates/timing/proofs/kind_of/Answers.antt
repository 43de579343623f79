use mathlib.Core.Path.{ap, ◌∙◌}
use Rattle.values.proofs.CutLaws.{Cut, cut_at}
use Rattle.timing.specs.TimingLines.{timed_line_is, line_kind}
use Rattle.timing.proofs.kind_of.Goals as goal
use Rattle.timing.proofs.kind_of.Goals.{After-min-start}

-- the part that was cut
cut :
    (c : After-min-start)
    → let args = c.args in Cut args.text.now args.from args.to c.min-end.result c.min-start.result
cut c =
    let args = c.args in
    cut_at args.text.now args.from args.to c.min-end.result c.min-start.result c.min-end.ensures c.min-start.ensures

pub slice_bounds-read_kind-end : goal.slice_bounds-read_kind-end
slice_bounds-read_kind-end c = (cut (goal.at.slice_bounds-read_kind-end c).After-min-start).size

pub read_kind-requires : goal.read_kind-requires
read_kind-requires c = (cut (goal.at.read_kind-requires c).After-min-start).inside

pub returns : goal.returns
returns c = c.read_kind.ensures ∙ ap (λ p. line_kind (timed_line_is p)) (cut (goal.at.returns c).After-min-start).part
