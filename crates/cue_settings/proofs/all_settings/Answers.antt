use mathlib.Core.Path.{ap, ◌∙◌}
use Rattle.values.proofs.CutLaws.{Cut, cut_at}
use Rattle.format.specs.CueSettings.{cue_settings}
use Rattle.cue_settings.specs.Steps.{taken_is}
use Rattle.cue_settings.proofs.all_settings.Goals as goal
use Rattle.cue_settings.proofs.all_settings.Goals.{After-min-start}

-- the part that was cut
cut :
    (c : After-min-start)
    → let args = c.args in Cut args.text.now args.from args.to c.min-end.result c.min-start.result
cut c =
    let args = c.args in
    cut_at args.text.now args.from args.to c.min-end.result c.min-start.result c.min-end.ensures c.min-start.ensures

pub slice_bounds-read_settings-end : goal.slice_bounds-read_settings-end
slice_bounds-read_settings-end c = (cut (goal.at.slice_bounds-read_settings-end c).After-min-start).size

pub read_settings-requires : goal.read_settings-requires
read_settings-requires c = (cut (goal.at.read_settings-requires c).After-min-start).inside

pub returns : goal.returns
returns c = c.read_settings.ensures ∙ ap (λ p. taken_is (cue_settings p)) (cut (goal.at.returns c).After-min-start).part
