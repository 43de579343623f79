use Rattle.format.specs.CueSettings.{position_change, position_aligned}
use mathlib.Core.Path.{◌≡◌, sym, ap, ◌∙◌}
use Rattle.format.specs.Bytes.{comma}
use Rattle.format.specs.Texts.{before_first}
use Rattle.format.specs.Numbers.{percentage}
use Rattle.values.proofs.CutLaws.{upto}
use Rattle.cue_settings.proofs.steps.position_change.Goals as goal
use Rattle.cue_settings.proofs.steps.position_change.Goals.{After-read_percentage}

pub slice_bounds-read_percentage-end : goal.slice_bounds-read_percentage-end
slice_bounds-read_percentage-end c = (upto comma c.args.value.now c.past-comma.result c.past-comma.ensures).1

-- the percentage before the first comma
percentage_is_lem : (c : After-read_percentage) → percentage (before_first comma c.args.value.now) ≡ c.read_percentage.result
percentage_is_lem c =
    let cut = (upto comma c.args.value.now c.past-comma.result c.past-comma.ensures).0 in
    ap percentage (sym cut) ∙ sym c.read_percentage.ensures

pub returns-in_default : goal.returns-in_default
unfolding position_change position_aligned
returns-in_default c = rw (percentage_is_lem (goal.at.returns-in_default c).After-read_percentage ∙ c.in_default.is)

pub returns-in_default-position_align : goal.returns-in_default-position_align
unfolding position_change position_aligned
returns-in_default-position_align c =
    rw (percentage_is_lem (goal.at.returns-in_default-position_align c).After-read_percentage ∙ c.in-Some.is, sym c.position_align.ensures ∙ c.in_default-position_align.is)

pub returns : goal.returns
unfolding position_change position_aligned
returns c =
    rw (percentage_is_lem (goal.at.returns c).After-read_percentage ∙ c.in-Some.is, sym c.position_align.ensures ∙ c.in-Some-position_align.is)
