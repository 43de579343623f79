use mathlib.Core.Path.{◌∙◌}
use native.Mathlib.Omega.{arith}
use Rattle.values.specs.Tokens.{Named}
use Rattle.format.specs.CueSettings.{cue_change}
use Rattle.cue_settings.proofs.overs.token_over.Goals as goal
use Rattle.cue_settings.proofs.overs.token_over.Goals.{In-Some}

-- `cue_settings::overs::token_over` meets its contract.
-- the name and the value
parted :
    (c : In-Some)
    → let args = c.args in Named args.s.now args.from c.in-Some.colon
parted c = rw c.in-Some.is at c.name_end.ensures

pub slice_bounds-setting_over-count : goal.slice_bounds-setting_over-count
slice_bounds-setting_over-count c = omega (arith, (parted (goal.at.slice_bounds-setting_over-count c).In-Some).after)

pub slice_bounds-setting_over-start : goal.slice_bounds-setting_over-start
slice_bounds-setting_over-start c = omega (arith, (parted (goal.at.slice_bounds-setting_over-start c).In-Some).after)

pub slice_bounds-setting_over-end : goal.slice_bounds-setting_over-end
slice_bounds-setting_over-end c = omega (arith, (parted (goal.at.slice_bounds-setting_over-end c).In-Some).inside)

pub overflow_add-colon : goal.overflow_add-colon
overflow_add-colon c = omega (arith, (parted (goal.at.overflow_add-colon c).In-Some).inside)

pub setting_over-requires : goal.setting_over-requires
setting_over-requires c = omega (arith, (parted (goal.at.setting_over-requires c).In-Some).inside)

pub returns-in-None : goal.returns-in-None
unfolding cue_change
returns-in-None c = rw (rw c.in-None.is at c.name_end.ensures)

pub returns-in-Some : goal.returns-in-Some
unfolding cue_change
returns-in-Some c =
    let n = parted (goal.at.returns-in-Some c).In-Some in
    c.setting_over.ensures ∙ rw (n.both, n.name, n.value)
