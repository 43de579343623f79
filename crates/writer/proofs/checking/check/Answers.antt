use mathlib.Core.Path.{◌∙◌}
use Rattle.format.specs.Writing.{not_writable, list_number}
use Rattle.writer.proofs.CheckLaws.{refuses, goes_on}
use Rattle.writer.proofs.checking.check.Goals as goal

pub returns-in-Some : goal.returns-in-Some
unfolding not_writable list_number
returns-in-Some c =
    λ answer. refuses 0 c.first_style.ensures _ c.in-Some.is

pub returns-in-Some-first_region : goal.returns-in-Some-first_region
unfolding not_writable list_number
returns-in-Some-first_region c =
    λ answer. refuses 1 c.first_region.ensures _ c.in-Some-first_region.is ∙ goes_on 0 c.first_style.ensures _ c.in_default.is

pub returns-in-Some-first_cue : goal.returns-in-Some-first_cue
unfolding not_writable list_number
returns-in-Some-first_cue c =
    λ answer.
    refuses 2 c.first_cue.ensures _ c.in-Some-first_cue.is
    ∙ goes_on 1 c.first_region.ensures _ c.in_default-first_region.is
    ∙ goes_on 0 c.first_style.ensures _ c.in_default.is

pub returns : goal.returns
returns c =
    λ answer.
    goes_on 2 c.first_cue.ensures _ c.in_default-first_cue.is
    ∙ goes_on 1 c.first_region.ensures _ c.in_default-first_region.is
    ∙ goes_on 0 c.first_style.ensures _ c.in_default.is
