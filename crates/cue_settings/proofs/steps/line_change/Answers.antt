use Rattle.format.specs.CueSettings.{line_aligned, line_change}
use mathlib.Core.Path.{sym, ◌∙◌}
use Rattle.format.specs.Bytes.{comma}
use Rattle.values.proofs.CutLaws.{upto}
use Rattle.cue_settings.proofs.steps.line_change.Goals as goal

pub slice_bounds-place-end : goal.slice_bounds-place-end
slice_bounds-place-end c = (upto comma c.args.value.now c.past-comma.result c.past-comma.ensures).1

pub returns-in_default : goal.returns-in_default
unfolding line_change line_aligned
returns-in_default c = rw (sym c.line_align.ensures ∙ c.in_default.is)

pub returns-then-ends_with_percent : goal.returns-then-ends_with_percent
unfolding line_change line_aligned
returns-then-ends_with_percent c =
    rw (
      sym c.line_align.ensures ∙ c.in-Some.is,
      ← (upto comma c.args.value.now c.past-comma.result c.past-comma.ensures).0,
      sym c.ends_with_percent.ensures ∙ c.if-ends_with_percent.true,
    )
    c.line_percentage.ensures

pub returns : goal.returns
unfolding line_change line_aligned
returns c =
    rw (
      sym c.line_align.ensures ∙ c.in-Some.is,
      ← (upto comma c.args.value.now c.past-comma.result c.past-comma.ensures).0,
      sym c.ends_with_percent.ensures ∙ c.if-ends_with_percent.false,
    )
    c.line_number.ensures
