use mathlib.Core.Path.{◌∙◌}
use Rattle.values.proofs.CutLaws.{rest-is, span_is_lem}
use Rattle.cue_settings.proofs.steps.named_step.Goals as goal

pub returns-then-taken : goal.returns-then-taken
returns-then-taken c =
    let args = c.args in
    let value = c.span.ensures ∙ span_is_lem args.s.now args.from c.requires in
    rw (c.changed.ensures, c.name_after.ensures, c.if-taken.true, c.named_change-change.ensures, rest-is args.s.now args.from, value)

pub returns-else-taken : goal.returns-else-taken
returns-else-taken c =
    let args = c.args in
    let value = c.span.ensures ∙ span_is_lem args.s.now args.from c.requires in
    rw (c.changed.ensures, c.name_after.ensures, c.if-taken.false, c.is_over.ensures, c.named_change-change.ensures, rest-is args.s.now args.from, value)
