use mathlib.Core.Path.{sym, ◌∙◌}
use lib.ListN.{drop}
use Rattle.format.specs.CueSettings.{opening_settings}
use Rattle.values.proofs.CutLaws.{rest-is}
use Rattle.cue_settings.proofs.OverLaws.{only_line, is_line}
use Rattle.cue_settings.proofs.overs.setting_over.Goals as goal

pub returns-then-not-same_bytes : goal.returns-then-not-same_bytes
returns-then-not-same_bytes c =
    let args = c.args in
    sym (only_line args.name.now (drop args.from args.s.now) opening_settings (sym c.same_bytes.ensures ∙ c.if-not-same_bytes.true))

pub returns : goal.returns
returns c =
    let args = c.args in
    let named-line = sym c.same_bytes.ensures ∙ c.if-not-same_bytes.false in
    rw (c.is_over.ensures, c.line_change.ensures, rest-is args.s.now args.from, is_line args.name.now (drop args.from args.s.now) opening_settings named-line)
