use Rattle.cue_settings.proofs.SettingLaws.{number-told}
use mathlib.Core.Path.{sym, ◌∙◌}
use Rattle.cue_settings.proofs.steps.line_number.Goals as goal

pub returns-in-Ok : goal.returns-in-Ok
returns-in-Ok c = rw (number-told, sym c.read_line_number.ensures.is ∙ c.in-Ok.is)

pub returns-in-Err-Bad : goal.returns-in-Err-Bad
returns-in-Err-Bad c = rw (number-told, sym c.read_line_number.ensures.is ∙ c.in-Err-Bad.is, c.in-Err-Bad.field-0-is)

pub returns-in-Err-Over : goal.returns-in-Err-Over
returns-in-Err-Over c = rw (number-told, sym c.read_line_number.ensures.is ∙ c.in-Err-Over.is, c.in-Err-Over.field-0-is)
