use mathlib.Core.Path.{sym, ◌∙◌}
use Rattle.format.specs.CueSettings.{line_at_percentage}
use Rattle.cue_settings.proofs.steps.line_percentage.Goals as goal

pub returns-in-Some : goal.returns-in-Some
unfolding line_at_percentage
returns-in-Some c = rw (sym c.read_percentage.ensures ∙ c.in-Some.is)
