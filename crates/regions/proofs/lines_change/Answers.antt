use mathlib.Core.Path.{sym, ◌∙◌}
use Rattle.regions.proofs.ChangeLaws.{lines-is}
use Rattle.regions.proofs.lines_change.Goals as goal

pub returns-in-Ok : goal.returns-in-Ok
returns-in-Ok c = rw (lines-is, sym c.read_line_count.ensures.is ∙ c.in-Ok.is)

pub returns-in-Err-Bad : goal.returns-in-Err-Bad
returns-in-Err-Bad c = rw (lines-is, sym c.read_line_count.ensures.is ∙ c.in-Err-Bad.is, c.in-Err-Bad.field-0-is)

pub returns-in-Err-Over : goal.returns-in-Err-Over
returns-in-Err-Over c = rw (lines-is, sym c.read_line_count.ensures.is ∙ c.in-Err-Over.is, c.in-Err-Over.field-0-is)
