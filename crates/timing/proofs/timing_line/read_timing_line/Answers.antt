use mathlib.Core.Path.{◌≡◌, sym, ap, ◌∙◌}
use Rattle.values.specs.Tokens.{token_from}
use Rattle.timing.specs.TimingLines.{line_from, timed_line_is}
use Rattle.timing.proofs.LineLaws.{line_is, times_after, times_inside}
use Rattle.timing.proofs.timing_line.read_timing_line.Goals as goal
use Rattle.timing.proofs.timing_line.read_timing_line.Goals.{After-read_times}

-- what the line is, by its times
line : (c : After-read_times) → let args = c.args in line_from args.s.now args.from c.read_times.result ≡ timed_line_is (token_from args.s.now args.from)
line c =
    ap (line_from c.args.s.now c.args.from) c.read_times.ensures ∙ line_is c.args.s.now c.args.from c.requires

pub overflow_sub-result : goal.overflow_sub-result
overflow_sub-result c =
    times_after c.args.s.now c.args.from c.requires _ _ (sym c.in-Bad.is ∙ c.read_times.ensures)

pub with_settings-requires : goal.with_settings-requires
with_settings-requires c =
    times_inside c.args.s.now c.args.from c.requires _ _ _ (sym c.in-Good.is ∙ c.read_times.ensures)

pub returns-in-Bad : goal.returns-in-Bad
returns-in-Bad c =
    rw c.in-Bad.is at (line (goal.at.returns-in-Bad c).After-read_times)

pub returns-in-Over : goal.returns-in-Over
returns-in-Over c = rw c.in-Over.is at (line (goal.at.returns-in-Over c).After-read_times)

pub returns-in-Good : goal.returns-in-Good
returns-in-Good c =
    c.with_settings.ensures ∙ rw c.in-Good.is at (line (goal.at.returns-in-Good c).After-read_times)
