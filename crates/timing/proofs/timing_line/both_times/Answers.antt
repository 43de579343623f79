use Rattle.timing.proofs.timing_line.both_times.Goals as goal

pub returns-in-Bad : goal.returns-in-Bad
returns-in-Bad c = rw c.in-Bad.is

pub returns-else-over : goal.returns-else-over
returns-else-over c = rw (c.in-At.is, c.if-over.false)
