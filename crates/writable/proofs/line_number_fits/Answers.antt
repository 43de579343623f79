use mathlib.Core.Path.{ap}
use mathlib.Core.Bool.{not}
use Rattle.writable.proofs.FaultLaws.{failed, passed}
use Rattle.writable.proofs.line_number_fits.Goals as goal

pub returns-then-snap : goal.returns-then-snap
returns-then-snap c = rw c.if-snap.true

pub returns-then-not-at_most_100 : goal.returns-then-not-at_most_100
returns-then-not-at_most_100 c = simp (c.if-snap.false, failed c.at_most_100.ensures (ap not c.if-not-at_most_100.true))

pub returns : goal.returns
returns c = simp (c.if-snap.false, passed c.at_most_100.ensures (ap not c.if-not-at_most_100.false))
