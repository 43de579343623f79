use mathlib.Core.Path.{ap}
use mathlib.Core.Bool.{not}
use Rattle.format.specs.Writable.{region_test3}
use Rattle.rows.proofs.RowLaws.{and_none}
use Rattle.writable.proofs.FaultLaws.{failed, passed}
use Rattle.writable.proofs.percentages_fit.Goals as goal

pub returns-then-not-at_most_100 : goal.returns-then-not-at_most_100
unfolding region_test3
returns-then-not-at_most_100 c = simp (failed c.at_most_100.ensures (ap not c.if-not-at_most_100.true))

pub returns-then-not-at_most_100-2 : goal.returns-then-not-at_most_100-2
unfolding region_test3
returns-then-not-at_most_100-2 c = simp (failed c.at_most_100-2.ensures (ap not c.if-not-at_most_100-2.true), and_none)

pub returns-then-not-at_most_100-3 : goal.returns-then-not-at_most_100-3
unfolding region_test3
returns-then-not-at_most_100-3 c = simp (failed c.at_most_100-3.ensures (ap not c.if-not-at_most_100-3.true), and_none)

pub returns-then-not-at_most_100-4 : goal.returns-then-not-at_most_100-4
unfolding region_test3
returns-then-not-at_most_100-4 c = simp (failed c.at_most_100-4.ensures (ap not c.if-not-at_most_100-4.true), and_none)

pub returns : goal.returns
unfolding region_test3
returns c =
    rw (
      c.at_most_100-5.ensures,
      passed c.at_most_100.ensures (ap not c.if-not-at_most_100.false),
      passed c.at_most_100-2.ensures (ap not c.if-not-at_most_100-2.false),
      passed c.at_most_100-3.ensures (ap not c.if-not-at_most_100-3.false),
      passed c.at_most_100-4.ensures (ap not c.if-not-at_most_100-4.false),
    )
