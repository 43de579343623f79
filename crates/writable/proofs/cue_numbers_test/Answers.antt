use mathlib.Core.Bool.{not}
use mathlib.Core.Path.{◌≡◌, ◌∙◌, ap}
use Rattle.format.specs.Rows.{cue_entry}
use Rattle.format.specs.Writable.{first_failing, cue_test4}
use Rattle.writable.proofs.FaultLaws.{failed, passed}
use Rattle.writable.proofs.cue_numbers_test.Goals as goal
use Rattle.writable.proofs.cue_numbers_test.Goals.{After-times_fit}

times_are :
    (c : After-times_fit)
    → let a = c.args in c.times_fit.result ≡ cue_test4 (cue_entry a.row).start (cue_entry a.row).end
times_are c =
    c.times_fit.ensures ∙ rw (c.start.ensures, c.end.ensures)

pub returns-then-not-times_fit : goal.returns-then-not-times_fit
unfolding first_failing
returns-then-not-times_fit c = rw (failed (times_are (goal.at.returns-then-not-times_fit c).After-times_fit) (ap not c.if-not-times_fit.true))

pub returns-then-not-numbers_fit : goal.returns-then-not-numbers_fit
unfolding first_failing
returns-then-not-numbers_fit c = rw (passed (times_are (goal.at.returns-then-not-numbers_fit c).After-times_fit) (ap not c.if-not-times_fit.false), failed c.numbers_fit.ensures (ap not c.if-not-numbers_fit.true))

pub returns : goal.returns
unfolding first_failing
returns c = rw (passed (times_are (goal.at.returns c).After-times_fit) (ap not c.if-not-times_fit.false), passed c.numbers_fit.ensures (ap not c.if-not-numbers_fit.false))
