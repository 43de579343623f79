use mathlib.Core.Bool.{not}
use mathlib.Core.Path.{◌≡◌, ap, ◌∙◌}
use Rattle.format.specs.Rows.{cue_entry}
use Rattle.format.specs.Writable.{at_most100, line_fits, position_fits, cue_test5}
use Rattle.rows.proofs.RowLaws.{and_none}
use Rattle.writable.proofs.FaultLaws.{failed, passed}
use Rattle.writable.proofs.numbers_fit.Goals as goal
use Rattle.writable.proofs.numbers_fit.Goals.{After-line_fits, After-position_fits}

line_is : (c : After-line_fits) → c.line_fits.result ≡ line_fits (cue_entry c.args.row).settings.line
line_is c = c.line_fits.ensures ∙ ap line_fits c.line.ensures

position-is : (c : After-position_fits) → c.position_fits.result ≡ position_fits (cue_entry c.args.row).settings.position
position-is c = c.position_fits.ensures ∙ ap position_fits c.position.ensures

pub returns-then-not-line_fits : goal.returns-then-not-line_fits
unfolding cue_test5
returns-then-not-line_fits c = rw (failed (line_is (goal.at.returns-then-not-line_fits c).After-line_fits) (ap not c.if-not-line_fits.true))

pub returns-then-not-position_fits : goal.returns-then-not-position_fits
unfolding cue_test5
returns-then-not-position_fits c = simp (failed (position-is (goal.at.returns-then-not-position_fits c).After-position_fits) (ap not c.if-not-position_fits.true), and_none)

pub returns : goal.returns
unfolding cue_test5
returns c =
    rw (
      c.at_most_100.ensures ∙ ap at_most100 c.size.ensures,
      passed (line_is (goal.at.returns c).After-line_fits) (ap not c.if-not-line_fits.false),
      passed (position-is (goal.at.returns c).After-position_fits) (ap not c.if-not-position_fits.false),
    )
