use mathlib.Core.Bool.{not}
use mathlib.Core.Path.{◌≡◌, ap, ◌∙◌}
use Rattle.format.specs.Texts.{bytes_at}
use Rattle.format.specs.Writable.{first_failing, cue_test2, cue_test3}
use Rattle.writable.proofs.FaultLaws.{failed, passed}
use Rattle.writable.proofs.cue_parts_test.Goals as goal
use Rattle.writable.proofs.cue_parts_test.Goals.{After-is_identifier, After-text_fits}

-- tests 2 and 3, as the code asks them of the parts that it cuts
test-2-is :
    (c : After-is_identifier)
    → let a = c.args in c.is_identifier.result ≡ cue_test2 (bytes_at a.text.now a.id.from a.id.to)
unfolding cue_test2
test-2-is c = rw (← c.part.ensures) c.is_identifier.ensures

test-3-is :
    (c : After-text_fits)
    → let a = c.args in c.text_fits.result ≡ cue_test3 (bytes_at a.text.now a.words.from a.words.to)
test-3-is c = c.text_fits.ensures ∙ ap cue_test3 c.part-2.ensures

pub returns-then-not-is_identifier : goal.returns-then-not-is_identifier
unfolding first_failing
returns-then-not-is_identifier c = rw (failed (test-2-is (goal.at.returns-then-not-is_identifier c).After-is_identifier) (ap not c.if-not-is_identifier.true))

pub returns-then-not-text_fits : goal.returns-then-not-text_fits
unfolding first_failing
returns-then-not-text_fits c = rw (passed (test-2-is (goal.at.returns-then-not-text_fits c).After-is_identifier) (ap not c.if-not-is_identifier.false), failed (test-3-is (goal.at.returns-then-not-text_fits c).After-text_fits) (ap not c.if-not-text_fits.true))

pub returns : goal.returns
unfolding first_failing
returns c = rw (passed (test-2-is (goal.at.returns c).After-is_identifier) (ap not c.if-not-is_identifier.false), passed (test-3-is (goal.at.returns c).After-text_fits) (ap not c.if-not-text_fits.false))
