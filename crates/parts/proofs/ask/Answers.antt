use mathlib.Core.Path.{sym, ◌∙◌}
use borrow.Author.Tests.{lt-ltb, le-ltb}
use lib.ListN.{length}
use Rattle.format.specs.Parts.{part_answer_is, part_error, asking}
use Rattle.parts.proofs.ask.Goals as goal

pub returns-then-cues-number : goal.returns-then-cues-number
unfolding part_answer_is part_error asking
returns-then-cues-number c = let a = c.args in rw (le-ltb a.number (length a.cues.now) c.if-cues-number.true)

pub returns-then-not-test_1 : goal.returns-then-not-test_1
unfolding part_answer_is part_error asking
returns-then-not-test_1 c =
    let a = c.args in
    rw (lt-ltb a.number (length a.cues.now) c.if-cues-number.false, sym c.test_1.ensures ∙ c.if-not-test_1.true)

pub returns : goal.returns
unfolding part_answer_is part_error asking
returns c =
    let a = c.args in
    rw (lt-ltb a.number (length a.cues.now) c.if-cues-number.false, sym c.test_1.ensures ∙ c.if-not-test_1.false)
