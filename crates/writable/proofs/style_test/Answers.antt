use mathlib.Core.Bool.{not}
use mathlib.Core.Path.{◌≡◌, ap, ◌∙◌}
use Rattle.format.specs.Rows.{style_entry}
use Rattle.format.specs.Texts.{bytes_at}
use Rattle.format.specs.Contents.{style_of_row}
use Rattle.format.specs.Writable.{first_failing, part_plain, unbroken, style_test1, style_fails}
use Rattle.writable.proofs.FaultLaws.{failed, passed}
use Rattle.writable.proofs.style_test.Goals as goal
use Rattle.writable.proofs.style_test.Goals.{After-is_unbroken, After-part_plain}

-- the two tests, as the code asks them
plain-is :
    (c : After-part_plain)
    → let a = c.args in c.part_plain.result ≡ part_plain a.text.now (style_entry a.row).from (style_entry a.row).to
plain-is c =
    let a = c.args in
    c.part_plain.ensures ∙ ap (λ p. part_plain a.text.now p.from p.to) c.text-place.ensures

unbroken-is :
    (c : After-is_unbroken)
    → let a = c.args in c.is_unbroken.result ≡ unbroken (style_of_row a.text.now a.row)
unbroken-is c =
    let a = c.args in
    c.is_unbroken.ensures ∙ ap unbroken c.part.ensures ∙ ap (λ p. unbroken (bytes_at a.text.now p.from p.to)) c.text-place.ensures

pub returns-then-not-part_plain : goal.returns-then-not-part_plain
unfolding style_fails first_failing style_test1
returns-then-not-part_plain c = rw (failed (plain-is (goal.at.returns-then-not-part_plain c).After-part_plain) (ap not c.if-not-part_plain.true))

pub returns-then-not-is_unbroken : goal.returns-then-not-is_unbroken
unfolding style_fails first_failing style_test1
returns-then-not-is_unbroken c = rw (passed (plain-is (goal.at.returns-then-not-is_unbroken c).After-part_plain) (ap not c.if-not-part_plain.false), failed (unbroken-is (goal.at.returns-then-not-is_unbroken c).After-is_unbroken) (ap not c.if-not-is_unbroken.true))

pub returns : goal.returns
unfolding style_fails first_failing style_test1
returns c = rw (passed (plain-is (goal.at.returns c).After-part_plain) (ap not c.if-not-part_plain.false), passed (unbroken-is (goal.at.returns c).After-is_unbroken) (ap not c.if-not-is_unbroken.false))
