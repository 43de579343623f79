use mathlib.Core.Bool.{not}
use mathlib.Core.Path.{◌≡◌, ap, ◌∙◌}
use Rattle.format.specs.Rows.{region_entry}
use Rattle.format.specs.Writable.{part_plain, region_test1}
use Rattle.writable.proofs.FaultLaws.{failed, passed}
use Rattle.writable.proofs.region_test_1.Goals as goal
use Rattle.writable.proofs.region_test_1.Goals.{After-part_plain}

plain-is :
    (c : After-part_plain)
    → let a = c.args in c.part_plain.result ≡ part_plain a.text.now (region_entry a.row).id.from (region_entry a.row).id.to
plain-is c =
    let a = c.args in
    c.part_plain.ensures ∙ ap (λ p. part_plain a.text.now p.from p.to) c.id-id.ensures

pub returns-then-not-part_plain : goal.returns-then-not-part_plain
unfolding region_test1
returns-then-not-part_plain c = rw (failed (plain-is (goal.at.returns-then-not-part_plain c).After-part_plain) (ap not c.if-not-part_plain.true))

pub returns : goal.returns
unfolding region_test1
returns c = rw (passed (plain-is (goal.at.returns c).After-part_plain) (ap not c.if-not-part_plain.false)) c.are_named.ensures
