use mathlib.Core.Bool.{not}
use mathlib.Core.Path.{ap, ◌∙◌}
use Rattle.format.specs.Contents.{region_of_entry}
use Rattle.format.specs.Writable.{first_failing, region_tests, region_fails}
use Rattle.writable.proofs.FaultLaws.{failed, passed}
use Rattle.writable.proofs.region_test.Goals as goal

pub returns-then-not-region_test_1 : goal.returns-then-not-region_test_1
unfolding region_fails first_failing
returns-then-not-region_test_1 c = rw (failed c.region_test_1.ensures (ap not c.if-not-region_test_1.true))

pub returns : goal.returns
unfolding region_fails first_failing
returns c =
    let a = c.args in
    rw (passed c.region_test_1.ensures (ap not c.if-not-region_test_1.false))
    (c.region_values_test.ensures ∙ ap (λ r. first_failing 2 (region_tests (region_of_entry a.text.now r))) c.entry.ensures)
