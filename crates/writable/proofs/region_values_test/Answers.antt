use mathlib.Core.Bool.{not}
use mathlib.Core.Path.{◌≡◌, ap}
use mathlib.Core.List.{[], ◌∷◌}
use borrow.Author.Tests.{lt-leb, le-leb}
use Rattle.format.specs.Contents.{region_of_entry}
use Rattle.format.specs.Writable.{first_failing, region_test2, region_test4, region_tests}
use Rattle.writable.proofs.FaultLaws.{failed, passed}
use Rattle.writable.proofs.region_values_test.Goals as goal
use Rattle.writable.proofs.region_values_test.Goals.{After-is_region_identifier, Else-not-percentages_fit}

-- test 2, as the code asks it
second_is :
    (c : After-is_region_identifier)
    → let a = c.args in
    c.is_region_identifier.result ≡ region_test2 (region_of_entry a.text.now a.region).id
unfolding region_test2 region_of_entry
second_is c = rw (← c.part.ensures) c.is_region_identifier.ensures

-- test 4 decides where the others hold
last-decides :
    (c : Else-not-percentages_fit) (from_second_is : let a = c.args in
    c.is_region_identifier.result ≡ region_test2 (region_of_entry a.text.now a.region).id)
    → let a = c.args in
    first_failing 2 (region_tests (region_of_entry a.text.now a.region)) ≡ first_failing 4 (region_test4 a.region.settings.lines ∷ [])
unfolding first_failing region_tests region_of_entry
last-decides c from_second_is =
    rw (passed from_second_is (ap not c.if-not-is_region_identifier.false), passed c.percentages_fit.ensures (ap not c.if-not-percentages_fit.false))

pub returns-then-not-is_region_identifier : goal.returns-then-not-is_region_identifier
unfolding first_failing region_tests
returns-then-not-is_region_identifier c = rw (failed (second_is (goal.at.returns-then-not-is_region_identifier c).After-is_region_identifier) (ap not c.if-not-is_region_identifier.true))

pub returns-then-not-percentages_fit : goal.returns-then-not-percentages_fit
unfolding first_failing region_tests region_of_entry
returns-then-not-percentages_fit c = rw (passed (second_is (goal.at.returns-then-not-percentages_fit c).After-is_region_identifier) (ap not c.if-not-is_region_identifier.false), failed c.percentages_fit.ensures (ap not c.if-not-percentages_fit.true))

pub returns-then-settings-gt999999 : goal.returns-then-settings-gt999999
unfolding first_failing region_test4
returns-then-settings-gt999999 c = rw (last-decides (goal.at.returns-then-settings-gt999999 c).Else-not-percentages_fit (second_is (goal.at.returns-then-settings-gt999999 c).After-is_region_identifier), lt-leb _ _ c.if-settings-gt999999.true)

pub returns : goal.returns
unfolding first_failing region_test4
returns c = rw (last-decides (goal.at.returns c).Else-not-percentages_fit (second_is (goal.at.returns c).After-is_region_identifier), le-leb _ _ c.if-settings-gt999999.false)
