use Prim.Native.Nat.{ℕ}
use native.Mathlib.Omega.{arith}
use mathlib.Core.Path.{◌≡◌, refl, ap, ◌∙◌}
use mathlib.Core.Bool.{false}
use mathlib.Core.List.{List, [], ◌∷◌}
use Rattle.format.specs.Writable.{first_failing, part_plain, cue_test1}
use Rattle.format.specs.Texts.{is_empty, bytes_at}
use Rattle.format.specs.Rows.{new_cue_name}
use Rattle.format.specs.Replacing.{name_lent, new_test1, new_test6, new_cue_fails}
use Rattle.laws.proofs.Tests.{and-false, or_true}
use Rattle.values.proofs.NumberLaws.{empty_is, is_empty-not}
use Rattle.writable.proofs.FaultLaws.{failed, passed}
use Rattle.places.proofs.TestLaws.{fields_fail, name_decides}
use Rattle.places.proofs.inner.testing.new_cue_test.Goals as goal
use Rattle.places.proofs.inner.testing.new_cue_test.Goals.{After-part-name, After-part_plain}

-- what the test of the name's place says, and the name that is cut out
plain-is :
    (c : After-part_plain)
    → let a = c.args in c.part_plain.result ≡ part_plain a.text.now (new_cue_name a.row).from (new_cue_name a.row).to
plain-is c =
    let a = c.args in
    c.part_plain.ensures ∙ ap (λ p. part_plain a.text.now p.from p.to) c.new_cue_name-place.ensures

name-is : (c : After-part-name) → let a = c.args in c.part-name.result.now ≡ name_lent a.text.now a.row
unfolding name_lent
name-is c =
    let a = c.args in
    c.part-name.ensures ∙ ap (λ p. bytes_at a.text.now p.from p.to) c.new_cue_name-place.ensures

-- what is left to test where the fields pass
left :
    (c : After-part-name) (names : List (List ℕ))
    → (let a = c.args in c.part_plain.result ≡ part_plain a.text.now (new_cue_name a.row).from (new_cue_name a.row).to)
    → let a = c.args in new_cue_fails a.text.now a.row names ≡ first_failing 6 (new_test6 a.text.now a.row names ∷ [])
left c names plain =
    let a = c.args in
    name_decides a.text.now a.row _ names (passed plain c.if-not-part_plain.false-raw)
    (c.cue_of_new.ensures.0, c.cue_of_new.ensures.1) c.cue_fields_test.ensures c.in_default.is

pub returns-then-not-part_plain : goal.returns-then-not-part_plain
unfolding new_cue_fails new_test1 first_failing
returns-then-not-part_plain c names e = rw (failed (plain-is (goal.at.returns-then-not-part_plain c).After-part_plain) c.if-not-part_plain.true-raw, and-false (cue_test1 _ _) false refl)

pub returns-in-Some : goal.returns-in-Some
returns-in-Some c names e =
    let a = c.args in
    fields_fail a.text.now a.row _ names (passed (plain-is (goal.at.returns-in-Some c).After-part_plain) c.if-not-part_plain.false-raw)
    (c.cue_of_new.ensures.0, c.cue_of_new.ensures.1) c.cue_fields_test.ensures c.in-Some.is

pub returns-then-name-eq0 : goal.returns-then-name-eq0
unfolding new_test6 first_failing
returns-then-name-eq0 c names e =
    rw (left (goal.at.returns-then-name-eq0 c).After-part-name names (plain-is (goal.at.returns-then-name-eq0 c).After-part_plain), ← (name-is (goal.at.returns-then-name-eq0 c).After-part-name), empty_is c.part-name.result.now c.if-name-eq0.true) refl

pub returns-then-named : goal.returns-then-named
unfolding new_test6 first_failing
returns-then-named c names e =
    rw (left (goal.at.returns-then-named c).After-part-name names (plain-is (goal.at.returns-then-named c).After-part_plain), ← e, c.if-named.true, or_true (is_empty (name_lent _ _))) refl

pub returns : goal.returns
unfolding new_test6 first_failing
returns c names e =
    rw (left (goal.at.returns c).After-part-name names (plain-is (goal.at.returns c).After-part_plain), ← e, c.if-named.false, ← (name-is (goal.at.returns c).After-part-name), is_empty-not c.part-name.result.now (omega arith)) refl
