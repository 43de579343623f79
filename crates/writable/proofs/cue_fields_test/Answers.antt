use Prim.Native.Nat.{ℕ}
use mathlib.Core.Path.{◌≡◌, sym, ap, ◌∙◌}
use mathlib.Core.Bool.{Bool, not}
use mathlib.Core.List.{List, [], ◌∷◌}
use Rattle.format.specs.Texts.{bytes_at}
use Rattle.format.specs.Rows.{cue_entry}
use Rattle.format.specs.Contents.{cue_of_entry}
use Rattle.format.specs.Writable.{first_failing, cue_test2, cue_test3, cue_test4, cue_test5, cue_tests}
use Rattle.writable.proofs.FaultLaws.{failed, passed, fails_front, fails-after}
use Rattle.writable.proofs.cue_fields_test.Goals as goal
use Rattle.writable.proofs.cue_fields_test.Goals.{After-cue_parts_test}

-- the tests 2 and 3, and those after them
module _ (s row : List ℕ) where
  abbrev two : List Bool
  two =
      let e = cue_entry row in
      cue_test2 (bytes_at s e.id.from e.id.to) ∷ cue_test3 (bytes_at s e.text.from e.text.to) ∷ []

  abbrev three : List Bool
  three = let e = cue_entry row in cue_test4 e.start e.end ∷ cue_test5 e.settings ∷ []

parts_are :
    (c : After-cue_parts_test)
    → c.cue_parts_test.result ≡ first_failing 2 (two c.args.text.now c.args.row)
parts_are c = c.cue_parts_test.ensures ∙ rw (c.id.ensures, c.text.ensures)

pub returns-then-not-test_1 : goal.returns-then-not-test_1
unfolding first_failing
returns-then-not-test_1 c = rw (failed c.test_1.ensures (ap not c.if-not-test_1.true))

pub returns-in-Some : goal.returns-in-Some
unfolding first_failing cue_tests cue_of_entry
returns-in-Some c =
    let s = c.args.text.now in
    let row = c.args.row in
    let parts = parts_are (goal.at.returns-in-Some c).After-cue_parts_test in
    rw (passed c.test_1.ensures (ap not c.if-not-test_1.false))
    (fails_front 2 c.in-Some.test (two s row) (three s row) (sym c.in-Some.is ∙ parts))

pub returns : goal.returns
unfolding first_failing cue_tests cue_of_entry
returns c =
    let s = c.args.text.now in
    let row = c.args.row in
    let parts = parts_are (goal.at.returns c).After-cue_parts_test in
    rw (passed c.test_1.ensures (ap not c.if-not-test_1.false))
    (c.cue_numbers_test.ensures ∙ sym (fails-after 2 (two s row) (three s row) (sym c.in_default.is ∙ parts)))
