use mathlib.Core.Path.{◌≡◌, sym, ap, ◌∙◌}
use Rattle.format.specs.Rows.{cue_entry}
use Rattle.format.specs.Writable.{part_plain, cue_test1}
use Rattle.parts.proofs.test_1.Goals as goal
use Rattle.parts.proofs.test_1.Goals.{After-part_plain, After-part_plain-2}

-- what the test of the identifier says, and that of the text
id-plain :
    (c : After-part_plain) → let a = c.args in part_plain a.text.now (cue_entry a.row).id.from (cue_entry a.row).id.to ≡ c.part_plain.result
id-plain c =
    let a = c.args in
    ap (λ p. part_plain a.text.now p.from p.to) (sym c.id-id.ensures) ∙ sym c.part_plain.ensures

text-plain :
    (c : After-part_plain-2)
    → let a = c.args in part_plain a.text.now (cue_entry a.row).text.from (cue_entry a.row).text.to ≡ c.part_plain-2.result
text-plain c =
    let a = c.args in
    ap (λ p. part_plain a.text.now p.from p.to) (sym c.text-part.ensures) ∙ sym c.part_plain-2.ensures

pub returns-then-not-part_plain : goal.returns-then-not-part_plain
unfolding cue_test1
returns-then-not-part_plain c = rw (id-plain (goal.at.returns-then-not-part_plain c).After-part_plain ∙ c.if-not-part_plain.true)

pub returns-then-not-part_plain-2 : goal.returns-then-not-part_plain-2
unfolding cue_test1
returns-then-not-part_plain-2 c =
    rw (
      id-plain (goal.at.returns-then-not-part_plain-2 c).After-part_plain ∙ c.if-not-part_plain.false,
      text-plain (goal.at.returns-then-not-part_plain-2 c).After-part_plain-2 ∙ c.if-not-part_plain-2.true,
    )

pub returns : goal.returns
unfolding cue_test1
returns c =
    rw (
      id-plain (goal.at.returns c).After-part_plain ∙ c.if-not-part_plain.false,
      text-plain (goal.at.returns c).After-part_plain-2 ∙ c.if-not-part_plain-2.false,
      c.are_named.ensures,
    )
