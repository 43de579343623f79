use Prim.Native.Nat.{◌+◌}
use mathlib.Core.Path.{◌∙◌}
use native.Mathlib.Omega.{arith}
use borrow.Author.Tests.{eq-eqb, ne_eqb, not-true, not-false}
use Rattle.format.specs.Texts.{empty_part, is_empty}
use Rattle.format.specs.CueSettings.{span_is}
use Rattle.blocks.specs.Items.{part, after_line_end, meaning_at}
use Rattle.blocks.proofs.ItemLaws.{part_of_lem, span_part, after_span_lem, timed_is_lem}
use Rattle.blocks.proofs.inner.item_at.Goals as goal

-- `blocks::inner::item_at` meets its contract.
pub returns-then-first-to : goal.returns-then-first-to
unfolding meaning_at
returns-then-first-to c =
    let a = c.args in
    rw (not-true a.block.stop.head.timed c.if-not-head.true, eq-eqb a.block.stop.head.first a.block.stop.to c.if-first-to.true)

pub returns-then-not-head : goal.returns-then-not-head
unfolding meaning_at
returns-then-not-head c =
    let a = c.args in
    c.definition.ensures
    ∙ rw (not-true a.block.stop.head.timed c.if-not-head.true, ne_eqb a.block.stop.head.first a.block.stop.to c.if-first-to.false)

pub returns-then-first-end : goal.returns-then-first-end
unfolding meaning_at span_is is_empty
returns-then-first-end c =
    let a = c.args in
    let s = a.s.now in
    let head = a.block.stop.head in
    let to = a.block.stop.to in
    c.timed_item.ensures
    ∙ rw (
      c.after_line-text.ensures,
      part_of_lem s a.block.from head.end (omega arith) (omega arith),
      after_span_lem s head.end to (omega arith) (omega arith),
      not-false head.timed c.if-not-head.false,
      eq-eqb head.first head.end c.if-first-end.true,
    )
    (timed_is_lem empty_part (after_line_end s head.end to) (part s a.block.from head.end))

pub returns : goal.returns
unfolding meaning_at
returns c =
    let a = c.args in
    let s = a.s.now in
    let head = a.block.stop.head in
    let to = a.block.stop.to in
    let apart = c.if-first-end.false in
    c.timed_item-2.ensures
    ∙ rw (
      c.after_line-text.ensures,
      c.span.ensures,
      part_of_lem s (head.first + 1) head.end (omega (arith, apart)) (omega arith),
      after_span_lem s head.end to (omega arith) (omega arith),
      span_part s a.block.from head.first (omega arith) (omega arith),
      not-false head.timed c.if-not-head.false,
      ne_eqb head.first head.end apart,
    )
    (timed_is_lem (part s a.block.from head.first) (after_line_end s head.end to) (part s (head.first + 1) head.end))
