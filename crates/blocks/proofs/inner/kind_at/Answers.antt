use Prim.Native.Nat.{◌+◌}
use mathlib.Core.Path.{sym, ap, ◌∙◌}
use native.Mathlib.Omega.{arith}
use borrow.Author.Tests.{eq-eqb, ne_eqb, not-true, not-false}
use Rattle.format.specs.Texts.{empty_part}
use Rattle.format.specs.CueSettings.{span_is}
use Rattle.timing.specs.TimingLines.{timed_line_is}
use Rattle.blocks.specs.Items.{part, after_line_end, meaning_at, kind_is}
use Rattle.blocks.proofs.ItemLaws.{part_of_lem, timed_is_lem, kind_timed}
use Rattle.blocks.proofs.inner.kind_at.Goals as goal

pub returns-then-gives_nothing : goal.returns-then-gives_nothing
returns-then-gives_nothing c =
    let a = c.args in
    rw (c.gives_nothing.ensures c.if-gives_nothing.true a.seen)

pub returns-then-first-to : goal.returns-then-first-to
unfolding meaning_at
returns-then-first-to c =
    let a = c.args in
    rw (not-true a.block.stop.head.timed c.if-not-head.true, eq-eqb a.block.stop.head.first a.block.stop.to c.if-first-to.true)

pub returns-then-not-head : goal.returns-then-not-head
unfolding meaning_at
returns-then-not-head c =
    let a = c.args in
    c.kind.ensures
    ∙ rw (
      c.definition.ensures,
      not-true a.block.stop.head.timed c.if-not-head.true,
      ne_eqb a.block.stop.head.first a.block.stop.to c.if-first-to.false,
    )

pub returns-then-first-end : goal.returns-then-first-end
unfolding meaning_at
returns-then-first-end c =
    let a = c.args in
    let s = a.s.now in
    let head = a.block.stop.head in
    let line = part s a.block.from head.end in
    let id = empty_part in
    let text = after_line_end s head.end a.block.stop.to in
    c.timed_kind.ensures
    ∙ rw (
      part_of_lem s a.block.from head.end (omega arith) (omega arith),
      not-false head.timed c.if-not-head.false,
      eq-eqb head.first head.end c.if-first-end.true,
    )
    (sym (kind_timed (span_is id) (span_is text) (timed_line_is line)) ∙ ap kind_is (timed_is_lem id text line))

pub returns : goal.returns
unfolding meaning_at
returns c =
    let a = c.args in
    let s = a.s.now in
    let head = a.block.stop.head in
    let apart = c.if-first-end.false in
    let line = part s (head.first + 1) head.end in
    let id = part s a.block.from head.first in
    let text = after_line_end s head.end a.block.stop.to in
    c.timed_kind-2.ensures
    ∙ rw (
      part_of_lem s (head.first + 1) head.end (omega (arith, apart)) (omega arith),
      not-false head.timed c.if-not-head.false,
      ne_eqb head.first head.end apart,
    )
    (sym (kind_timed (span_is id) (span_is text) (timed_line_is line)) ∙ ap kind_is (timed_is_lem id text line))
