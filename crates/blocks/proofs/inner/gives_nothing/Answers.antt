use Prim.Native.Nat.{◌+◌}
use borrow.Author.Tests.{eq-eqb, ne_eqb, not-true, not-false}
use Rattle.blocks.specs.Items.{part, meaning_at}
use Rattle.blocks.proofs.NothingLaws.{no_definition}
use Rattle.blocks.proofs.inner.gives_nothing.Goals as goal

-- `blocks::inner::gives_nothing` meets its contract.
pub returns-then-first-stop : goal.returns-then-first-stop
unfolding meaning_at
returns-then-first-stop c =
    let a = c.args in
    λ e seen. rw (not-true a.block.stop.head.timed c.if-not-head.true, eq-eqb a.block.stop.head.first a.block.stop.to c.if-first-stop.true)

pub returns-then-not-head : goal.returns-then-not-head
unfolding meaning_at
returns-then-not-head c =
    let a = c.args in
    let s = a.s.now in
    let head = a.block.stop.head in
    λ e seen. rw (not-true head.timed c.if-not-head.true, ne_eqb head.first a.block.stop.to c.if-first-stop.false)
    (no_definition seen (part s a.block.from head.first).bytes (part s (head.first + 1) a.block.stop.to) (c.no_word.ensures e))

pub returns-then-first-end : goal.returns-then-first-end
unfolding meaning_at
returns-then-first-end c =
    let a = c.args in
    let head = a.block.stop.head in
    λ e seen. rw (not-false head.timed c.if-not-head.false, eq-eqb head.first head.end c.if-first-end.true, c.no_time.ensures e)

pub returns : goal.returns
unfolding meaning_at
returns c =
    let a = c.args in
    let head = a.block.stop.head in
    λ e seen. rw (not-false head.timed c.if-not-head.false, ne_eqb head.first head.end c.if-first-end.false, c.no_time-2.ensures e)
