use borrow.Author.Tests.{lt-leb, le-leb}
use lib.ListN.{length}
use Rattle.format.specs.Writable.{part_plain}
use Rattle.format.specs.Texts.{bytes_at}
use Rattle.parts.proofs.part_plain.Goals as goal

pub returns-then-to-from : goal.returns-then-to-from
unfolding part_plain bytes_at
returns-then-to-from c = let a = c.args in rw (lt-leb a.from a.to c.if-to-from.true)

pub returns-then-text-to : goal.returns-then-text-to
unfolding part_plain bytes_at
returns-then-text-to c = let a = c.args in rw (le-leb a.from a.to c.if-to-from.false, lt-leb a.to (length a.text.now) c.if-text-to.true)

pub returns : goal.returns
unfolding part_plain bytes_at
returns c =
    let a = c.args in
    rw (c.is_plain.ensures, le-leb a.from a.to c.if-to-from.false, le-leb a.to (length a.text.now) c.if-text-to.false)
