use borrow.Author.Tests.{lt-ltb, le-ltb}
use Rattle.values.proofs.ended.Goals as goal

pub returns-then-next-n : goal.returns-then-next-n
returns-then-next-n c = rw (c.in-Over.is, lt-ltb _ _ c.if-next-n.true)

pub returns-then-end-n : goal.returns-then-end-n
returns-then-end-n c = rw (c.in-At.is, lt-ltb _ _ c.if-end-n.true)

pub returns-in-Bad : goal.returns-in-Bad
returns-in-Bad c = rw c.in-Bad.is

pub returns-else-next-n : goal.returns-else-next-n
returns-else-next-n c = rw (c.in-Over.is, le-ltb _ _ c.if-next-n.false)

pub returns-else-end-n : goal.returns-else-end-n
returns-else-end-n c = rw (c.in-At.is, le-ltb _ _ c.if-end-n.false)
