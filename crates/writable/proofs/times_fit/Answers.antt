use borrow.Author.Tests.{lt-ltb, le-ltb}
use Rattle.format.specs.Writable.{cue_test4}
use Rattle.writable.proofs.times_fit.Goals as goal

pub returns-then-start-end : goal.returns-then-start-end
unfolding cue_test4
returns-then-start-end c = simp (lt-ltb _ _ c.if-start-end.true)

pub returns-else-start-end : goal.returns-else-start-end
unfolding cue_test4
returns-else-start-end c = simp (le-ltb _ _ c.if-start-end.false)
