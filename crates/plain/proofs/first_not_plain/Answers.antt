use borrow.Author.Tests.{lt-ltb, le-ltb}
use Rattle.format.specs.Converting.{plainness_is, testing}
use Rattle.plain.proofs.first_not_plain.Goals as goal

pub returns-then-at-text : goal.returns-then-at-text
unfolding plainness_is testing
returns-then-at-text c = rw (← c.plain_len-at.ensures, lt-ltb _ _ c.if-at-text.true)

pub returns-else-at-text : goal.returns-else-at-text
unfolding plainness_is testing
returns-else-at-text c = rw (← c.plain_len-at.ensures, le-ltb _ _ c.if-at-text.false)
