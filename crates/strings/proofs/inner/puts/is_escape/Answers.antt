use Rattle.std.proofs.Common.{◌∙◌}
use borrow.Author.Tests.{ne_eqb}
use Rattle.format.specs.Bytes.{ampersand}
use Rattle.strings.specs.Turns.{escapes}
use Rattle.strings.proofs.TurnLaws.{semicolon_at}
use Rattle.strings.proofs.inner.puts.is_escape.Goals as goal

pub returns-then-s-i-eq38 : goal.returns-then-s-i-eq38
unfolding escapes
returns-then-s-i-eq38 c = rw c.if-s-i-eq38.true (c.is_at.ensures ∙ semicolon_at c.args.s.now c.args.end)

pub returns-else-s-i-eq38 : goal.returns-else-s-i-eq38
unfolding escapes
returns-else-s-i-eq38 c = rw (ne_eqb _ ampersand c.if-s-i-eq38.false)
