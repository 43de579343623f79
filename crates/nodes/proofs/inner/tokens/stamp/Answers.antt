use mathlib.Core.Path.{◌≡◌}
use Rattle.format.specs.Trees.{tag_time}
use Rattle.nodes.specs.Tokens.{stamp_made}
use Rattle.nodes.proofs.StampLaws.{given, stamp_given}
use Rattle.nodes.proofs.inner.tokens.stamp.Goals as goal
use Rattle.nodes.proofs.inner.tokens.stamp.Goals.{After-read_only_time}

-- what the tag gives
made : (c : After-read_only_time) → given c.read_only_time.result ≡ stamp_made (tag_time c.args.s.now)
made c = stamp_given c.args.s.now c.read_only_time.result c.read_only_time.ensures.is

pub returns-in-Bad : goal.returns-in-Bad
returns-in-Bad c = rw c.in-Bad.is at (made (goal.at.returns-in-Bad c).After-read_only_time)

pub returns-in-Over : goal.returns-in-Over
returns-in-Over c = rw c.in-Over.is at (made (goal.at.returns-in-Over c).After-read_only_time)

pub returns-in-At : goal.returns-in-At
returns-in-At c = rw c.in-At.is at (made (goal.at.returns-in-At c).After-read_only_time)
