use mathlib.Core.Path.{refl}
use Rattle.tokenizer.specs.Tags.{token_is}
use Rattle.nodes.specs.Tokens.{made_is}
use Rattle.nodes.proofs.inner.tokens.node_of.Goals as goal

pub returns-in-String : goal.returns-in-String
unfolding made_is token_is
returns-in-String c = rw c.in-String.is refl

pub returns-in-Start : goal.returns-in-Start
unfolding made_is token_is
returns-in-Start c = rw (c.in-Start.is, c.element.ensures, c.bytes_of.ensures) refl

pub returns-in-End : goal.returns-in-End
unfolding made_is token_is
returns-in-End c = rw c.in-End.is refl

pub returns-in-Timestamp : goal.returns-in-Timestamp
unfolding made_is token_is
returns-in-Timestamp c = rw (c.in-Timestamp.is, c.stamp.ensures, c.bytes_of-in-Timestamp.ensures) refl
