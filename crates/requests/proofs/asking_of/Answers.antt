use Rattle.requests.specs.Asked.{asking_is}
use borrow.Author.Rules.{rules}
use Rattle.requests.proofs.asking_of.Goals as goal

pub returns : goal.returns
unfolding asking_is
returns c = search rules
