use mathlib.Core.Path.{refl}
use Rattle.format.specs.Writable.{at_most100}
use Rattle.writable.proofs.at_most_100.Goals as goal

pub returns : goal.returns
unfolding at_most100
returns c = refl
