use mathlib.Core.Path.{refl}
use Rattle.lookup.proofs.inner.known_row.Goals as goal

pub returns-in-None : goal.returns-in-None
returns-in-None c = rw c.in-None.is refl

pub returns-in-Some : goal.returns-in-Some
returns-in-Some c = rw c.in-Some.is refl
