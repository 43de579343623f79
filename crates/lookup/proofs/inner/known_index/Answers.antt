use mathlib.Core.Path.{refl}
use lib.ListN.{get_or}
use borrow.Author.Tests.{eq-eqb, ne_eqb}
use Rattle.lookup.proofs.inner.known_index.Goals as goal

pub returns-then-row-eq0 : goal.returns-then-row-eq0
returns-then-row-eq0 c = rw (eq-eqb (get_or c.args.row 3 0) 0 c.if-row-eq0.true) refl

pub returns : goal.returns
returns c = rw (ne_eqb (get_or c.args.row 3 0) 0 c.if-row-eq0.false) refl
