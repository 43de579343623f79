use borrow.Author.Tests.{eq-eqb, ne_eqb, lt-ltb, le-ltb}
use Rattle.values.proofs.times.has_hours.Goals as goal

-- `values::times::has_hours` meets its contract.
pub returns-then-digits-ne2 : goal.returns-then-digits-ne2
returns-then-digits-ne2 c = rw (ne_eqb c.args.digits 2 c.if-digits-ne2.true)

pub returns-then-first-gt59 : goal.returns-then-first-gt59
returns-then-first-gt59 c =
    let args = c.args in
    rw (eq-eqb args.digits 2 c.if-digits-ne2.false, lt-ltb 59 args.first c.if-first-gt59.true)

pub returns : goal.returns
returns c =
    let args = c.args in
    rw (eq-eqb args.digits 2 c.if-digits-ne2.false, le-ltb 59 args.first c.if-first-gt59.false) c.is_at.ensures
