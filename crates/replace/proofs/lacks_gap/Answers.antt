use native.Mathlib.Omega.{arith}
use Rattle.values.proofs.NumberLaws.{empty_is, is_empty-not}
use Rattle.replace.proofs.lacks_gap.Goals as goal

pub returns-then-id-eq0 : goal.returns-then-id-eq0
returns-then-id-eq0 c = rw (empty_is c.args.id.now c.if-id-eq0.true)

pub returns : goal.returns
returns c =
    let id = c.args.id.now in
    rw (is_empty-not id (omega arith), c.gap_before.ensures)
