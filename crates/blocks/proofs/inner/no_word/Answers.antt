use native.Mathlib.Omega.{arith}
use lib.Dec.{eqb}
use lib.ListN.{get_or}
use borrow.Author.Tests.{eqb-false, not-true}
use Rattle.blocks.proofs.NothingLaws.{other_word}
use Rattle.blocks.proofs.inner.no_word.Goals as goal

pub returns-then-s-from-ne83 : goal.returns-then-s-from-ne83
returns-then-s-from-ne83 c =
    let a = c.args in
    let b = get_or a.s.now a.from 0 in
    λ e. other_word a.s.now a.from a.first (omega arith) (omega arith) c.if-s-from-ne83.true (eqb-false b 0x52 (not-true (eqb b 0x52) e))
