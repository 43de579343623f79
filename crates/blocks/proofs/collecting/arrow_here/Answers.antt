use mathlib.Core.Path.{sym}
use native.Mathlib.Omega.{arith}
use borrow.Author.Tests.{ne_eqb}
use Rattle.blocks.proofs.LineLaws.{arrow_other}
use Rattle.blocks.proofs.collecting.arrow_here.Goals as goal

pub returns-else-s-i-eq45 : goal.returns-else-s-i-eq45
returns-else-s-i-eq45 c =
    let a = c.args in
    rw (ne_eqb _ 0x2D c.if-s-i-eq45.false) (sym (arrow_other a.s.now a.i (omega arith) c.if-s-i-eq45.false))
