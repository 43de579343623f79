use mathlib.Core.Path.{sym}
use native.Mathlib.Omega.{arith}
use lib.ListN.{length}
use borrow.Author.Tests.{le-ltb}
use Rattle.blocks.proofs.LineLaws.{arrow_none}
use Rattle.blocks.proofs.collecting.has_arrow.Goals as goal

pub returns-else-i-s : goal.returns-else-i-s
returns-else-i-s c =
    let a = c.args in
    rw (le-ltb a.i (length a.s.now) (omega arith)) (sym (arrow_none a.s.now a.i (omega arith)))
