use mathlib.Core.Path.{refl, ap, ◌∙◌}
use mathlib.Core.Bool.{true, false}
use native.Mathlib.Omega.{arith}
use lib.ListN.{get_or}
use lib.Seq.{take_all}
use borrow.Author.Tests.{eq-eqb, ne_eqb}
use Rattle.format.specs.Bytes.{lf}
use Rattle.blocks.specs.Collecting.{line_ends}
use Rattle.blocks.proofs.LineLaws.{ends_next}
use Rattle.blocks.proofs.line_ends.Goals as goal
use Rattle.blocks.proofs.line_ends.Goals.{else-s-i-eq10, then-s-i-eq10}

pub loop-i-init : goal.loop-i-init
unfolding line_ends
loop-i-init c = (omega arith, refl)

pub loop-i-preserved : goal.loop-i-preserved
loop-i-preserved c =
    let s = c.args.s.now in
    let next = ends_next s c.loop-i.i (omega arith) in
    elim c.if-s-i-eq10.branch [ then-s-i-eq10 w ↦ omega (arith, next true (eq-eqb (get_or s c.loop-i.i 0) lf w.if-s-i-eq10.true), w) | else-s-i-eq10 w ↦ omega (arith, next false (ne_eqb (get_or s c.loop-i.i 0) lf w.if-s-i-eq10.false), w) ]

pub returns : goal.returns
returns c =
    c.loop-i.invariant.1 ∙ ap line_ends (take_all c.loop-i.i c.args.s.now (omega arith))
