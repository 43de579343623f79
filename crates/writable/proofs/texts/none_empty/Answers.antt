use mathlib.Core.Path.{refl, sym, ◌∙◌}
use mathlib.Core.Bool.{true, false}
use Prim.Native.Nat.{◌<◌}
use lib.ListN.{length}
use native.Mathlib.Omega.{arith}
use Rattle.writable.proofs.TextLaws.{none_empty_from, line_ends_lem, in_line_lem, lines_end}
use Rattle.writable.proofs.texts.none_empty.Goals as goal
use Rattle.writable.proofs.texts.none_empty.Goals.{else-b-eq10, then-b-eq10+else-fresh}

pub loop-b-init : goal.loop-b-init
unfolding none_empty_from
loop-b-init c = refl

pub returns-then-fresh : goal.returns-then-fresh
returns-then-fresh c =
    sym (line_ends_lem c.args.s.now c.loop-b.b-index (omega arith) c.loop-b.fresh true c.if-fresh.true c.if-b-eq10.true)
    ∙ c.loop-b.invariant

pub loop-b-preserved : goal.loop-b-preserved
loop-b-preserved c =
    let s = c.args.s.now in
    let l : c.loop-b.b-index < length c.args.s.now = omega arith in
    let fresh = c.loop-b.fresh in
    elim c.if-b-eq10.branch [ then-b-eq10+else-fresh w ↦ rw w.fresh-is (sym (line_ends_lem s c.loop-b.b-index l fresh false w.if-fresh.false w.if-b-eq10.true) ∙ c.loop-b.invariant) | else-b-eq10 w ↦ rw w.fresh-is (sym (in_line_lem s c.loop-b.b-index l fresh w.if-b-eq10.false) ∙ c.loop-b.invariant) ]

pub returns : goal.returns
returns c =
    sym (lines_end c.args.s.now c.loop-b.b-index (omega arith) c.loop-b.fresh) ∙ c.loop-b.invariant
