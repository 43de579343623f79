use mathlib.Core.Path.{refl, sym, ap, ◌∙◌}
use mathlib.Core.Bool.{true, false, not}
use native.Mathlib.Omega.{arith}
use lib.ListN.{get_or}
use borrow.Author.Tests.{eq-eqb, ne_eqb}
use Rattle.format.specs.Bytes.{lf}
use Rattle.format.specs.Texts.{has}
use Rattle.writable.proofs.TextLaws.{all_at, all_end}
use Rattle.writable.proofs.texts.no_line_end.Goals as goal
use Rattle.writable.proofs.texts.no_line_end.Invariants.{other}

pub loop-b-init : goal.loop-b-init
loop-b-init c = refl

pub returns-then-b-eq10 : goal.returns-then-b-eq10
unfolding has
returns-then-b-eq10 c =
    let s = c.args.s.now in
    let out = ap not (eq-eqb (get_or s c.loop-b.b-index 0) lf c.if-b-eq10.true) in
    ap (λ t. not (not t)) (sym (all_at s c.loop-b.b-index (omega arith) other false out) ∙ c.loop-b.invariant)

pub loop-b-preserved : goal.loop-b-preserved
loop-b-preserved c =
    let s = c.args.s.now in
    let fits = ap not (ne_eqb (get_or s c.loop-b.b-index 0) lf c.if-b-eq10.false) in
    sym (all_at s c.loop-b.b-index (omega arith) other true fits) ∙ c.loop-b.invariant

pub returns : goal.returns
unfolding has
returns c =
    ap (λ t. not (not t)) (sym (all_end c.args.s.now c.loop-b.b-index (omega arith) other) ∙ c.loop-b.invariant)
