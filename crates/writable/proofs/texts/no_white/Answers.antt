use mathlib.Core.Path.{refl, sym, ap, ◌∙◌}
use mathlib.Core.Bool.{true, false, not}
use native.Mathlib.Omega.{arith}
use Rattle.writable.proofs.TextLaws.{all_at, all_end}
use Rattle.writable.proofs.texts.no_white.Goals as goal
use Rattle.writable.proofs.texts.no_white.Invariants.{other}

pub loop-b-init : goal.loop-b-init
loop-b-init c = refl

pub returns-then-is_white : goal.returns-then-is_white
returns-then-is_white c =
    let out = ap not (sym c.is_white.ensures ∙ c.if-is_white.true) in
    sym (all_at c.args.s.now c.loop-b.b-index (omega arith) other false out) ∙ c.loop-b.invariant

pub loop-b-preserved : goal.loop-b-preserved
loop-b-preserved c =
    let fits = ap not (sym c.is_white.ensures ∙ c.if-is_white.false) in
    sym (all_at c.args.s.now c.loop-b.b-index (omega arith) other true fits) ∙ c.loop-b.invariant

pub returns : goal.returns
returns c =
    sym (all_end c.args.s.now c.loop-b.b-index (omega arith) other) ∙ c.loop-b.invariant
