use Prim.Native.Nat.{◌+◌, ◌≤◌, ◌<◌}
use mathlib.Core.Path.{◌≡◌, refl, sym, ◌∙◌}
use native.Mathlib.Omega.{arith}
use lib.ListN.{length, drop}
use Rattle.writable.proofs.TextLaws.{arrow_from, arrow-ends, arrow-hyphen, arrow_other, arrow-none}
use Rattle.writable.proofs.texts.holds_arrow.Goals as goal
use Rattle.writable.proofs.texts.holds_arrow.Goals.{Joined-b-eq45, then-b-eq45+then-hyphens-lt2, then-b-eq45+else-hyphens-lt2, else-b-eq45+then-b-eq62+else-hyphens-eq2, else-b-eq45+else-b-eq62}

pub loop-b-init : goal.loop-b-init
unfolding arrow_from
loop-b-init c = (omega arith, refl)

pub returns-then-hyphens-eq2 : goal.returns-then-hyphens-eq2
returns-then-hyphens-eq2 c =
    sym (arrow-ends c.args.s.now c.loop-b.b-index (omega arith) c.loop-b.hyphens c.if-hyphens-eq2.true c.if-b-eq62.true) ∙ c.loop-b.invariant.1

-- the hyphens before the next place
step :
    (c : Joined-b-eq45)
    → let s = c.args.s.now in
    (c.if-b-eq45.hyphens ≤ 2) × (arrow_from c.loop-b.hyphens (drop c.loop-b.b-index s) ≡ arrow_from c.if-b-eq45.hyphens (drop (c.loop-b.b-index + 1) s))
step c =
    let l : c.loop-b.b-index < length c.args.s.now = omega arith in
    let n = c.loop-b.hyphens in
    let m = c.if-b-eq45.hyphens in
    let hyphen = arrow-hyphen c.args.s.now c.loop-b.b-index l n m c.loop-b.invariant.0 in
    let other = arrow_other c.args.s.now c.loop-b.b-index l n m c.loop-b.invariant.0 in
    elim c.if-b-eq45.branch [
      | then-b-eq45+then-hyphens-lt2 w ↦ let m-is : m ≡ n + 1 = w.hyphens-is in
          let two : n < 2 = w.if-hyphens-lt2.true in
          (omega arith, hyphen (omega arith) w.if-b-eq45.true)
      | then-b-eq45+else-hyphens-lt2 w ↦ let m-is : m ≡ n = w.hyphens-is in
          let two : 2 ≤ n = w.if-hyphens-lt2.false in
          (omega arith, hyphen (omega arith) w.if-b-eq45.true)
      | else-b-eq45+then-b-eq62+else-hyphens-eq2 w ↦ let m-is : m ≡ 0 = w.hyphens-is in
          (omega arith, other m-is w.if-b-eq45.false (λ g. w.if-hyphens-eq2.false))
      | else-b-eq45+else-b-eq62 w ↦ let m-is : m ≡ 0 = w.hyphens-is in
          (omega arith, other m-is w.if-b-eq45.false (λ g. absurd (w.if-b-eq62.false g)))
    ]

pub loop-b-preserved : goal.loop-b-preserved
loop-b-preserved c = ((step (goal.at.loop-b-preserved c).Joined-b-eq45).0, sym (step (goal.at.loop-b-preserved c).Joined-b-eq45).1 ∙ c.loop-b.invariant.1)

pub returns : goal.returns
returns c =
    sym (arrow-none c.args.s.now c.loop-b.b-index (omega arith) c.loop-b.hyphens (omega arith)) ∙ c.loop-b.invariant.1
