use native.Mathlib.Omega.{arith}
use Prim.Native.Nat.{◌/◌, ◌^◌}
use mathlib.Core.Path.{◌≡◌, sym, subst, ◌∙◌}
use native.Mathlib.Nat.{div-one}
use native.Mathlib.Numerals.{add-one}
use borrow.Author.Count.{below_more}
use Rattle.format.specs.Written.{last_digits, at_least}
use Rattle.output.proofs.DigitLaws.{over_ten, zeros_dropped, all-kept}
use Rattle.output.proofs.width.Goals as goal
use Rattle.output.proofs.width.Goals.{else-least-w-via-else-least-w, else-least-w-via-then-least-w+else-rest-eq0}

pub loop-w-init : goal.loop-w-init
loop-w-init c = (sym (div-one c.args.n), λ k h l z. omega arith)

pub returns-then-rest-eq0 : goal.returns-then-rest-eq0
returns-then-rest-eq0 c =
    let args = c.args in
    let w = c.loop-w.w in
    let none = sym c.loop-w.invariant.0 ∙ c.if-rest-eq0.true in
    let dropped = zeros_dropped args.least w 20 args.n (omega arith) (omega arith) none in
    (omega arith, dropped ∙ all-kept args.least w args.n none c.loop-w.invariant.1)

pub loop-w-preserved : goal.loop-w-preserved
loop-w-preserved c =
    let args = c.args in
    let w = c.loop-w.w in
    let e = c.loop-w.invariant.0 in (
      rw (add-one w, e) (over_ten args.n w),
      below_more _ w c.loop-w.invariant.1 (λ l z. elim c.else-least-w.branch [ else-least-w-via-then-least-w+else-rest-eq0 came ↦ came.if-rest-eq0.false (e ∙ z) | else-least-w-via-else-least-w came ↦ omega arith ]),
    )

pub returns : goal.returns
returns c =
    let args = c.args in
    let w = c.loop-w.w in
    let e : w ≡ 20 = omega arith in
    let none : args.n / 10 ^ 20 ≡ 0 = omega arith in
    (omega arith, subst (λ k. at_least args.least (last_digits k args.n) ≡ last_digits k args.n) e (all-kept args.least w args.n (rw e none) c.loop-w.invariant.1))
