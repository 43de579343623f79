use native.Mathlib.Omega.{arith}
use Prim.Native.Nat.{◌+◌, ◌-◌}
use mathlib.Core.Path.{◌≡◌, sym, ap, ◌∙◌}
use mathlib.Core.List.{◌∷◌}
use Rattle.format.specs.Bytes.{full_stop}
use Rattle.format.specs.Written.{last_digits, without_zeros, fraction}
use Rattle.output.proofs.PutLaws.{puts_none, puts_as, puts_from, byte_then}
use Rattle.output.proofs.DigitLaws.{zero_cut, end_kept, fraction-some, fraction-none}
use Rattle.output.proofs.Output.fraction.Goals as goal

pub returns-then-rest-ne0 : goal.returns-then-rest-ne0
returns-then-rest-ne0 c =
    let k = c.loop-k.k in
    let rest = c.loop-k.rest in
    let e : k - 1 + 1 ≡ k = omega arith in
    let kept = c.loop-k.invariant.1 ∙ end_kept k rest (omega arith) c.if-rest-ne0.true in
    let some = ap fraction kept ∙ fraction-some k rest (omega arith) ∙ ap (λ j. full_stop ∷ last_digits j rest) (sym e) in
    puts_as (sym some) (puts_from c.loop-k.invariant.0 (byte_then c.byte.ensures c.digits.ensures))

pub loop-k-preserved : goal.loop-k-preserved
loop-k-preserved c =
    (c.loop-k.invariant.0, c.loop-k.invariant.1 ∙ zero_cut c.loop-k.k c.loop-k.rest (omega arith) c.if-rest-ne0.false)

pub returns : goal.returns
returns c =
    let e : c.loop-k.k ≡ 0 = omega arith in
    let none = c.loop-k.invariant.1 ∙ ap (λ k. without_zeros (last_digits k c.loop-k.rest)) e in
    let nothing = ap fraction none ∙ fraction-none c.loop-k.rest in
    puts_as (sym nothing) (puts_from c.loop-k.invariant.0 (puts_none c.loop-k.self))
