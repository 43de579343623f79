use Prim.Native.Nat.{◌+◌, ◌*◌, ◌-◌, min}
use mathlib.Core.Path.{◌≡◌, sym, ap, ◌∙◌}
use native.Mathlib.Omega.{arith}
use lib.ListN.{get_or, drop}
use Rattle.laws.proofs.Numbers.{number-capped, number-next, number-end}
use Rattle.values.specs.Numbers.{cap}
use Rattle.values.proofs.numbers.number_of.Goals as goal

pub loop-d-preserved : goal.loop-d-preserved
loop-d-preserved c =
    let ds = c.args.ds.now in
    let i = c.loop-d.d-index in
    let v = c.loop-d.v in
    let next = v * 10 + (get_or ds i 0 - 0x30) in
    let held : c.min-v.result ≡ min next cap = omega arith in (
      omega arith,
      rw held (number-capped cap next (drop (i + 1) ds) ∙ ap (λ n. min n cap) (sym (number-next v ds i (omega arith))) ∙ c.loop-d.invariant.1),
    )

pub returns : goal.returns
returns c =
    let ds = c.args.ds.now in
    let all = number-end c.loop-d.v ds c.loop-d.d-index (omega arith) in
    omega (arith, all, c.loop-d.invariant.1, c.loop-d.invariant.0)
