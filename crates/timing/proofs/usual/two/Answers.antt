use mathlib.Core.Path.{sym, ◌∙◌}
use native.Mathlib.Omega.{arith}
use Rattle.timing.proofs.UsualLaws.{digits-one, digits-next}
use Rattle.timing.proofs.usual.two.Goals as goal

pub value_of-requires : goal.value_of-requires
value_of-requires c = sym c.is_digit.ensures ∙ c.if-is_digit.true

pub value_of-requires-then-is_digit-2 : goal.value_of-requires-then-is_digit-2
value_of-requires-then-is_digit-2 c = sym c.is_digit-then-is_digit.ensures ∙ c.if-is_digit-2.true

pub returns-then-is_digit-2 : goal.returns-then-is_digit-2
returns-then-is_digit-2 c =
    let args = c.args in
    let t = args.t.now in
    let v = c.value_of.result in
    let a = sym c.is_digit.ensures ∙ c.if-is_digit.true in
    let b = sym c.is_digit-then-is_digit.ensures ∙ c.if-is_digit-2.true in
    let one = digits-one t args.k v (omega arith) a c.value_of.ensures.0 in
    (omega arith, digits-next t args.k 1 v c.value_of-then-is_digit-2.result (omega arith) one b c.value_of-then-is_digit-2.ensures.0)
