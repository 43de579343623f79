use Prim.Native.Nat.{◌+◌, ◌*◌}
use mathlib.Core.Path.{sym, ◌∙◌}
use native.Mathlib.Omega.{arith}
use Rattle.timing.proofs.UsualLaws.{digits-next, clock_read}
use Rattle.timing.proofs.usual.clock.Goals as goal

pub value_of-requires : goal.value_of-requires
value_of-requires c = sym c.is_digit.ensures ∙ c.if-is_digit.true

pub returns-then-is_digit : goal.returns-then-is_digit
returns-then-is_digit c =
    let t = c.args.t.now in
    let thousandths = digits-next t 9 2 c.in_ok-hundredths.hundredths c.value_of.result (omega arith) c.in_ok-hundredths.ensures.1
    (sym c.is_digit.ensures ∙ c.if-is_digit.true) c.value_of.ensures.0 in
    rw c.in_milliseconds.ensures
    (clock_read t (omega arith) c.in_ok-hours.hours c.in_ok-minutes.minutes c.in_ok-seconds.seconds (c.in_ok-hundredths.hundredths * 10 + c.value_of.result)
    c.in_ok-hours.ensures.1 (omega arith) c.in_ok-minutes.ensures.1 (omega arith) c.in_ok-seconds.ensures.1 (omega arith)
    thousandths (omega (arith, c.in_ok-hours.ensures.0)) (omega arith) (omega arith))
