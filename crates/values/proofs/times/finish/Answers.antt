use Prim.Native.Nat.{ℕ}
use mathlib.Core.Path.{refl, sym, ◌∙◌}
use native.Mathlib.Omega.{arith}
use lib.ListN.{length, drop}
use Rattle.format.specs.Bytes.{full_stop}
use Rattle.format.specs.Times.{Time, field, last_steps}
use Rattle.values.proofs.StepLaws.{stamp_unread}
use Rattle.values.proofs.TimeLaws.{FieldRead, field_read, field_unread, last_unread, last_out, last-over, last_at, in_range_lem, minutes-out, seconds-out, over-is, over-not}
use Rattle.values.proofs.times.finish.Goals as goal
use Rattle.values.proofs.times.finish.Goals.{In-Good}

-- `values::times::finish` meets its contract.
abbrev time : ℕ → ℕ → ℕ → Time
time h m s = record { hours = h; minutes = m; seconds = s; thousandths = 0 }

-- the thousandths
fourth :
    (c : In-Good)
    → let args = c.args in
    FieldRead args.s.now args.at full_stop 3 c.in-Good.value c.in-Good.next
fourth c =
    let args = c.args in
    field_read args.s.now args.at full_stop 3 (omega arith) c.in-Good.value c.in-Good.next
    (sym c.in-Good.is ∙ c.read_field.ensures)

pub returns-then-minutes-gt59 : goal.returns-then-minutes-gt59
returns-then-minutes-gt59 c =
    let args = c.args in
    let t = time args.hours args.minutes args.seconds in
    last_out args.s.now args.at t c.in-Good.value c.in-Good.next (fourth (goal.at.returns-then-minutes-gt59 c).In-Good) (minutes-out t c.if-minutes-gt59.true)

pub returns-then-seconds-gt59 : goal.returns-then-seconds-gt59
returns-then-seconds-gt59 c =
    let args = c.args in
    let t = time args.hours args.minutes args.seconds in
    last_out args.s.now args.at t c.in-Good.value c.in-Good.next (fourth (goal.at.returns-then-seconds-gt59 c).In-Good) (seconds-out t c.if-minutes-gt59.false c.if-seconds-gt59.true)

pub returns-then-hours-gt99999 : goal.returns-then-hours-gt99999
returns-then-hours-gt99999 c =
    let args = c.args in
    let t = time args.hours args.minutes args.seconds in
    last-over args.s.now args.at t c.in-Good.value c.in-Good.next (fourth (goal.at.returns-then-hours-gt99999 c).In-Good)
    (in_range_lem t c.if-minutes-gt59.false c.if-seconds-gt59.false) (over-is t c.if-hours-gt99999.true)

pub overflow_add-result-in-Good-2 : goal.overflow_add-result-in-Good-2
overflow_add-result-in-Good-2 c =
    let r = fourth (goal.at.overflow_add-result-in-Good-2 c).In-Good in
    omega (arith, r.held, r.small refl)

pub returns-in-Bad : goal.returns-in-Bad
returns-in-Bad c =
    let args = c.args in
    let s = args.s.now in
    let t = time args.hours args.minutes args.seconds in
    let fault = c.in-Bad.fault in
    let place = c.in-Bad.place in
    let unread = field_unread s args.at full_stop 3 (omega arith) fault place (sym c.in-Bad.is ∙ c.read_field.ensures) in
    stamp_unread (field full_stop 3 (drop args.at s)) (last_steps t (drop args.at s)) (length s) fault place unread (last_unread s args.at t fault unread.rest unread.is)

pub returns-else-hours-gt99999 : goal.returns-else-hours-gt99999
returns-else-hours-gt99999 c =
    let args = c.args in
    let t = time args.hours args.minutes args.seconds in
    last_at args.s.now args.at t c.in-Good.value c.in-Good.next (fourth (goal.at.returns-else-hours-gt99999 c).In-Good)
    (in_range_lem t c.if-minutes-gt59.false c.if-seconds-gt59.false) (over-not t c.if-hours-gt99999.false)
