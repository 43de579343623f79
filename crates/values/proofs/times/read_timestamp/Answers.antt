use Prim.Native.Nat.{◌<◌, min}
use mathlib.Core.Path.{◌≡◌, sym, ap, ◌∙◌}
use mathlib.Core.Bool.{◌||◌}
use mathlib.Core.List.{[], ◌∷◌}
use native.Mathlib.Omega.{arith}
use lib.ListN.{length, drop, length-drop}
use Rattle.format.specs.Bytes.{digit, colon}
use Rattle.format.specs.Texts.{starts_with}
use Rattle.format.specs.Numbers.{number, number_from}
use Rattle.format.specs.Times.{Time, field, hours_first, timestamp}
use Rattle.format.specs.TellingTimes.{place_of}
use Rattle.laws.proofs.Runs.{RunAt}
use Rattle.values.specs.Times.{stamp_is}
use Rattle.values.proofs.NumberLaws.{ltb-held}
use Rattle.values.proofs.StepLaws.{stamp_unread}
use Rattle.values.proofs.TimeLaws.{FieldRead, first_at, field_read, field_unread, last-held, first_digits, first-length, stamp_no_digit, stamp_no_second, stamp_no_third, stamp_third, stamp_two}
use Rattle.values.proofs.times.read_timestamp.Goals as goal
use Rattle.values.proofs.times.read_timestamp.Goals.{After-has_hours, Else-end-at, In-Good, In-Good-read_field}

-- the first digits
ran : (c : Else-end-at) → let args = c.args in RunAt digit args.s.now args.at c.past-end.result
ran c =
    let args = c.args in
    first_at args.s.now args.at c.past-end.result c.past-end.ensures c.if-end-at.false

pub returns-then-end-at : goal.returns-then-end-at
returns-then-end-at c =
    let args = c.args in
    let s = args.s.now in
    let place : place_of (length s) (drop args.at s) ≡ min args.at (length s) = omega (arith, length-drop args.at s) in
    rw (stamp_no_digit s args.at (omega (arith, c.past-end.ensures, c.if-end-at.true)), c.min.ensures, place)

pub slice_bounds-number_of-end : goal.slice_bounds-number_of-end
slice_bounds-number_of-end c = (ran (goal.at.slice_bounds-number_of-end c).Else-end-at).inside

pub read_field-requires : goal.read_field-requires
read_field-requires c = (ran (goal.at.read_field-requires c).Else-end-at).inside

-- there is a first digit
some : (c : Else-end-at) → c.args.at < c.past-end.result
some c = omega (arith, (ran c).from, c.if-end-at.false)

-- the second value
second :
    (c : In-Good)
    → (from_ran : let args = c.args in RunAt digit args.s.now args.at c.past-end.result)
    → FieldRead c.args.s.now c.past-end.result colon 2 c.in-Good.value c.in-Good.next
second c from_ran =
    field_read c.args.s.now c.past-end.result colon 2 from_ran.inside c.in-Good.value c.in-Good.next
    (sym c.in-Good.is ∙ c.read_field.ensures)

pub has_hours-requires : goal.has_hours-requires
has_hours-requires c = (second (goal.at.has_hours-requires c).In-Good (ran (goal.at.has_hours-requires c).Else-end-at)).inside

pub read_field-requires-then-has_hours : goal.read_field-requires-then-has_hours
read_field-requires-then-has_hours c = (second (goal.at.read_field-requires-then-has_hours c).In-Good (ran (goal.at.read_field-requires-then-has_hours c).Else-end-at)).inside

-- what `has_hours` found, of the digits themselves
hours :
    (c : After-has_hours)
    → (from_ran : let args = c.args in RunAt digit args.s.now args.at c.past-end.result)
    → let args = c.args in
    c.has_hours.result
    ≡ hours_first (first_digits args.s.now args.at c.past-end.result from_ran)
    || starts_with (colon ∷ []) (drop c.in-Good.next args.s.now)
unfolding hours_first
hours c from_ran =
    let args = c.args in
    let ds = first_digits args.s.now args.at c.past-end.result from_ran in
    c.has_hours.ensures
    ∙ rw (c.number_of-first.ensures, ltb-held 59 (number_from 0 ds) (omega arith), first-length args.s.now args.at c.past-end.result from_ran)

-- the third value
third :
    (c : In-Good-read_field)
    → (from_second : FieldRead c.args.s.now c.past-end.result colon 2 c.in-Good.value c.in-Good.next)
    → FieldRead c.args.s.now c.in-Good.next colon 2 c.in-Good-read_field.seconds c.in-Good-read_field.last
third c from_second =
    field_read c.args.s.now c.in-Good.next colon 2 from_second.inside c.in-Good-read_field.seconds c.in-Good-read_field.last
    (sym c.in-Good-read_field.is ∙ c.read_field-then-has_hours.ensures)

pub finish-requires : goal.finish-requires
finish-requires c = (third (goal.at.finish-requires c).In-Good-read_field (second (goal.at.finish-requires c).In-Good (ran (goal.at.finish-requires c).Else-end-at))).inside

pub returns-in-Bad-read_field : goal.returns-in-Bad-read_field
returns-in-Bad-read_field c =
    let args = c.args in
    let s = args.s.now in
    let next = c.in-Good.next in
    let fault = c.in-Bad-read_field.fault in
    let place = c.in-Bad-read_field.place in
    let unread = field_unread s next colon 2 (second (goal.at.returns-in-Bad-read_field c).In-Good (ran (goal.at.returns-in-Bad-read_field c).Else-end-at)).inside fault place (sym c.in-Bad-read_field.is ∙ c.read_field-then-has_hours.ensures) in
    stamp_unread (field colon 2 (drop next s)) (timestamp (drop args.at s)) (length s) fault place unread
    (stamp_no_third s args.at c.past-end.result (ran (goal.at.returns-in-Bad-read_field c).Else-end-at) (some (goal.at.returns-in-Bad-read_field c).Else-end-at) c.in-Good.value next (second (goal.at.returns-in-Bad-read_field c).In-Good (ran (goal.at.returns-in-Bad-read_field c).Else-end-at))
    (sym (hours (goal.at.returns-in-Bad-read_field c).After-has_hours (ran (goal.at.returns-in-Bad-read_field c).Else-end-at)) ∙ c.if-has_hours.true) fault unread.rest unread.is)

pub returns-in-Good-read_field : goal.returns-in-Good-read_field
returns-in-Good-read_field c =
    let args = c.args in
    let s = args.s.now in
    let ds = first_digits s args.at c.past-end.result (ran (goal.at.returns-in-Good-read_field c).Else-end-at) in
    let two = second (goal.at.returns-in-Good-read_field c).In-Good (ran (goal.at.returns-in-Good-read_field c).Else-end-at) in
    let three = third (goal.at.returns-in-Good-read_field c).In-Good-read_field (second (goal.at.returns-in-Good-read_field c).In-Good (ran (goal.at.returns-in-Good-read_field c).Else-end-at)) in
    let end = c.in-Good-read_field.last in
    let values : Time = record { hours = number ds; minutes = two.value; seconds = three.value; thousandths = 0 } in
    let stamp =
    stamp_third s args.at c.past-end.result (ran (goal.at.returns-in-Good-read_field c).Else-end-at) (some (goal.at.returns-in-Good-read_field c).Else-end-at) c.in-Good.value c.in-Good.next two
    (sym (hours (goal.at.returns-in-Good-read_field c).After-has_hours (ran (goal.at.returns-in-Good-read_field c).Else-end-at)) ∙ c.if-has_hours.true) c.in-Good-read_field.seconds end three in
    c.finish.ensures
    ∙ rw (c.number_of-first.ensures, two.held, three.held)
    (last-held (length s) values (drop end s) ∙ ap (stamp_is (length s)) (sym stamp))

pub finish-requires-in-Good : goal.finish-requires-in-Good
finish-requires-in-Good c = (second (goal.at.finish-requires-in-Good c).In-Good (ran (goal.at.finish-requires-in-Good c).Else-end-at)).inside

pub returns-in-Bad : goal.returns-in-Bad
returns-in-Bad c =
    let args = c.args in
    let s = args.s.now in
    let end = c.past-end.result in
    let fault = c.in-Bad.fault in
    let place = c.in-Bad.place in
    let unread = field_unread s end colon 2 (ran (goal.at.returns-in-Bad c).Else-end-at).inside fault place (sym c.in-Bad.is ∙ c.read_field.ensures) in
    stamp_unread (field colon 2 (drop end s)) (timestamp (drop args.at s)) (length s) fault place unread
    (stamp_no_second s args.at end (ran (goal.at.returns-in-Bad c).Else-end-at) (some (goal.at.returns-in-Bad c).Else-end-at) fault unread.rest unread.is)

pub returns-else-has_hours : goal.returns-else-has_hours
returns-else-has_hours c =
    let args = c.args in
    let s = args.s.now in
    let ds = first_digits s args.at c.past-end.result (ran (goal.at.returns-else-has_hours c).Else-end-at) in
    let two = second (goal.at.returns-else-has_hours c).In-Good (ran (goal.at.returns-else-has_hours c).Else-end-at) in
    let next = c.in-Good.next in
    let values : Time = record { hours = 0; minutes = number ds; seconds = two.value; thousandths = 0 } in
    let stamp =
    stamp_two s args.at c.past-end.result (ran (goal.at.returns-else-has_hours c).Else-end-at) (some (goal.at.returns-else-has_hours c).Else-end-at) c.in-Good.value next two
    (sym (hours (goal.at.returns-else-has_hours c).After-has_hours (ran (goal.at.returns-else-has_hours c).Else-end-at)) ∙ c.if-has_hours.false) in
    c.finish-in-Good.ensures
    ∙ rw (c.number_of-first.ensures, two.held)
    (last-held (length s) values (drop next s) ∙ ap (stamp_is (length s)) (sym stamp))
