use Prim.Native.Nat.{◌+◌, ◌-◌, ◌<◌}
use mathlib.Core.Path.{◌≡◌, refl, sym, ap, ◌∙◌}
use mathlib.Core.Bool.{not}
use mathlib.Core.List.{◌++◌}
use lib.Dec.{eqb, ltb}
use native.Mathlib.Omega.{arith}
use lib.ListN.{length, take, drop, length-drop}
use lib.Seq.{length-take-le, take_all}
use Rattle.format.specs.Bytes.{ascii, digit}
use Rattle.format.specs.Texts.{all, run}
use Rattle.format.specs.Numbers.{number, number_from}
use Rattle.laws.proofs.Runs.{RunStart, run-start, run_length, all-run, run-not-all, all-stops}
use Rattle.values.specs.Numbers.{decimal_is}
use Rattle.values.proofs.NumberLaws.{decimal-none, decimal-whole, decimal_no_stop, decimal_no_fraction, decimal_bad_fraction, decimal-fraction}
use Rattle.values.proofs.numbers.read_decimal.Goals as goal
use Rattle.values.proofs.numbers.read_decimal.Goals.{After-past-end, Else-end-eq0, Else-end-s, Else-s-from}

-- the digits at the start
ran : (c : After-past-end) → RunStart digit c.args.s.now c.past-end.result
ran c = run-start digit c.args.s.now c.past-end.result c.past-end.ensures

pub returns-then-end-eq0 : goal.returns-then-end-eq0
returns-then-end-eq0 c =
    sym (ap decimal_is (decimal-none c.args.s.now c.past-end.result (ran (goal.at.returns-then-end-eq0 c).After-past-end) c.if-end-eq0.true))

pub slice_bounds-number_of-end : goal.slice_bounds-number_of-end
slice_bounds-number_of-end c =
    sym (length-take-le c.past-end.result c.args.s.now (ran (goal.at.slice_bounds-number_of-end c).After-past-end).inside)

pub returns-then-end-s : goal.returns-then-end-s
unfolding number_from all
returns-then-end-s c =
    let s = c.args.s.now in
    rw (c.number_of-whole.ensures, decimal-whole s c.past-end.result (ran (goal.at.returns-then-end-s c).After-past-end) (omega arith) c.if-end-s.true) refl

-- there are digits
first-digit : (c : Else-end-eq0) → 0 < c.past-end.result
first-digit c = omega arith

-- a byte stands after the digits
beyond : (c : Else-end-s) → (from_ran : RunStart digit c.args.s.now c.past-end.result)
    → c.past-end.result < length c.args.s.now
beyond c from_ran = omega (arith, from_ran.inside)

pub bounds-s-end : goal.bounds-s-end
bounds-s-end c = omega (arith, (ran (goal.at.bounds-s-end c).After-past-end).inside)

pub returns-then-s-end-ne46 : goal.returns-then-s-end-ne46
returns-then-s-end-ne46 c =
    let s = c.args.s.now in
    sym (ap decimal_is (decimal_no_stop s c.past-end.result (ran (goal.at.returns-then-s-end-ne46 c).After-past-end) (omega arith) (beyond (goal.at.returns-then-s-end-ne46 c).Else-end-s (ran (goal.at.returns-then-s-end-ne46 c).After-past-end)) c.if-s-end-ne46.true))

pub overflow_add-from : goal.overflow_add-from
overflow_add-from c = omega (arith, (ran (goal.at.overflow_add-from c).After-past-end).inside)

pub returns-then-s-from : goal.returns-then-s-from
returns-then-s-from c =
    let s = c.args.s.now in
    sym (ap decimal_is (decimal_no_fraction s c.past-end.result (ran (goal.at.returns-then-s-from c).After-past-end) (omega arith) (beyond (goal.at.returns-then-s-from c).Else-end-s (ran (goal.at.returns-then-s-from c).After-past-end)) c.if-s-from.true))

-- bytes stand after the full stop
fraction : (c : Else-s-from) → (from_beyond : c.past-end.result < length c.args.s.now)
    → c.past-end.result + 1 < length c.args.s.now
fraction c from_beyond = omega (arith, from_beyond)

pub returns-then-past-s : goal.returns-then-past-s
returns-then-past-s c =
    let s = c.args.s.now in
    let end = c.past-end.result in
    let l = beyond (goal.at.returns-then-past-s c).Else-end-s (ran (goal.at.returns-then-past-s c).After-past-end) in
    let k = fraction (goal.at.returns-then-past-s c).Else-s-from (beyond (goal.at.returns-then-past-s c).Else-end-s (ran (goal.at.returns-then-past-s c).After-past-end)) in
    let stops = run-not-all digit (drop (end + 1) s) (omega (arith, c.past.ensures, c.if-past-s.true, length-drop (end + 1) s)) in
    sym (ap decimal_is (decimal_bad_fraction s end (ran (goal.at.returns-then-past-s c).After-past-end) (omega arith) l c.if-s-end-ne46.false k stops))

pub slice_bounds-rest-count : goal.slice_bounds-rest-count
slice_bounds-rest-count c = omega (arith, (ran (goal.at.slice_bounds-rest-count c).After-past-end).inside)

pub slice_bounds-rest-start : goal.slice_bounds-rest-start
slice_bounds-rest-start c = omega (arith, (ran (goal.at.slice_bounds-rest-start c).After-past-end).inside)

pub returns : goal.returns
returns c =
    let s = c.args.s.now in
    let end = c.past-end.result in
    let rest = drop (end + 1) s in
    let l = beyond (goal.at.returns c).Else-end-s (ran (goal.at.returns c).After-past-end) in
    let k = fraction (goal.at.returns c).Else-s-from (beyond (goal.at.returns c).Else-end-s (ran (goal.at.returns c).After-past-end)) in
    let part : take (length s - (end + 1)) rest ≡ rest = take_all (length s - (end + 1)) rest (omega (arith, length-drop (end + 1) s)) in
    let digits = all-run digit rest (omega (arith, c.past.ensures, c.if-past-s.false, length-drop (end + 1) s, run_length digit rest)) in
    let any : 0 < end = first-digit (goal.at.returns c).Else-end-eq0 in
    let good = decimal-fraction s end (ran (goal.at.returns c).After-past-end) any l c.if-s-end-ne46.false k digits in
    let held = c.number_of-whole.ensures in
    let six = c.six_digits.ensures ∙ ap (λ x. number (take 6 (x ++ ascii "000000"))) part in
    let zero : c.past-2.result ≡ length (run (λ b. eqb b 0x30) (take (length s - (end + 1)) rest)) = omega (arith, c.past-2.ensures) in
    let more =
    ap (λ n. ltb n (length (take (length s - (end + 1)) rest))) zero
    ∙ all-stops (λ b. eqb b 0x30) (take (length s - (end + 1)) rest)
    ∙ ap (λ x. not (all (λ b. eqb b 0x30) x)) part in
    rw (held, six, more, good)
