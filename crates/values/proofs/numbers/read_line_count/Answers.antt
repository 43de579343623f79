use mathlib.Core.Path.{◌≡◌, sym, ap}
use Rattle.std.specs.Prelude.{Some, Ok, Err}
use native.Mathlib.Omega.{arith}
use borrow.Author.Tests.{lt-ltb, le-ltb, eqb-true, eqb-false}
use Rattle.format.specs.Bytes.{digit}
use Rattle.format.specs.Numbers.{number, line_count}
use Rattle.laws.proofs.Runs.{run_length, all-run, run-not-all}
use Rattle.values.specs.Numbers.{line_count_is}
use Rattle.values.specs.declared.numbers.NumberError.TheVariants as NumberError
use Rattle.values.proofs.NumberLaws.{count_none, count_other, count-is}
use Rattle.values.proofs.AnswerLaws.{count-told}
use Rattle.values.proofs.numbers.read_line_count.Goals as goal
use Rattle.values.proofs.numbers.read_line_count.Goals.{Else-past-s}

-- `values::numbers::read_line_count` meets its contract.
pub returns-then-is_empty : goal.returns-then-is_empty
returns-then-is_empty c =
    let s = c.args.s.now in
    let both = count-told (line_count s) (Err NumberError.Bad) (sym (ap line_count_is (count_none s (eqb-true _ _ (sym c.if-is_empty.ensures))))) in
    record { is = both.0; answer = both.1 }

pub returns-then-past-s : goal.returns-then-past-s
returns-then-past-s c =
    let s = c.args.s.now in
    let both = count-told (line_count s) (Err NumberError.Bad) (sym (ap line_count_is (count_other s (run-not-all digit s (omega (arith, c.past.ensures, c.if-past-s.true)))))) in
    record { is = both.0; answer = both.1 }

-- all bytes are digits
counted : (c : Else-past-s) → let s = c.args.s.now in line_count s ≡ Some (number s)
counted c =
    let s = c.args.s.now in
    count-is s (omega (arith, eqb-false _ _ (sym c.if-is_empty.ensures))) (all-run digit s (omega (arith, c.past.ensures, c.if-past-s.false, run_length digit s)))

pub returns-then-n-gt999999 : goal.returns-then-n-gt999999
returns-then-n-gt999999 c =
    let s = c.args.s.now in
    let both = count-told (line_count s) (Err NumberError.Over) (rw (counted (goal.at.returns-then-n-gt999999 c).Else-past-s, lt-ltb 999_999 (number s) (omega (arith, c.number_of-n.ensures)))) in
    record { is = both.0; answer = both.1 }

pub returns : goal.returns
returns c =
    let s = c.args.s.now in
    let e : c.number_of-n.result ≡ number s = omega (arith, c.number_of-n.ensures) in
    let both = count-told (line_count s) (Ok c.number_of-n.result) (rw (counted (goal.at.returns c).Else-past-s, le-ltb 999_999 (number s) (omega arith), e)) in
    record { is = both.0; answer = both.1 }
