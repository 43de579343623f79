use Prim.Native.Nat.{◌-◌}
use mathlib.Core.Path.{◌≡◌, sym, ap, ◌∙◌}
use mathlib.Core.Bool.{true}
use native.Mathlib.Omega.{arith}
use lib.ListN.{length, take, drop, length-drop}
use lib.Seq.{take_all}
use Rattle.format.specs.Numbers.{decimal, signed, line_number}
use Rattle.values.specs.Numbers.{line_number_is}
use Rattle.values.proofs.NumberLaws.{line_minus, line_plain}
use Rattle.values.proofs.AnswerLaws.{line_told}
use Rattle.values.proofs.numbers.read_line_number.Goals as goal

-- `values::numbers::read_line_number` meets its contract.
pub slice_bounds-read_signed-count : goal.slice_bounds-read_signed-count
slice_bounds-read_signed-count c = (line_minus c.args.s.now (sym c.is_at.ensures ∙ c.if-is_at.true)).0

pub slice_bounds-read_signed-start : goal.slice_bounds-read_signed-start
slice_bounds-read_signed-start c = (line_minus c.args.s.now (sym c.is_at.ensures ∙ c.if-is_at.true)).0

pub returns-then-is_at : goal.returns-then-is_at
returns-then-is_at c =
    let s = c.args.s.now in
    let minus = line_minus s (sym c.is_at.ensures ∙ c.if-is_at.true) in
    let size : take (length s - 1) (drop 1 s) ≡ drop 1 s = take_all (length s - 1) (drop 1 s) (omega (arith, length-drop 1 s)) in
    let both = line_told (line_number s) c.read_signed.result
    (c.read_signed.ensures ∙ ap (λ x. line_number_is (signed true (decimal x))) size ∙ sym (ap line_number_is minus.1)) in
    record { is = both.0; answer = both.1 }

pub returns : goal.returns
returns c =
    let s = c.args.s.now in
    let both = line_told (line_number s) c.read_signed-2.result
    (c.read_signed-2.ensures ∙ sym (ap line_number_is (line_plain s (sym c.is_at.ensures ∙ c.if-is_at.false)))) in
    record { is = both.0; answer = both.1 }
