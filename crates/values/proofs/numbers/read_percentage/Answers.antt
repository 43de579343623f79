use Prim.Native.Nat.{◌-◌}
use mathlib.Core.Path.{sym, ◌∙◌}
use native.Mathlib.Omega.{arith}
use lib.ListN.{length, take}
use Rattle.format.specs.Numbers.{decimal}
use Rattle.values.proofs.NumberLaws.{share_is, share-none, percentage-short, percentage_other, percentage_is_lem}
use Rattle.values.proofs.numbers.read_percentage.Goals as goal

-- `values::numbers::read_percentage` meets its contract.
pub returns-in_default : goal.returns-in_default
returns-in_default c = sym (percentage-short c.args.s.now (omega arith))

pub returns-in_default-2 : goal.returns-in_default-2
returns-in_default-2 c = sym (percentage_other c.args.s.now (omega arith) (λ e. absurd (omega (arith, e))))

pub returns-in_err-read_decimal : goal.returns-in_err-read_decimal
returns-in_err-read_decimal c =
    let s = c.args.s.now in
    c.from_residual.ensures
    ∙ sym
    (percentage_is_lem s (omega arith) (omega arith)
    ∙ share-none (decimal (take (length s - 1) s)) (sym c.read_decimal.ensures ∙ c.in_err-read_decimal.was))

pub returns : goal.returns
returns c =
    let s = c.args.s.now in
    c.up_to.ensures
    ∙ share_is (decimal (take (length s - 1) s)) c.in_ok-read_decimal.field-0 (sym c.read_decimal.ensures ∙ c.in_ok-read_decimal.was)
    ∙ sym (percentage_is_lem s (omega arith) (omega arith))
