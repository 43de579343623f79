use mathlib.Core.Path.{refl, sym, ◌∙◌}
use Rattle.requests.proofs.numbers_of.Goals as goal

pub returns-in_err-number : goal.returns-in_err-number
returns-in_err-number c = rw (sym c.number_in.ensures ∙ c.in_err-number.was) c.from_residual.ensures

pub returns-in_err-start : goal.returns-in_err-start
returns-in_err-start c =
    rw (sym c.number_in.ensures ∙ c.in_ok-number.was, sym c.number_in-2.ensures ∙ c.in_err-start.was) c.from_residual-in_err-start.ensures

pub returns-in_err-end : goal.returns-in_err-end
returns-in_err-end c =
    let first = sym c.number_in.ensures ∙ c.in_ok-number.was in
    let second = sym c.number_in-2.ensures ∙ c.in_ok-start.was in
    rw (first, second, sym c.number_in-3.ensures ∙ c.in_err-end.was) c.from_residual-in_err-end.ensures

pub returns : goal.returns
returns c =
    let first = sym c.number_in.ensures ∙ c.in_ok-number.was in
    let second = sym c.number_in-2.ensures ∙ c.in_ok-start.was in
    rw (first, second, sym c.number_in-3.ensures ∙ c.in_ok-end.was) refl
