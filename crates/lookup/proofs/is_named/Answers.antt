use mathlib.Core.Path.{sym, ap, ◌∙◌}
use borrow.Author.Tests.{not-true}
use Rattle.format.specs.Texts.{same}
use Rattle.lookup.proofs.is_named.Goals as goal

pub returns-then-not-ends_alike : goal.returns-then-not-ends_alike
returns-then-not-ends_alike c =
    let a = c.args in
    sym (ap (λ x. same x a.name.now) (sym c.part-own.ensures) ∙ c.ends_alike.ensures (not-true c.ends_alike.result c.if-not-ends_alike.true-raw))

pub returns : goal.returns
returns c =
    let a = c.args in
    c.same_bytes.ensures ∙ ap (λ x. same x a.name.now) c.part-own.ensures
