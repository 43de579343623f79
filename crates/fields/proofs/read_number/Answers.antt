use mathlib.Core.Path.{sym, ap, ◌∙◌}
use mathlib.Core.Bool.{cond}
use Rattle.std.specs.Prelude.{None}
use borrow.Author.Tests.{not-true, not-false}
use Rattle.fields.specs.Fields.{digits_from}
use Rattle.fields.proofs.NumberLaws.{begins-short, number_is_lem}
use Rattle.fields.proofs.read_number.Goals as goal

pub returns-then-not-begins_well : goal.returns-then-not-begins_well
returns-then-not-begins_well c =
    let field = c.args.field.now in
    let bad = sym c.begins_well.ensures ∙ not-true c.begins_well.result c.if-not-begins_well.true-raw in
    sym (number_is_lem field ∙ ap (λ t. cond t (digits_from 0 field) None) bad)

pub digits-requires : goal.digits-requires
digits-requires c =
    begins-short c.args.field.now (sym c.begins_well.ensures ∙ not-false c.begins_well.result c.if-not-begins_well.false-raw)

pub returns : goal.returns
returns c =
    let field = c.args.field.now in
    let good = sym c.begins_well.ensures ∙ not-false c.begins_well.result c.if-not-begins_well.false-raw in
    c.digits.ensures ∙ sym (number_is_lem field ∙ ap (λ t. cond t (digits_from 0 field) None) good)
