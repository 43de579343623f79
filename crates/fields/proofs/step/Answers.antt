use mathlib.Core.Path.{sym, ap, ◌∙◌}
use native.Mathlib.Omega.{arith}
use Prim.Native.Nat.{◌+◌}
use Rattle.std.specs.Option.{option_map_or}
use Rattle.format.specs.Fields.{escapes}
use Rattle.fields.specs.Fields.{no_escape, byte_before}
use Rattle.fields.proofs.EscapeLaws.{step_end, step_plain, step_cut, step_letter}
use Rattle.fields.proofs.step.Goals as goal

pub returns-then-field-at : goal.returns-then-field-at
returns-then-field-at c = let args = c.args in sym (step_end escapes args.field.now args.at (omega arith))

pub returns-then-field-at-ne92 : goal.returns-then-field-at-ne92
returns-then-field-at-ne92 c =
    let args = c.args in
    sym (step_plain escapes args.field.now args.at (omega arith) c.if-field-at-ne92.true)

pub returns-then-field-at-2 : goal.returns-then-field-at-2
returns-then-field-at-2 c =
    let args = c.args in
    sym (step_cut escapes args.field.now args.at (omega arith) (omega arith) (omega arith))

pub returns-in-None : goal.returns-in-None
returns-in-None c =
    let args = c.args in
    sym (step_letter escapes args.field.now args.at (omega arith) (omega arith)
    ∙ ap (λ t. option_map_or (byte_before (args.at + 2)) t no_escape) (sym c.escaped_byte.ensures ∙ c.in-None.is))

pub returns-in-Some : goal.returns-in-Some
returns-in-Some c =
    let args = c.args in
    sym (step_letter escapes args.field.now args.at (omega arith) (omega arith)
    ∙ ap (λ t. option_map_or (byte_before (args.at + 2)) t no_escape) (sym c.escaped_byte.ensures ∙ c.in-Some.is))
