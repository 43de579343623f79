use mathlib.Core.Path.{sym, ap, ◌∙◌}
use Rattle.std.specs.Prelude.{is_some}
use Rattle.format.specs.Fields.{unescaped}
use Rattle.output.proofs.PutLaws.{puts_none, puts_as}
use Rattle.fields.proofs.EscapeLaws.{length_good, length_bad}
use Rattle.fields.proofs.put.Goals as goal

pub put_steps-requires : goal.put_steps-requires
put_steps-requires c = length_good (unescaped c.args.field.now) (sym (ap is_some c.length.ensures) ∙ sym c.is_some.ensures ∙ c.if-is_some.true)

pub returns-else-is_some : goal.returns-else-is_some
returns-else-is_some c =
    puts_as (sym (length_bad (unescaped c.args.field.now) (sym (ap is_some c.length.ensures) ∙ sym c.is_some.ensures ∙ c.if-is_some.false))) (puts_none _)
