use mathlib.Core.Path.{refl, sym, ◌∙◌}
use lib.ListN.{get_or}
use native.Mathlib.Omega.{arith}
use borrow.Author.Tests.{ne_eqb, eq-eqb}
use Rattle.fields.proofs.NumberLaws.{begins-none, begins_alone, begins-first}
use Rattle.fields.proofs.begins_well.Goals as goal

pub returns-in-empty : goal.returns-in-empty
returns-in-empty c = sym (begins-none c.args.field.now (omega arith))

pub returns-in-len1 : goal.returns-in-len1
returns-in-len1 c = sym (begins_alone c.args.field.now (omega arith))

pub returns-then-first-ne48 : goal.returns-then-first-ne48
returns-then-first-ne48 c =
    sym (begins-first c.args.field.now (omega arith) ∙ rw (ne_eqb (get_or c.args.field.now 0 0) 0x30 c.if-first-ne48.true) refl)

pub returns-else-first-ne48 : goal.returns-else-first-ne48
returns-else-first-ne48 c =
    sym (begins-first c.args.field.now (omega arith) ∙ rw (eq-eqb (get_or c.args.field.now 0 0) 0x30 c.if-first-ne48.false) refl)
