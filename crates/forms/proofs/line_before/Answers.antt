use mathlib.Core.Path.{sym}
use Rattle.output.proofs.PutLaws.{◌then◌, puts_none}
use Rattle.forms.proofs.FormLaws.{no_bytes}
use Rattle.forms.proofs.line_before.Goals as goal

pub returns-else-not-is_empty : goal.returns-else-not-is_empty
returns-else-not-is_empty c = rw (sym (no_bytes c.args.s.now), sym c.is_empty.ensures, c.if-not-is_empty.false) (puts_none c.args.out.now)

pub returns-then-not-is_empty : goal.returns-then-not-is_empty
returns-then-not-is_empty c =
    rw (sym (no_bytes c.args.s.now), sym c.is_empty.ensures, c.if-not-is_empty.true) (c.bytes.ensures then c.byte.ensures)
