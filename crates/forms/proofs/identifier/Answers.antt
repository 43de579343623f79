use mathlib.Core.Path.{sym}
use Rattle.output.proofs.PutLaws.{◌then◌, puts_none}
use Rattle.forms.proofs.FormLaws.{no_bytes, ended-setting}
use Rattle.format.specs.Lines.{after_line_ends}
use Rattle.format.specs.Written.{written_id}
use Rattle.forms.proofs.identifier.Goals as goal

pub returns-else-not-is_empty : goal.returns-else-not-is_empty
unfolding written_id after_line_ends
returns-else-not-is_empty c = rw (sym (no_bytes c.args.id.now), sym c.is_empty.ensures, c.if-not-is_empty.false) (puts_none c.args.out.now)

pub returns-then-not-is_empty : goal.returns-then-not-is_empty
unfolding written_id
returns-then-not-is_empty c =
    rw (sym (no_bytes c.args.id.now), sym c.is_empty.ensures, c.if-not-is_empty.true, ended-setting) (c.bytes.ensures then c.bytes-then-not-is_empty.ensures)
