use Rattle.format.specs.Bytes.{ascii}
use Rattle.format.specs.Written.{after_spaces, written_size}
use Rattle.output.proofs.PutLaws.{puts_none}
use Rattle.setting_forms.proofs.SettingLaws.{puts_setting}
use borrow.Author.Tests.{ne_eqb, eq-eqb}
use Rattle.setting_forms.proofs.size.Goals as goal

pub returns-else-millionths-ne100000000 : goal.returns-else-millionths-ne100000000
unfolding after_spaces written_size
returns-else-millionths-ne100000000 c = rw (eq-eqb _ _ c.if-millionths-ne100000000.false) (puts_none _)

pub returns-then-millionths-ne100000000 : goal.returns-then-millionths-ne100000000
unfolding written_size
returns-then-millionths-ne100000000 c =
    rw (ne_eqb _ _ c.if-millionths-ne100000000.true)
    (puts_setting (ascii "size") c.bytes.ensures c.percentage.ensures)
