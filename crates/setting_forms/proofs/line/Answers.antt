use Rattle.format.specs.Bytes.{ascii}
use Rattle.format.specs.Written.{after_spaces, written_line}
use Rattle.output.proofs.PutLaws.{◌then◌, puts_none}
use Rattle.setting_forms.proofs.SettingLaws.{puts_setting}
use Rattle.setting_forms.proofs.line.Goals as goal

pub returns-in_default : goal.returns-in_default
unfolding after_spaces written_line
returns-in_default c = rw c.in_default.is (puts_none _)

pub returns-in-At : goal.returns-in-At
unfolding written_line
returns-in-At c =
    rw c.in-At.is
    (puts_setting (ascii "line") c.bytes.ensures (c.line_number.ensures then c.line_align.ensures))
