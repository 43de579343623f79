use Rattle.format.specs.Written.{after_spaces}
use Rattle.format.specs.Bytes.{ascii}
use Rattle.output.proofs.PutLaws.{puts_none}
use Rattle.setting_forms.specs.Settings.{named_region}
use Rattle.setting_forms.proofs.SettingLaws.{puts_setting}
use Rattle.setting_forms.proofs.region.Goals as goal

pub returns-in_default : goal.returns-in_default
unfolding after_spaces named_region
returns-in_default c = rw c.in_default.is (puts_none _)

pub returns-in-Some : goal.returns-in-Some
unfolding named_region
returns-in-Some c = rw c.in-Some.is (puts_setting (ascii "region") c.bytes.ensures c.bytes-in-Some.ensures)
