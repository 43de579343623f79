use Rattle.format.specs.Written.{written_five, written_vertical, written_line, written_position, written_size, written_align}
use Rattle.setting_forms.specs.Settings.{settings_form}
use Rattle.output.proofs.PutLaws.{◌then◌}
use Rattle.setting_forms.proofs.SettingLaws.{spaces_append, spaced}
use Rattle.setting_forms.proofs.settings.Goals as goal

pub returns : goal.returns
unfolding settings_form written_five
returns c =
    simp spaces_append
    (spaced written_vertical c.vertical.ensures c.vertical-2.ensures
    then spaced written_line c.line.ensures c.line-2.ensures
    then spaced written_position c.position.ensures c.position-2.ensures
    then spaced written_size c.size.ensures c.size-2.ensures
    then spaced written_align c.align.ensures c.align-2.ensures
    then c.region.ensures)
