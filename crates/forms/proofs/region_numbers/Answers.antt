use Rattle.output.proofs.PutLaws.{◌then◌}
use Rattle.laws.proofs.Standing.{ended_append}
use Rattle.forms.proofs.FormLaws.{ended-setting}
use Rattle.forms.specs.Forms.{number_lines}
use Rattle.forms.proofs.region_numbers.Goals as goal

pub returns : goal.returns
unfolding number_lines
returns c =
    simp (ended_append, ended-setting)
    (c.bytes.ensures
    then c.percentage.ensures
    then (c.bytes-2.ensures then c.number.ensures)
    then (c.bytes-3.ensures then c.point.ensures)
    then (c.bytes-4.ensures then c.point-2.ensures)
    then c.scroll.ensures)
