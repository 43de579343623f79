use Rattle.format.specs.Written.{written_line_align}
use Rattle.output.proofs.PutLaws.{puts_none}
use Rattle.setting_forms.proofs.line_align.Goals as goal

pub returns-in-Start : goal.returns-in-Start
unfolding written_line_align
returns-in-Start c = rw c.in-Start.is (puts_none _)

pub returns-in-Center : goal.returns-in-Center
unfolding written_line_align
returns-in-Center c = rw c.in-Center.is c.bytes.ensures

pub returns-in-End : goal.returns-in-End
unfolding written_line_align
returns-in-End c = rw c.in-End.is c.bytes-in-End.ensures
