use Rattle.format.specs.Written.{after_spaces, setting, written_align}
use Rattle.output.proofs.PutLaws.{puts_none}
use Rattle.setting_forms.proofs.align.Goals as goal

pub returns-in-Start : goal.returns-in-Start
unfolding after_spaces setting written_align
returns-in-Start c = rw c.in-Start.is c.bytes.ensures

pub returns-in-Center : goal.returns-in-Center
unfolding after_spaces setting written_align
returns-in-Center c = rw c.in-Center.is (puts_none _)

pub returns-in-End : goal.returns-in-End
unfolding after_spaces setting written_align
returns-in-End c = rw c.in-End.is c.bytes-in-End.ensures

pub returns-in-Left : goal.returns-in-Left
unfolding after_spaces setting written_align
returns-in-Left c = rw c.in-Left.is c.bytes-in-Left.ensures

pub returns-in-Right : goal.returns-in-Right
unfolding after_spaces setting written_align
returns-in-Right c = rw c.in-Right.is c.bytes-in-Right.ensures
