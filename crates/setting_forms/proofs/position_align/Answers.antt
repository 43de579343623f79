use Rattle.format.specs.Written.{written_position_align}
use Rattle.output.proofs.PutLaws.{puts_none}
use Rattle.setting_forms.proofs.position_align.Goals as goal

pub returns-in-Auto : goal.returns-in-Auto
unfolding written_position_align
returns-in-Auto c = rw c.in-Auto.is (puts_none _)

pub returns-in-LineLeft : goal.returns-in-LineLeft
unfolding written_position_align
returns-in-LineLeft c = rw c.in-LineLeft.is c.bytes.ensures

pub returns-in-Center : goal.returns-in-Center
unfolding written_position_align
returns-in-Center c = rw c.in-Center.is c.bytes-in-Center.ensures

pub returns-in-LineRight : goal.returns-in-LineRight
unfolding written_position_align
returns-in-LineRight c = rw c.in-LineRight.is c.bytes-in-LineRight.ensures
