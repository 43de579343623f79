use Rattle.format.specs.Written.{after_spaces, setting, written_vertical}
use Rattle.output.proofs.PutLaws.{puts_none}
use Rattle.setting_forms.proofs.vertical.Goals as goal

pub returns-in-Horizontal : goal.returns-in-Horizontal
unfolding after_spaces setting written_vertical
returns-in-Horizontal c = rw c.in-Horizontal.is (puts_none _)

pub returns-in-Rl : goal.returns-in-Rl
unfolding after_spaces setting written_vertical
returns-in-Rl c = rw c.in-Rl.is c.bytes.ensures

pub returns-in-Lr : goal.returns-in-Lr
unfolding after_spaces setting written_vertical
returns-in-Lr c = rw c.in-Lr.is c.bytes-in-Lr.ensures
