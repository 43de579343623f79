use Rattle.output.proofs.PutLaws.{puts_none}
use Rattle.setting_forms.proofs.sign.Goals as goal

pub returns-then-negative : goal.returns-then-negative
returns-then-negative c = rw c.if-negative.true c.byte.ensures

pub returns-else-negative : goal.returns-else-negative
returns-else-negative c = rw c.if-negative.false (puts_none _)
