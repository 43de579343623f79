use Rattle.output.proofs.PutLaws.{puts_none}
use Rattle.format.specs.Lines.{after_line_ends}
use Rattle.format.specs.Written.{setting, written_scroll}
use Rattle.forms.proofs.scroll.Goals as goal

pub returns-in-None : goal.returns-in-None
unfolding written_scroll after_line_ends
returns-in-None c = let args = c.args in rw c.in-None.is (puts_none args.out.now)

pub returns-in-Up : goal.returns-in-Up
unfolding written_scroll after_line_ends setting
returns-in-Up c = rw c.in-Up.is c.bytes.ensures
