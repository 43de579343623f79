use Rattle.format.specs.Written.{written_line_number}
use Rattle.output.proofs.PutLaws.{◌then◌}
use Rattle.setting_forms.proofs.line_number.Goals as goal

pub returns-then-not-snap : goal.returns-then-not-snap
unfolding written_line_number
returns-then-not-snap c = rw (c.if-not-snap.true) c.percentage.ensures

pub returns : goal.returns
unfolding written_line_number
returns c =
    rw (c.if-not-snap.false) (c.sign.ensures then c.decimal.ensures)
