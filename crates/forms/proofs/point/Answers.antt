use Rattle.output.proofs.PutLaws.{◌then◌, byte_then}
use Rattle.format.specs.Written.{written_point}
use Rattle.forms.proofs.point.Goals as goal

pub returns : goal.returns
unfolding written_point
returns c =
    c.percentage.ensures then byte_then c.byte.ensures c.percentage-2.ensures
