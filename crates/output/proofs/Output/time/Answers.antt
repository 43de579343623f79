use Rattle.format.specs.Written.{written_time}
use Rattle.output.proofs.PutLaws.{byte_then, ◌then◌}
use Rattle.output.proofs.Output.time.Goals as goal

pub returns : goal.returns
unfolding written_time
returns c =
    c.number.ensures
    then byte_then c.byte.ensures c.digits.ensures
    then byte_then c.byte-2.ensures c.digits-2.ensures
    then byte_then c.byte-3.ensures c.digits-3.ensures
