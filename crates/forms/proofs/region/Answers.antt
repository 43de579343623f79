use Rattle.output.proofs.PutLaws.{◌then◌}
use Rattle.forms.proofs.FormLaws.{join-region}
use Rattle.forms.proofs.region.Goals as goal

pub returns : goal.returns
returns c =
    rw (join-region, ← c.part.ensures) (c.bytes.ensures then c.identifier.ensures then c.region_numbers.ensures)
