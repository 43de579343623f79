use Rattle.values.proofs.CutLaws.{cut_is}
use Rattle.values.proofs.bytes.part.Goals as goal

pub returns : goal.returns
returns c =
    let a = c.args in
    cut_is a.text.now a.from a.to c.min-end.result c.min.result c.min-end.ensures c.min.ensures
