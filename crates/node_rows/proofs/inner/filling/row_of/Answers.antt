use Rattle.node_rows.proofs.FillLaws.{row_is}
use Rattle.node_rows.proofs.inner.filling.row_of.Goals as goal

pub returns : goal.returns
returns c =
    let at = c.args in
    λ classes value e f.
    rw (c.from.ensures, c.place.ensures, c.place-2.ensures, c.place-3.ensures, c.place-4.ensures)
    (row_is at.parent at.made at.from at.between at.to classes value e f)
