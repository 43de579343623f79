use Rattle.node_rows.proofs.FillLaws.{puts_node}
use Rattle.node_rows.proofs.inner.filling.put_node.Goals as goal

pub returns : goal.returns
returns c =
    puts_node c.put_classes-between.ensures c.put_value-to.ensures c.row_of.ensures c.entered.ensures
