use Rattle.format.specs.Trees.{tree_is}
use Rattle.c_api.proofs.AcceptLaws.{tree_accepted}
use Rattle.c_api.proofs.spatz_tree.Goals as goal

pub returns : goal.returns
unfolding tree_is
returns c =
    rw (← c.tree.ensures.answer)
    (record {
      number = c.tell.ensures.number;
      room = c.tree.ensures.room;
      nodes = c.tree.ensures.nodes;
      values = c.tell.ensures.values;
      stands = λ count used e. c.tree.ensures.stands (record { count = count; used = used }) (tree_accepted c.tree.result count used e);
    })
