use mathlib.Core.Path.{refl}
use lib.ListN.{length}
use borrow.Author.Tests.{eq-eqb, ne_eqb, lt-ltb, le-ltb}
use Rattle.format.specs.Trees.{node_of_row}
use Rattle.node_rows.specs.Rows.{no_row, node_named, kind_in}
use Rattle.node_rows.proofs.inner.filling.kind_of.Goals as goal

-- `node_rows::inner::filling::kind_of` meets its contract.
pub returns-then-node-eq0 : goal.returns-then-node-eq0
unfolding kind_in no_row
returns-then-node-eq0 c = rw (eq-eqb c.args.node 0 c.if-node-eq0.true) refl

pub returns-then-rows-node : goal.returns-then-rows-node
unfolding kind_in no_row
returns-then-rows-node c =
    let at = c.args in
    rw (ne_eqb at.node 0 c.if-node-eq0.false, lt-ltb (length at.rows.now) at.node c.if-rows-node.true) refl

pub returns : goal.returns
unfolding kind_in no_row node_named node_of_row
returns c =
    let at = c.args in
    rw (
      ne_eqb at.node 0 c.if-node-eq0.false,
      le-ltb (length at.rows.now) at.node c.if-rows-node.false,
      c.kind_numbered.ensures,
    ) refl
