use mathlib.Core.Path.{refl}
use lib.ListN.{length}
use Rattle.format.specs.Trees.{tree_error, tree_size_told, tree_is}
use Rattle.markup.proofs.AnswerLaws.{refuses, accepts, room-short, table-short, long_enough}
use Rattle.markup.proofs.read_sized.Goals as goal

-- `markup::read_sized` meets its contract.
pub returns-then-room-size : goal.returns-then-room-size
unfolding tree_is tree_error
returns-then-room-size c =
    refuses refl (room-short c.args.text.now c.args.size (length c.args.room.now) (length c.args.nodes.now) c.requires.1 c.if-room-size.true)

pub returns-then-nodes-size : goal.returns-then-nodes-size
unfolding tree_is tree_error
returns-then-nodes-size c =
    refuses refl (table-short c.args.text.now c.args.size (length c.args.room.now) (length c.args.nodes.now) c.requires.1 c.if-room-size.false c.if-nodes-size.true)

pub returns : goal.returns
unfolding tree_is tree_size_told
returns c =
    let done = c.fill.ensures in
    accepts refl (long_enough c.args.text.now c.args.size (length c.args.room.now) (length c.args.nodes.now) c.requires.1 c.if-room-size.false c.if-nodes-size.false) done.0 done.1
