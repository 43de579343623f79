use mathlib.Core.Path.{refl}
use lib.ListN.{length}
use Rattle.std.proofs.lemmas.Result.{err_from_is_err_and}
use Rattle.format.specs.Trees.{tree_error, tree_is}
use Rattle.markup.proofs.AnswerLaws.{refuses, same_answer, over-answer, within-answer}
use Rattle.markup.proofs.read_plain.Goals as goal

pub read_sized-requires : goal.read_sized-requires
read_sized-requires c = (c.requires, rw c.in_ok-size.was at c.need_of.ensures)

pub returns-in_err-size : goal.returns-in_err-size
unfolding tree_is tree_error
returns-in_err-size c =
    let over = rw c.in_err-size.was at c.need_of.ensures in
    let refused = err_from_is_err_and c.from_residual.result c.from_residual.ensures.1 in
    rw (refused.1, refused.2) (refuses refl (over-answer c.args.text.now (length c.args.room.now) (length c.args.nodes.now) over))

pub returns : goal.returns
returns c =
    let sized = rw c.in_ok-size.was at c.need_of.ensures in
    same_answer (within-answer c.args.text.now (length c.args.room.now) (length c.args.nodes.now) sized.within) c.read_sized.ensures
