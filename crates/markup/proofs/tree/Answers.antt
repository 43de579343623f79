use mathlib.Core.Path.{refl, sym}
use lib.ListN.{length}
use Rattle.std.specs.Prelude.{Err}
use Rattle.format.specs.Trees.{tree_error, tree_is}
use Rattle.format.specs.declared.errors.TreeError.TheVariants as TreeError
use Rattle.markup.proofs.AnswerLaws.{refuses, same_answer, long-answer, not-plain-answer, plain-answer, all_four, plain-told, not-plain-told}
use Rattle.markup.proofs.tree.Goals as goal

-- `markup::tree` meets its contract.
pub returns-then-text-gt-MAX_TEXT : goal.returns-then-text-gt-MAX_TEXT
unfolding tree_is tree_error
returns-then-text-gt-MAX_TEXT c =
    let s = c.args.text.now in
    let room = length c.args.room.now in
    let table = length c.args.nodes.now in
    let both = all_four {r = Err TreeError.TooLong} (refuses refl (long-answer s room table c.if-text-gt-MAX_TEXT.true)) in
    record { answer = both.0; room = both.1.0; nodes = both.1.1.0; stands = both.1.1.1 }

pub returns-in-Some : goal.returns-in-Some
unfolding tree_is tree_error
returns-in-Some c =
    let s = c.args.text.now in
    let room = length c.args.room.now in
    let table = length c.args.nodes.now in
    let at = c.in-Some.at in
    let told = not-plain-told s at (rw c.in-Some.is at c.first_not_plain.ensures) in
    let is = rw (sym told.1) at (not-plain-answer s room table c.if-text-gt-MAX_TEXT.false told.0) in
    let both = all_four {r = Err (TreeError.NotPlainAt at)} (refuses refl is) in
    record { answer = both.0; room = both.1.0; nodes = both.1.1.0; stands = both.1.1.1 }

pub returns : goal.returns
returns c =
    let s = c.args.text.now in
    let room = length c.args.room.now in
    let table = length c.args.nodes.now in
    let short = c.if-text-gt-MAX_TEXT.false in
    let plain = plain-told s (rw c.in_default.is at c.first_not_plain.ensures) in
    let both = all_four (same_answer (plain-answer s room table short plain) c.read_plain.ensures) in
    record { answer = both.0; room = both.1.0; nodes = both.1.1.0; stands = both.1.1.1 }
