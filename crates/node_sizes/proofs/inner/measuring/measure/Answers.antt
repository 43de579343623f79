use mathlib.Core.Path.{refl}
use native.Mathlib.Omega.{arith}
use lib.ListN.{length}
use Rattle.std.proofs.lemmas.Result.{err_from_is_err_and}
use Rattle.tokenizer.specs.Tags.{TokenAt}
use Rattle.node_sizes.proofs.BoundLaws.{reached_start, reached_end, reached_over, ready, reached_next}
use Rattle.node_sizes.proofs.inner.measuring.measure.Goals as goal
use Rattle.node_sizes.proofs.inner.measuring.measure.Goals.{In-Some}

pub loop-found-init : goal.loop-found-init
loop-found-init c = reached_start c.args.text.now (length c.args.words.now) _ c.empty.ensures.is c.empty.ensures.long refl refl

pub returns-in_default : goal.returns-in_default
returns-in_default c =
    reached_end c.args.text.now (length c.args.words.now) c.loop-found.at c.loop-found.m c.loop-found.invariant
    (rw c.in_default.is at c.token_at.ensures.at)

-- the token that was found
found : (c : In-Some) → TokenAt c.args.text.now c.loop-found.at c.in-Some.found.token c.in-Some.found.next
found c = rw c.in-Some.is at c.token_at.ensures.at

pub turn-requires : goal.turn-requires
turn-requires c =
    ready c.args.text.now (length c.args.words.now) c.loop-found.at c.loop-found.m c.loop-found.invariant c.in-Some.found.token c.in-Some.found.next
    (found (goal.at.turn-requires c).In-Some)
    c.requires.0
    c.requires.1

pub returns-in_err-turn : goal.returns-in_err-turn
returns-in_err-turn c =
    let refused = err_from_is_err_and c.from_residual.result c.from_residual.ensures.1 in
    rw refused.1
    (reached_over c.args.text.now (length c.args.words.now) c.loop-found.at c.loop-found.m c.loop-found.invariant c.in-Some.found.token c.in-Some.found.next
    (found (goal.at.returns-in_err-turn c).In-Some)
    (rw c.in_err-turn.was at c.turn.ensures))

pub loop-found-smaller : goal.loop-found-smaller
loop-found-smaller c = let t = found (goal.at.loop-found-smaller c).In-Some in omega (arith, t.moves, t.inside)

pub loop-found-preserved : goal.loop-found-preserved
loop-found-preserved c =
    reached_next c.args.text.now (length c.args.words.now) c.loop-found.at c.loop-found.m c.loop-found.invariant c.in-Some.found.token c.in-Some.found.next
    (found (goal.at.loop-found-preserved c).In-Some)
    c.turn.new.m
    (rw c.in_ok-turn.was at c.turn.ensures)
