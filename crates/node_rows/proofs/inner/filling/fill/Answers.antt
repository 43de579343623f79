use Rattle.tokenizer.specs.Tags.{token_is}
use Rattle.tokenizer.proofs.Spans.{wider}
use mathlib.Core.Path.{refl, ◌∙◌}
use native.Mathlib.Omega.{arith}
use lib.ListN.{length}
use Rattle.node_rows.proofs.FillLaws.{filling_starts, filling_room, filling_table, filling_fits, filling_turned}
use Rattle.node_rows.proofs.inner.filling.fill.Goals as goal

pub loop-found-init : goal.loop-found-init
loop-found-init c =
    (filling_starts c.args.text.now c.args.room.now c.args.rows.now c.requires.1, refl, refl)

pub returns-in_default : goal.returns-in_default
returns-in_default c =
    let f = c.loop-found.invariant.0 in
    let h = rw c.in_default.is at c.token_at.ensures.at in (
      filling_room c.args.text.now c.args.room.now c.args.rows.now f h,
      filling_table c.args.text.now c.args.room.now c.args.rows.now f h,
    )

pub turn-filled-requires : goal.turn-filled-requires
turn-filled-requires c =
    let s = c.args.text.now in
    let t = rw c.in-Some.is at c.token_at.ensures.at in (
      wider s c.in-Some.found.token 0 c.loop-found.at c.in-Some.found.next (length s) (omega arith) t.inside (omega arith) t.parts,
      c.requires.0,
      filling_fits s c.args.room.now c.args.rows.now c.loop-found.invariant.0 (token_is s c.in-Some.found.token) c.in-Some.found.next t.first t.inside c.requires.3 c.requires.2 c.requires.0,
    )

pub loop-found-smaller : goal.loop-found-smaller
loop-found-smaller c =
    let s = c.args.text.now in
    let t = rw c.in-Some.is at c.token_at.ensures.at in
    omega (arith, t.moves, t.inside)

pub loop-found-preserved : goal.loop-found-preserved
loop-found-preserved c =
    let s = c.args.text.now in
    let t = rw c.in-Some.is at c.token_at.ensures.at in (
      filling_turned s c.args.room.now c.args.rows.now c.loop-found.invariant.0 (token_is s c.in-Some.found.token) c.in-Some.found.next t.first t.inside c.requires.3 c.requires.2 c.turn-filled.result _ _ c.turn-filled.ensures,
      c.turn-filled.auto.room ∙ c.loop-found.invariant.1,
      c.turn-filled.auto.rows ∙ c.loop-found.invariant.2,
    )
