use mathlib.Core.Path.{◌≡◌, refl, sym, ap, ◌∙◌}
use mathlib.Core.Bool.{Bool, true, false, ◌||◌}
use mathlib.Core.List.{List, [], ◌∷◌}
use native.Mathlib.Omega.{arith}
use lib.Dec.{ltb}
use Rattle.std.specs.Prelude.{Result, Err}
use Rattle.format.specs.declared.Counts.{Counts}
use Rattle.format.specs.declared.errors.OverLimit.{OverLimit}
use Rattle.format.specs.Lists.{Item, is_cue, items_from, item_over}
use Rattle.blocks.specs.Items.{meaning_at, NextAt, item_is, kind_over}
use Rattle.reader.specs.Counting.{with_kind, with_item, tally_with, tally_is}
use Rattle.blocks.proofs.WalkLaws.{fresh, next-none, next-found, items-next, moves, places_in, over-is, over_told}
use Rattle.reader.proofs.CountLaws.{tally_end, tally_over, tally_next, seen_next, with_most}
use Rattle.reader.proofs.counting.count_items.Goals as goal
use Rattle.reader.proofs.counting.count_items.Goals.{After-eq, In-Some}

pub returns : goal.returns
unfolding items_from
returns c =
    let none : fresh c.args.s.now c.loop-block.at ≡ [] = next-none c.args.s.now c.loop-block.at c.next_block.result c.next_block.ensures c.in_default.is in
    sym (tally_end c.loop-block.n)
    ∙ ap (λ bs. tally_with c.loop-block.n (items_from (ltb 0 c.loop-block.n.cues) bs)) (sym none)
    ∙ c.loop-block.invariant.gives

-- the block that was found, and its item
found : (c : In-Some) → NextAt c.args.s.now c.loop-block.at c.in-Some.block
found c = next-found c.args.s.now c.loop-block.at c.next_block.result c.next_block.ensures c.in-Some.block c.in-Some.is

abbrev item : (c : In-Some) → Item
item c = meaning_at (ltb 0 c.loop-block.n.cues) c.args.s.now c.in-Some.block

pub kind_at-kind-requires : goal.kind_at-kind-requires
kind_at-kind-requires c = places_in c.args.s.now c.loop-block.at c.in-Some.block (found (goal.at.kind_at-kind-requires c).In-Some)

-- has it a number above its limit
over : (c : After-eq) → item_over (meaning_at (ltb 0 c.loop-block.n.cues) c.args.s.now c.in-Some.block) ≡ c.eq.result
over c =
    sym (over-is (meaning_at (ltb 0 c.loop-block.n.cues) c.args.s.now c.in-Some.block)) ∙ ap kind_over (sym c.kind_at-kind.ensures) ∙ sym (over_told c.kind_at-kind.result) ∙ sym c.eq.ensures

abbrev ahead : (c : In-Some) → List Item
ahead c = items_from (ltb 0 c.loop-block.n.cues || is_cue (item c)) (fresh c.args.s.now c.in-Some.block.stop.at)

step : (c : In-Some) → tally_with c.loop-block.n (item c ∷ ahead c) ≡ tally_is (items_from false (fresh c.args.s.now c.args.from))
step c =
    ap (tally_with c.loop-block.n) (sym (items-next c.args.s.now c.loop-block.at c.in-Some.block (ltb 0 c.loop-block.n.cues) (found c)))
    ∙ c.loop-block.invariant.gives

pub returns-then-eq : goal.returns-then-eq
returns-then-eq c =
    let at = (goal.at.returns-then-eq c).In-Some in
    sym (tally_over c.loop-block.n (item at) (ahead at) (over (goal.at.returns-then-eq c).After-eq ∙ c.if-eq.true)) ∙ step at

pub loop-block-smaller : goal.loop-block-smaller
loop-block-smaller c =
    let next = found (goal.at.loop-block-smaller c).In-Some in
    omega (arith, moves c.args.s.now c.loop-block.at c.in-Some.block next, next.block.inside)

pub loop-block-preserved : goal.loop-block-preserved
loop-block-preserved c =
    let at = (goal.at.loop-block-preserved c).In-Some in
    let next = found at in
    let n = c.loop-block.n in
    let none : item_over (item at) ≡ false = over (goal.at.loop-block-preserved c).After-eq ∙ c.if-eq.false in
    let counted : c.with_kind-n.result ≡ with_item (item_is (item at)) n = c.with_kind-n.ensures ∙ ap (λ k. with_kind k n) c.kind_at-kind.ensures in
    let most = with_most (item_is (item at)) n in
    let far = moves c.args.s.now c.loop-block.at c.in-Some.block next in
    rw counted
    (record {
      inside = next.block.inside;
      cues_most = omega (arith, far, most.0);
      regions_most = omega (arith, far, most.1);
      styles_most = omega (arith, far, most.2);
      gives = rw (seen_next n (item at) none) (sym (tally_next n (item at) (ahead at) none) ∙ step at);
    })
