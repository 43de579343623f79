use mathlib.Core.Path.{◌≡◌, sym, ap, ◌∙◌}
use mathlib.Core.Bool.{true}
use mathlib.Core.List.{[]}
use native.Mathlib.Omega.{arith}
use lib.Dec.{ltb}
use Rattle.format.specs.Blocks.{has_signature}
use Rattle.format.specs.Lists.{item_over}
use Rattle.blocks.specs.Collecting.{header_end}
use Rattle.blocks.specs.Items.{meaning_at, NextAt, kind_over}
use Rattle.blocks.proofs.WalkLaws.{fresh, after-header, next-none, next-found, moves, places_in, over-is, over_told}
use Rattle.places.proofs.FindLaws.{Walking, walk_start, walk_end, walk_over, walk_next}
use Rattle.places.proofs.inner.finding.survey.Goals as goal
use Rattle.places.proofs.inner.finding.survey.Goals.{After-eq, Else-not-has_signature, In-Some}

-- the text has the signature
signed : (c : Else-not-has_signature) → has_signature c.args.s.now ≡ true
signed c = sym c.has_signature.ensures ∙ c.if-not-has_signature.false

pub loop-block-init : goal.loop-block-init
loop-block-init c =
    let args = c.args in
    let rest = after-header args.s.now in
    rw c.past_header-at.ensures (walk_start args.s.now args.number args.name.now (header_end args.s.now) rest.0 rest.1)

-- after the last block none is left,
-- so that what was found is what the text has
pub returns : goal.returns
returns c =
    let args = c.args in
    let none : fresh args.s.now c.loop-block.at ≡ [] = next-none args.s.now c.loop-block.at c.next_block.result c.next_block.ensures c.in_default.is in
    walk_end args.s.now args.number args.name.now c.loop-block.at c.loop-block.found c.loop-block.invariant (signed (goal.at.returns c).Else-not-has_signature) none

-- the block that was found, and its item
found : (c : In-Some) → NextAt c.args.s.now c.loop-block.at c.in-Some.block
found c = next-found c.args.s.now c.loop-block.at c.next_block.result c.next_block.ensures c.in-Some.block c.in-Some.is

pub kind_at-kind-requires : goal.kind_at-kind-requires
kind_at-kind-requires c = places_in c.args.s.now c.loop-block.at c.in-Some.block (found (goal.at.kind_at-kind-requires c).In-Some)

over : (c : After-eq) → item_over (meaning_at (ltb 0 c.loop-block.found.cues) c.args.s.now c.in-Some.block) ≡ c.eq.result
over c =
    sym (over-is (meaning_at (ltb 0 c.loop-block.found.cues) c.args.s.now c.in-Some.block)) ∙ ap kind_over (sym c.kind_at-kind.ensures) ∙ sym (over_told c.kind_at-kind.result) ∙ sym c.eq.ensures

pub returns-then-eq : goal.returns-then-eq
returns-then-eq c = (
  signed (goal.at.returns-then-eq c).Else-not-has_signature,
  walk_over c.args.s.now c.args.number c.args.name.now c.loop-block.at c.loop-block.found c.loop-block.invariant c.in-Some.block (found (goal.at.returns-then-eq c).In-Some)
      (over (goal.at.returns-then-eq c).After-eq ∙ c.if-eq.true),
)

pub with_block-found-requires : goal.with_block-found-requires
with_block-found-requires c =
    let s = c.args.s.now in
    let next = found (goal.at.with_block-found-requires c).In-Some in
    record {
      cues_in_bounds = omega (arith, c.loop-block.invariant.few, moves s c.loop-block.at c.in-Some.block next, next.block.inside);
      places_in = places_in s c.loop-block.at c.in-Some.block next;
      kind_value = c.kind_at-kind.ensures;
    }

pub loop-block-smaller : goal.loop-block-smaller
loop-block-smaller c =
    let next = found (goal.at.loop-block-smaller c).In-Some in
    omega (arith, moves c.args.s.now c.loop-block.at c.in-Some.block next, next.block.inside)

pub loop-block-preserved : goal.loop-block-preserved
loop-block-preserved c =
    rw c.with_block-found.ensures
    (walk_next c.args.s.now c.args.number c.args.name.now c.loop-block.at c.loop-block.found c.loop-block.invariant c.in-Some.block (found (goal.at.loop-block-preserved c).In-Some)
    (over (goal.at.loop-block-preserved c).After-eq ∙ c.if-eq.false))
