use mathlib.Core.Path.{◌≡◌, sym, ap, ◌∙◌}
use mathlib.Core.List.{[]}
use native.Mathlib.Omega.{arith}
use lib.ListN.{drop}
use lib.Seq.{length-take-le}
use Rattle.laws.proofs.Changes.{opening_values, stepped}
use Rattle.format.specs.Texts.{is_empty}
use Rattle.format.specs.CueSettings.{span_is}
use Rattle.format.specs.Tokens.{unflagged, tokens}
use Rattle.format.specs.RegionSettings.{region_settings}
use Rattle.values.specs.Tokens.{TokenHere}
use Rattle.regions.specs.Changes.{step_is}
use Rattle.regions.proofs.ChangeLaws.{fold_is}
use Rattle.regions.proofs.read_region.Goals as goal
use Rattle.regions.proofs.read_region.Goals.{In-Some}

pub loop-at-init : goal.loop-at-init
unfolding region_settings span_is is_empty
loop-at-init c =
    let args = c.args in
    let whole = tokens args.from (drop args.from args.s.now) in
    (omega arith, rw c.opening.ensures (fold_is (unflagged opening_values) whole))

pub returns : goal.returns
unfolding stepped
returns c =
    let s = c.args.s.now in
    let none : tokens c.loop-at.i (drop c.loop-at.i s) ≡ [] = rw c.in_default.is at c.next_token.ensures in
    sym (ap (stepped step_is c.loop-at.taken) none) ∙ c.loop-at.invariant.1

-- the token that was found
token :
    (c : In-Some)
    → TokenHere c.args.s.now c.loop-at.i c.in-Some.field-0.from c.in-Some.field-0.to
token c = rw c.in-Some.is at c.next_token.ensures

pub slice_bounds-step-end : goal.slice_bounds-step-end
slice_bounds-step-end c =
    let s = c.args.s.now in
    sym (length-take-le c.in-Some.field-0.to s (token (goal.at.slice_bounds-step-end c).In-Some).inside)

pub step-taken-requires : goal.step-taken-requires
step-taken-requires c =
    let s = c.args.s.now in
    omega (arith, length-take-le c.in-Some.field-0.to s (token (goal.at.step-taken-requires c).In-Some).inside, (token (goal.at.step-taken-requires c).In-Some).some)

pub loop-at-smaller : goal.loop-at-smaller
loop-at-smaller c = let t = token (goal.at.loop-at-smaller c).In-Some in omega (arith, t.moves, t.inside)

pub loop-at-preserved : goal.loop-at-preserved
unfolding stepped
loop-at-preserved c =
    let t = token (goal.at.loop-at-preserved c).In-Some in
    (t.inside, rw c.step-taken.ensures (sym (ap (stepped step_is c.loop-at.taken) t.first) ∙ c.loop-at.invariant.1))
