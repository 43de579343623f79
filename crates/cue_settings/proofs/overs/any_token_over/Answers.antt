use mathlib.Core.Path.{◌≡◌, refl, sym, ap, ◌∙◌}
use mathlib.Core.Bool.{◌||◌}
use mathlib.Core.List.{[]}
use native.Mathlib.Omega.{arith}
use lib.ListN.{drop}
use lib.Seq.{length-take-le}
use Rattle.format.specs.Tokens.{tokens}
use Rattle.values.specs.Tokens.{TokenHere}
use Rattle.cue_settings.specs.Overs.{any_token_over}
use Rattle.cue_settings.proofs.overs.any_token_over.Goals as goal
use Rattle.cue_settings.proofs.overs.any_token_over.Goals.{After-token_over, In-Some}

pub loop-at-init : goal.loop-at-init
loop-at-init c = (omega arith, refl)

pub returns : goal.returns
unfolding any_token_over
returns c =
    let s = c.args.s.now in
    let none : tokens c.loop-at.i (drop c.loop-at.i s) ≡ [] = rw c.in_default.is at c.next_token.ensures in
    sym (ap any_token_over none) ∙ c.loop-at.invariant.1

-- the token that was found
token :
    (c : In-Some)
    → TokenHere c.args.s.now c.loop-at.i c.in-Some.field-0.from c.in-Some.field-0.to
token c = rw c.in-Some.is at c.next_token.ensures

pub slice_bounds-token_over-end : goal.slice_bounds-token_over-end
slice_bounds-token_over-end c =
    let s = c.args.s.now in
    sym (length-take-le c.in-Some.field-0.to s (token (goal.at.slice_bounds-token_over-end c).In-Some).inside)

pub token_over-requires : goal.token_over-requires
token_over-requires c =
    let s = c.args.s.now in
    omega (arith, length-take-le c.in-Some.field-0.to s (token (goal.at.token_over-requires c).In-Some).inside, (token (goal.at.token_over-requires c).In-Some).some)

-- what this token and those after it give
here :
    (c : After-token_over) (from_token : TokenHere c.args.s.now c.loop-at.i c.in-Some.field-0.from c.in-Some.field-0.to)
    → let s = c.args.s.now in
    any_token_over (tokens c.loop-at.i (drop c.loop-at.i s))
    ≡ (c.token_over.result || any_token_over (tokens c.in-Some.field-0.to (drop c.in-Some.field-0.to s)))
unfolding any_token_over
here c from_token = ap any_token_over from_token.first ∙ rw c.token_over.ensures refl

pub returns-then-token_over : goal.returns-then-token_over
returns-then-token_over c =
    sym (sym c.loop-at.invariant.1 ∙ here (goal.at.returns-then-token_over c).After-token_over (token (goal.at.returns-then-token_over c).In-Some) ∙ rw c.if-token_over.true refl)

pub loop-at-smaller : goal.loop-at-smaller
loop-at-smaller c = let t = token (goal.at.loop-at-smaller c).In-Some in omega (arith, t.moves, t.inside)

pub loop-at-preserved : goal.loop-at-preserved
loop-at-preserved c =
    ((token (goal.at.loop-at-preserved c).In-Some).inside, sym (rw c.if-token_over.false at (here (goal.at.loop-at-preserved c).After-token_over (token (goal.at.loop-at-preserved c).In-Some))) ∙ c.loop-at.invariant.1)
