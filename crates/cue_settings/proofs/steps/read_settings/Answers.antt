use mathlib.Core.Path.{◌≡◌, sym, ap, ◌∙◌}
use mathlib.Core.List.{[]}
use native.Mathlib.Omega.{arith}
use lib.ListN.{take, drop}
use lib.Seq.{length-take-le}
use Rattle.laws.proofs.Changes.{stepped}
use Rattle.format.specs.Texts.{empty_part, is_empty}
use Rattle.format.specs.Tokens.{tokens, unflagged}
use Rattle.format.specs.CueSettings.{opening_settings, cue_settings, span_is}
use Rattle.values.specs.Tokens.{token_from, TokenHere, Named}
use Rattle.cue_settings.specs.Steps.{step_is, taken_is}
use Rattle.cue_settings.proofs.SettingLaws.{unnamed_step, named-step_is, fold_is}
use Rattle.cue_settings.proofs.steps.read_settings.Goals as goal
use Rattle.cue_settings.proofs.steps.read_settings.Goals.{In-Some, In-Some-name_end}

pub loop-at-init : goal.loop-at-init
unfolding cue_settings span_is is_empty
loop-at-init c =
    let args = c.args in
    let whole = tokens args.from (drop args.from args.s.now) in
    (omega arith, rw c.opening.ensures (fold_is (unflagged (record { settings = opening_settings; region = empty_part })) whole))

pub returns : goal.returns
unfolding stepped
returns c =
    let s = c.args.s.now in
    let none : tokens c.loop-at.i (drop c.loop-at.i s) ≡ [] = rw c.in_default.is at c.next_token.ensures in
    sym (ap (stepped step_is c.loop-at.taken) none) ∙ c.loop-at.invariant.1

-- the token that was found
token :
    (c : In-Some)
    → TokenHere c.args.s.now c.loop-at.i c.in-Some.field-0.from c.in-Some.field-0.to
token c = rw c.in-Some.is at c.next_token.ensures

pub slice_bounds-token-end : goal.slice_bounds-token-end
slice_bounds-token-end c =
    let s = c.args.s.now in
    sym (length-take-le c.in-Some.field-0.to s (token (goal.at.slice_bounds-token-end c).In-Some).inside)

pub name_end-requires : goal.name_end-requires
name_end-requires c =
    let s = c.args.s.now in
    omega (arith, length-take-le c.in-Some.field-0.to s (token (goal.at.name_end-requires c).In-Some).inside, (token (goal.at.name_end-requires c).In-Some).some)

-- what is left gives the whole, once this token is taken into account
left :
    (c : In-Some)
    → let s = c.args.s.now in
    let to = c.in-Some.field-0.to in
    stepped step_is (step_is (token_from (take to s) c.in-Some.field-0.from) c.loop-at.taken) (tokens to (drop to s))
    ≡ taken_is (cue_settings (token_from s c.args.from))
unfolding stepped
left c =
    sym (ap (stepped step_is c.loop-at.taken) (token c).first) ∙ c.loop-at.invariant.1

pub loop-at-smaller-in_default-name_end : goal.loop-at-smaller-in_default-name_end
loop-at-smaller-in_default-name_end c = let t = token (goal.at.loop-at-smaller-in_default-name_end c).In-Some in omega (arith, t.moves, t.inside)

pub loop-at-preserved-in_default-name_end : goal.loop-at-preserved-in_default-name_end
loop-at-preserved-in_default-name_end c =
    let s = c.args.s.now in
    let to = c.in-Some.field-0.to in
    let none = rw c.in_default-name_end.is at c.name_end.ensures in
    ((token (goal.at.loop-at-preserved-in_default-name_end c).In-Some).inside, rw (unnamed_step (token_from (take to s) c.in-Some.field-0.from) c.loop-at.taken none) at (left (goal.at.loop-at-preserved-in_default-name_end c).In-Some))

-- the name and the value
parted :
    (c : In-Some-name_end)
    → let s = c.args.s.now in
    Named (take c.in-Some.field-0.to s) c.in-Some.field-0.from c.in-Some-name_end.colon
parted c = rw c.in-Some-name_end.is at c.name_end.ensures

pub slice_bounds-named_step-count : goal.slice_bounds-named_step-count
slice_bounds-named_step-count c = omega (arith, (parted (goal.at.slice_bounds-named_step-count c).In-Some-name_end).after)

pub slice_bounds-named_step-start : goal.slice_bounds-named_step-start
slice_bounds-named_step-start c = omega (arith, (parted (goal.at.slice_bounds-named_step-start c).In-Some-name_end).after)

pub slice_bounds-named_step-end : goal.slice_bounds-named_step-end
slice_bounds-named_step-end c = omega (arith, (parted (goal.at.slice_bounds-named_step-end c).In-Some-name_end).inside)

pub overflow_add-colon : goal.overflow_add-colon
overflow_add-colon c =
    let s = c.args.s.now in
    let t = token (goal.at.overflow_add-colon c).In-Some in
    omega (arith, (parted (goal.at.overflow_add-colon c).In-Some-name_end).inside, length-take-le c.in-Some.field-0.to s t.inside, t.inside)

pub named_step-taken-requires : goal.named_step-taken-requires
named_step-taken-requires c = omega (arith, (parted (goal.at.named_step-taken-requires c).In-Some-name_end).inside)

pub loop-at-smaller : goal.loop-at-smaller
loop-at-smaller c = let t = token (goal.at.loop-at-smaller c).In-Some in omega (arith, t.moves, t.inside)

pub loop-at-preserved : goal.loop-at-preserved
loop-at-preserved c =
    let s = c.args.s.now in
    let to = c.in-Some.field-0.to in
    let made = c.named_step-taken.ensures ∙ named-step_is (take to s) c.in-Some.field-0.from c.in-Some-name_end.colon c.loop-at.taken (parted (goal.at.loop-at-preserved c).In-Some-name_end) in
    ((token (goal.at.loop-at-preserved c).In-Some).inside, rw made (left (goal.at.loop-at-preserved c).In-Some))
