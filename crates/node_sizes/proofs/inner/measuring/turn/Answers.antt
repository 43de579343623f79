use mathlib.Core.Path.{◌≡◌, refl, sym, ap, ◌∙◌}
use native.Mathlib.Omega.{arith}
use Rattle.std.specs.Prelude.{Ok}
use Rattle.std.proofs.lemmas.Result.{err_from_is_err_and}
use Rattle.tokenizer.specs.Tags.{token_is}
use Rattle.nodes.specs.Tokens.{made_is}
use Rattle.node_sizes.specs.Turns.{made_below}
use Rattle.node_sizes.proofs.MeasureLaws.{is_over_lem, passed_none, node_length, passed_node}
use Rattle.node_sizes.proofs.inner.measuring.turn.Goals as goal
use Rattle.node_sizes.proofs.inner.measuring.turn.Goals.{After-node_of}

-- what the token gives
given : (c : After-node_of) → made_below c.args.text.now c.args.token c.args.m.now ≡ c.node_of.result
given c = ap (λ k. made_is k (token_is c.args.text.now c.args.token)) (sym c.top_kind.ensures) ∙ sym c.node_of.ensures

pub returns-in_err-made : goal.returns-in_err-made
returns-in_err-made c =
    let over = given (goal.at.returns-in_err-made c).After-node_of ∙ c.in_err-made.was in
    let refused = err_from_is_err_and c.from_residual.result c.from_residual.ensures.1 in
    rw refused.1 (is_over_lem c.args.text.now c.args.token c.args.m.now over)

pub returns-in_default : goal.returns-in_default
returns-in_default c =
    let none = given (goal.at.returns-in_default c).After-node_of ∙ c.in_ok-made.was ∙ ap Ok c.in_default.is in
    passed_none c.args.text.now c.args.token c.args.m.now _ c.leave.ensures.long none (rw c.left_kind.ensures at c.leave.ensures.is) refl refl

pub after_strings-m-requires : goal.after_strings-m-requires
after_strings-m-requires c =
    let one = given (goal.at.after_strings-m-requires c).After-node_of ∙ c.in_ok-made.was ∙ ap Ok c.in-Some.is in
    let long = node_length c.args.text.now c.args.token c.args.m.now c.in-Some.made one in
    (c.requires.parts, c.requires.short, omega (arith, c.requires.used))

pub returns : goal.returns
returns c =
    let one = given (goal.at.returns c).After-node_of ∙ c.in_ok-made.was ∙ ap Ok c.in-Some.is in
    passed_node c.args.text.now c.args.token c.args.m.now _ c.enter.ensures.long c.in-Some.made one c.enter.ensures.is refl c.after_strings-m.ensures
