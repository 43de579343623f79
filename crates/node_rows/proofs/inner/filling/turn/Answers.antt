use mathlib.Core.Path.{◌≡◌, refl, sym, ap, ◌∙◌}
use Prim.Native.Nat.{ℕ}
use Rattle.std.specs.Prelude.{Ok}
use Rattle.tokenizer.specs.Tags.{token_is}
use Rattle.nodes.specs.Tokens.{made_is}
use Rattle.node_rows.specs.Rows.{kind_in, left_in}
use Rattle.node_rows.specs.declared.inner.filling.Filled.{Filled}
use Rattle.node_rows.proofs.inner.filling.turn.Goals as goal
use Rattle.node_rows.proofs.inner.filling.turn.Goals.{After-node_of}

-- what the token gives
given : (c : After-node_of) → made_is (kind_in c.args.rows.now c.args.filled.current) (token_is c.args.text.now c.args.token) ≡ c.node_of.result
given c = ap (λ k. made_is k (token_is c.args.text.now c.args.token)) (sym c.kind_of.ensures) ∙ sym c.node_of.ensures

abbrev with : ℕ → ℕ → ℕ → Filled
with count used current = record { count = count; used = used; current = current }

pub put_node-requires : goal.put_node-requires
put_node-requires c =
    let fits = rw (given (goal.at.put_node-requires c).After-node_of ∙ c.in-Ok-Some.is ∙ ap Ok c.in-Ok-Some.field-0-is) at c.requires.2 in
    (c.requires.0, c.requires.1, fits.0, fits.1)

pub returns-in-Ok-Some : goal.returns-in-Ok-Some
returns-in-Ok-Some c =
    rw (given (goal.at.returns-in-Ok-Some c).After-node_of ∙ c.in-Ok-Some.is ∙ ap Ok c.in-Ok-Some.field-0-is) c.put_node.ensures

pub returns-in-Ok-None : goal.returns-in-Ok-None
returns-in-Ok-None c =
    let m = c.args.filled in
    let left = c.leave.ensures ∙ ap (left_in c.args.rows.now m.current) c.left_kind.ensures in
    rw (given (goal.at.returns-in-Ok-None c).After-node_of ∙ c.in-Ok-None.is ∙ ap Ok c.in-Ok-None.field-0-is) (ap (with m.count m.used) left, refl, refl)

pub returns-in-Err : goal.returns-in-Err
returns-in-Err c = rw (given (goal.at.returns-in-Err c).After-node_of ∙ c.in-Err.is) (refl, refl, refl)
