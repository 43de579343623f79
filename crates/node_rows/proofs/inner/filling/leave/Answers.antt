use mathlib.Core.Path.{◌≡◌, refl, sym, ◌∙◌}
use mathlib.Core.Bool.{cond, ◌&&◌}
use Rattle.std.specs.Prelude.{Some}
use Rattle.format.specs.Trees.{is_kind}
use Rattle.format.specs.declared.kinds.NodeKind.{NodeKind}
use Rattle.node_rows.specs.Rows.{up_in, left_of, left_in}
use Rattle.node_rows.proofs.inner.filling.leave.Goals as goal
use Rattle.node_rows.proofs.inner.filling.leave.Goals.{In-Some, else-is_kind-2-via-then-is_kind-2+else-is_kind-3, else-is_kind-2-via-else-is_kind-2}

pub returns-in_default : goal.returns-in_default
unfolding left_in left_of
returns-in_default c = rw (sym c.kind_of.ensures ∙ c.in_default.is) refl

leaves : (c : In-Some) → left_in c.args.rows.now c.args.node c.args.named
    ≡ cond (is_kind c.args.named (c.in-Some.kind)) (up_in c.args.rows.now c.args.node)
    (cond (is_kind c.args.named NodeKind.Ruby && is_kind (Some (c.in-Some.kind)) NodeKind.RubyText) (up_in c.args.rows.now (up_in c.args.rows.now c.args.node)) c.args.node)
unfolding left_in left_of
leaves c = rw (sym c.kind_of.ensures ∙ c.in-Some.is) refl

pub returns-then-is_kind : goal.returns-then-is_kind
returns-then-is_kind c =
    let own = sym c.is_kind.ensures ∙ c.if-is_kind.true in
    rw (leaves (goal.at.returns-then-is_kind c).In-Some, own) c.up-parent.ensures

pub returns-then-is_kind-3 : goal.returns-then-is_kind-3
returns-then-is_kind-3 c =
    let own = sym c.is_kind.ensures ∙ c.if-is_kind.false in
    let ruby = sym c.is_kind-2.ensures ∙ c.if-is_kind-2.true in
    let text = sym c.is_kind-then-is_kind-2.ensures ∙ c.if-is_kind-3.true in
    rw (leaves (goal.at.returns-then-is_kind-3 c).In-Some, own, ruby, text, sym c.up-parent.ensures) c.up.ensures

pub returns : goal.returns
returns c =
    let own = sym c.is_kind.ensures ∙ c.if-is_kind.false in
    let stays = leaves (goal.at.returns c).In-Some in
    elim c.else-is_kind-2.branch [
      | else-is_kind-2-via-then-is_kind-2+else-is_kind-3 w ↦
          rw (stays, own, sym c.is_kind-2.ensures ∙ w.if-is_kind-2.true, sym w.is_kind-then-is_kind-2.ensures ∙ w.if-is_kind-3.false) refl
      | else-is_kind-2-via-else-is_kind-2 w ↦ rw (stays, own, sym c.is_kind-2.ensures ∙ w.if-is_kind-2.false) refl
    ]
