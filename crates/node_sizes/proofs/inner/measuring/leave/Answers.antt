use mathlib.Core.Path.{◌≡◌, sym, ap, ◌∙◌}
use mathlib.Core.Bool.{cond, ◌&&◌}
use mathlib.Core.List.{map}
use Rattle.std.specs.Prelude.{Some}
use lib.ListN.{drop}
use Rattle.format.specs.Trees.{kind_numbered, is_kind}
use Rattle.format.specs.declared.kinds.NodeKind.{NodeKind}
use Rattle.stack.specs.Kinds.{kinds}
use Rattle.node_laws.specs.Sizes.{leaving_kinds}
use Rattle.node_sizes.specs.Turns.{opened}
use Rattle.node_sizes.proofs.MeasureLaws.{leaves_none, leaves_top, map-drop}
use Rattle.node_sizes.proofs.inner.measuring.leave.Goals as goal
use Rattle.node_sizes.proofs.inner.measuring.leave.Goals.{In-Some, else-is_kind-2-via-then-is_kind-2+else-is_kind-3, else-is_kind-2-via-else-is_kind-2}

pub returns-in_default-clause-is : goal.returns-in_default-clause-is
returns-in_default-clause-is c = sym (leaves_none c.args.named (opened c.args.path.now) (sym c.top_kind.ensures ∙ c.in_default.is))

-- what stays, by the top kind
stays :
    (c : In-Some)
    → leaving_kinds c.args.named (opened c.args.path.now)
    ≡ cond (is_kind c.args.named c.in-Some.kind) (drop 1 (opened c.args.path.now))
    (cond (is_kind c.args.named NodeKind.Ruby && is_kind (Some c.in-Some.kind) NodeKind.RubyText)
    (drop 1 (drop 1 (opened c.args.path.now)))
    (opened c.args.path.now))
stays c = leaves_top c.args.named (opened c.args.path.now) c.in-Some.kind (sym c.top_kind.ensures ∙ c.in-Some.is)

pub returns-then-is_kind-clause-is : goal.returns-then-is_kind-clause-is
returns-then-is_kind-clause-is c =
    let own = sym c.is_kind.ensures ∙ c.if-is_kind.true in
    rw (stays (goal.at.returns-then-is_kind-clause-is c).In-Some, own)
    (ap (map kind_numbered) c.pop.ensures.is ∙ map-drop (kinds c.args.path.now))

pub returns-then-is_kind-3-clause-is : goal.returns-then-is_kind-3-clause-is
returns-then-is_kind-3-clause-is c =
    let own = sym c.is_kind.ensures ∙ c.if-is_kind.false in
    let ruby = sym c.is_kind-else-is_kind.ensures ∙ c.if-is_kind-2.true in
    let text = sym c.is_kind-then-is_kind-2.ensures ∙ c.if-is_kind-3.true in
    let below = c.pop-then-is_kind-3.new.self in
    rw (stays (goal.at.returns-then-is_kind-3-clause-is c).In-Some, own, ruby, text)
    (ap (map kind_numbered) c.pop-then-is_kind-3-2.ensures.is
    ∙ map-drop (kinds below)
    ∙ ap (drop 1) (ap (map kind_numbered) c.pop-then-is_kind-3.ensures.is ∙ map-drop (kinds c.args.path.now)))

pub returns-else-is_kind-2-clause-is : goal.returns-else-is_kind-2-clause-is
returns-else-is_kind-2-clause-is c =
    let own = sym c.is_kind.ensures ∙ c.if-is_kind.false in
    let left = stays (goal.at.returns-else-is_kind-2-clause-is c).In-Some in
    elim c.else-is_kind-2.branch [
      | else-is_kind-2-via-then-is_kind-2+else-is_kind-3 w ↦
          rw (left, own, sym c.is_kind-else-is_kind.ensures ∙ w.if-is_kind-2.true, sym w.is_kind-then-is_kind-2.ensures ∙ w.if-is_kind-3.false)
      | else-is_kind-2-via-else-is_kind-2 w ↦ rw (left, own, sym c.is_kind-else-is_kind.ensures ∙ w.if-is_kind-2.false)
    ]
