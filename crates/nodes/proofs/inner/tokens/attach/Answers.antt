use Rattle.std.proofs.Common.{sym, ◌∙◌}
use Rattle.nodes.specs.Tokens.{attached_kind}
use Rattle.nodes.proofs.inner.tokens.attach.Goals as goal
use Rattle.nodes.proofs.inner.tokens.attach.Goals.{else-is_kind-via-then-is_kind+else-not-is_kind, else-is_kind-via-else-is_kind}

pub returns-then-not-is_kind : goal.returns-then-not-is_kind
unfolding attached_kind
returns-then-not-is_kind c = rw (sym c.is_kind.ensures ∙ c.if-is_kind.true, sym c.is_kind-then-is_kind.ensures ∙ c.if-not-is_kind.true)

pub returns : goal.returns
unfolding attached_kind
returns c =
    elim c.else-is_kind.branch [
      | else-is_kind-via-then-is_kind+else-not-is_kind w ↦
          rw (sym c.is_kind.ensures ∙ w.if-is_kind.true, sym w.is_kind-then-is_kind.ensures ∙ w.if-not-is_kind.false)
      | else-is_kind-via-else-is_kind w ↦ rw (sym c.is_kind.ensures ∙ w.if-is_kind.false)
    ]
