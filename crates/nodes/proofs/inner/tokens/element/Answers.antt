use Rattle.std.proofs.Common.{◌≡◌, sym, ap, ◌∙◌}
use Rattle.format.specs.Trees.{attached}
use Rattle.nodes.specs.Tokens.{attached_kind, element_made}
use Rattle.nodes.proofs.inner.tokens.element.Goals as goal
use Rattle.nodes.proofs.inner.tokens.element.Goals.{After-attach}

-- what is attached
found : (c : After-attach) → c.attach.result ≡ attached c.args.current c.args.name.now
unfolding attached attached_kind
found c = c.attach.ensures ∙ ap (attached_kind c.args.current) c.kind_named.ensures

pub returns-in_err-kind : goal.returns-in_err-kind
unfolding element_made
returns-in_err-kind c = c.from_residual.ensures ∙ ap element_made (sym c.in_err-kind.was ∙ found (goal.at.returns-in_err-kind c).After-attach)

pub returns : goal.returns
unfolding element_made
returns c = ap element_made (sym c.in_ok-kind.was ∙ found (goal.at.returns c).After-attach)
