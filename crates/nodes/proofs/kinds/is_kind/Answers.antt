use mathlib.Core.Path.{◌≡◌, refl, ◌∙◌}
use Rattle.std.specs.Prelude.{Option, None, Some}
use Rattle.std.specs.Option.{option_eq}
use Rattle.format.specs.Trees.{is_kind}
use Rattle.format.specs.declared.kinds.NodeKind.{NodeKind}
use Rattle.format.specs.contracts.kinds.NodeKindPartialEq.TheImpl.{eq-value}
use Rattle.nodes.proofs.KindLaws.{same_words}
use Rattle.nodes.proofs.kinds.is_kind.Goals as goal

compared : (o : Option NodeKind) (k : NodeKind) → option_eq eq-value.it o (Some k) ≡ is_kind o k
unfolding is_kind
compared None k = refl
compared (Some j) k = same_words j k

-- `nodes::kinds::is_kind` meets its contract.
pub returns : goal.returns
returns c = c.eq.ensures ∙ compared c.args.named c.args.kind
