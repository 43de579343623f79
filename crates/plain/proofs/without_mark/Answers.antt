use mathlib.Core.Path.{ap, ◌∙◌}
use Rattle.plain.proofs.MarkLaws.{mark_off}
use Rattle.plain.proofs.without_mark.Goals as goal

pub returns : goal.returns
returns c = ap (λ r. r.now) c.unwrap_or.ensures ∙ mark_off c.args.raw c.strip_prefix.result c.strip_prefix.ensures.cases
