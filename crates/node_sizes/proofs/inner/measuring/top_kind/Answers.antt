use mathlib.Core.Path.{sym, ◌∙◌}
use Rattle.stack.specs.Kinds.{kinds}
use Rattle.node_sizes.proofs.MeasureLaws.{top_opened, top_none}
use Rattle.node_sizes.proofs.inner.measuring.top_kind.Goals as goal

pub returns-in_err-word : goal.returns-in_err-word
returns-in_err-word c = c.from_residual.ensures ∙ sym (top_none (kinds c.args.path.now) (sym c.top.ensures ∙ c.in_err-word.was))

pub returns : goal.returns
returns c = rw (top_opened (kinds c.args.path.now) c.in_ok-word.word (sym c.top.ensures ∙ c.in_ok-word.was), ← c.kind_numbered.ensures)
