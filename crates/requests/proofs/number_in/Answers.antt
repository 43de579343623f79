use mathlib.Core.Path.{ap, ◌∙◌}
use Rattle.format.specs.Fields.{field_number}
use Rattle.requests.proofs.number_in.Goals as goal

pub returns : goal.returns
returns c = c.read_number.ensures ∙ ap field_number c.nth.ensures
