use mathlib.Core.Path.{ap, ◌∙◌}
use Rattle.format.specs.Fields.{unescaped}
use lib.ListN.{length}
use Rattle.std.specs.Prelude.{option_map}
use Rattle.requests.proofs.length_in.Goals as goal

pub returns : goal.returns
returns c = c.length.ensures ∙ ap (λ f. option_map length (unescaped f)) c.nth.ensures
