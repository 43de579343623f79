use mathlib.Core.Path.{ap, ◌∙◌}
use Rattle.format.specs.Texts.{bytes_at}
use Rattle.cue_settings.specs.declared.steps.CueTaken.{CueTaken}
use Rattle.requests.specs.Asked.{field_of}
use Rattle.requests.proofs.RequestLaws.{name-is}
use Rattle.requests.proofs.name_of.Goals as goal

pub returns : goal.returns
returns c =
    let field = field_of c.args.line.now 5 in
    c.part.ensures
    ∙ ap (λ f. bytes_at f c.settings_of-taken.result.region.from c.settings_of-taken.result.region.to) c.nth.ensures
    ∙ ap (λ (t : CueTaken). bytes_at field t.region.from t.region.to) c.settings_of-taken.ensures
    ∙ name-is field
