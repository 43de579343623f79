use mathlib.Core.Path.{ap, ◌∙◌}
use Rattle.format.specs.Requests.{settings_field}
use Rattle.cue_settings.specs.Steps.{taken_is}
use Rattle.requests.proofs.RequestLaws.{whole-field}
use Rattle.requests.proofs.settings_of.Goals as goal

pub returns : goal.returns
returns c =
    c.all_settings.ensures ∙ ap taken_is (whole-field c.nth-field.result.now) ∙ ap (λ f. taken_is (settings_field f)) c.nth-field.ensures
