use mathlib.Core.Path.{◌≡◌, sym, ap, ◌∙◌}
use Rattle.format.specs.CueSettings.{cue_settings}
use Rattle.values.specs.Tokens.{token_from}
use Rattle.cue_settings.specs.Steps.{taken_is}
use Rattle.values.proofs.CutLaws.{part-rest}
use Rattle.timing.proofs.timing_line.with_settings.Goals as goal
use Rattle.timing.proofs.timing_line.with_settings.Goals.{After-all_settings-taken}

-- the settings from the place on
read : (c : After-all_settings-taken) → let args = c.args in c.all_settings-taken.result ≡ taken_is (cue_settings (token_from args.s.now args.at))
read c =
    c.all_settings-taken.ensures ∙ ap (λ p. taken_is (cue_settings p)) (part-rest c.args.s.now c.args.at c.requires.1)

pub returns-then-taken : goal.returns-then-taken
returns-then-taken c = rw (sym (ap (λ t. t.over) (read (goal.at.returns-then-taken c).After-all_settings-taken)) ∙ c.if-taken.true)

pub returns : goal.returns
returns c =
    let taken = read (goal.at.returns c).After-all_settings-taken in
    rw (sym (ap (λ t. t.over) taken) ∙ c.if-taken.false, ap (λ t. t.settings) taken, ap (λ t. t.region) taken)
