-- A cue's settings as the code holds them, with the place of the region's name. `proofs/SettingLaws.antt` proves that the
-- steps of the code are those of `format`.
use Rattle.std.specs.Prelude.{◌||◌}
use Rattle.format.specs.Texts.{Part}
use Rattle.format.specs.Tokens.{value_of, Flagged}
use Rattle.format.specs.CueSettings.{CueSettings, settings_after, name_after, is_over, cue_change, span_is, no_span}
use Rattle.format.specs.declared.settings.Span.{Span}
use Rattle.format.specs.declared.settings.Change.{Change}
use Rattle.cue_settings.specs.declared.steps.CueTaken.{CueTaken}

abbrev pub taken_is : Flagged CueSettings → CueTaken
taken_is v = record { settings = v.value.settings; region = span_is v.value.region; over = v.over }

-- a change taken into account, the setting's value standing at x
abbrev pub step_with : Change → Span → CueTaken → CueTaken
step_with h x s =
    record { settings = settings_after h s.settings; region = name_after no_span h x s.region; over = s.over || is_over h }

abbrev pub step_is : Part → CueTaken → CueTaken
step_is t s = step_with (cue_change t s.settings) (span_is (value_of t)) s
