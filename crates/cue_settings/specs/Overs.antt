-- Which settings have a number above its limit. The settings read so far do not matter for that, as `proofs/OverLaws.antt` proves.
use Rattle.std.specs.Prelude.{Bool, false, ◌||◌, List, [], ◌∷◌}
use Rattle.format.specs.Texts.{Part}
use Rattle.format.specs.CueSettings.{opening_settings, is_over, cue_change}

abbrev pub token_over : Part → Bool
token_over t = is_over (cue_change t opening_settings)

unfoldable pub any_token_over : List Part → Bool
any_token_over [] = false
any_token_over (t ∷ ts) = token_over t || any_token_over ts
