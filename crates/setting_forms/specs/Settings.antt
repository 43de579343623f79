-- The settings of a cue in their written form, with the name of the region that the cue asks for.
use Rattle.std.specs.Prelude.{ℕ, List, [], ◌++◌}
use Rattle.std.specs.Prelude.{Option, None, Some}
use Rattle.format.specs.Bytes.{ascii}
use Rattle.format.specs.Written.{setting, written_five}
use Rattle.format.specs.declared.rows.CueEntry.{CueEntry}

-- the setting of the region that a cue asks for, if it asks for one
unfoldable pub named_region : Option (List ℕ) → List (List ℕ)
named_region None = []
named_region (Some name) = setting (ascii "region") name

unfoldable pub settings_form : CueEntry → Option (List ℕ) → List (List ℕ)
settings_form e name = written_five e.settings ++ named_region name
