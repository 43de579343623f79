-- A cue's text and its identifier by one definition.
use Rattle.std.specs.Prelude.{ℕ, List}
use Rattle.format.specs.Rows.{cue_entry}
use Rattle.format.specs.Parts.{identifier_of, text_of}
use Rattle.format.specs.declared.settings.Span.{Span}
use Rattle.parts.specs.declared.Part.{Part}

abbrev pub place_of : List ℕ → Part → Span
place_of row Part.Identifier = (cue_entry row).id
place_of row Part.Text = (cue_entry row).text

abbrev pub handed_back : List ℕ → List (List ℕ) → ℕ → Part → List ℕ
handed_back s cues number Part.Identifier = identifier_of s cues number
handed_back s cues number Part.Text = text_of s cues number
