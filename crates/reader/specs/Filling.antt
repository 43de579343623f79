-- What storing one item makes of the tables. `proofs/FillLaws.antt` proves that all items give the rows that `format` defines.
use Rattle.std.specs.Prelude.{ℕ, ◌≤◌, ◌<◌, List, take, set}
use Rattle.format.specs.Rows.{cue_words, region_words, style_words}
use Rattle.format.specs.declared.rows.CueEntry.{CueEntry}
use Rattle.format.specs.declared.rows.LineSpan.{LineSpan}
use Rattle.lookup.specs.Known.{asked_at}
use Rattle.blocks.specs.declared.items.CueRead.{CueRead}
use Rattle.blocks.specs.declared.items.Item.{Item}
use Rattle.format.specs.declared.Counts.{Counts}

abbrev pub entry_of : List ℕ → List (List ℕ) → CueRead → CueEntry
entry_of s rows c =
    record {
      id = c.id;
      start = c.start;
      end = c.end;
      text = c.text;
      settings = c.settings;
      region = asked_at s rows c.region;
    }

-- the tables after one item, whose block has these lines, n being the counts before it
abbrev pub cues_with : List ℕ → Item → LineSpan → Counts → List (List ℕ) → List (List ℕ) → List (List ℕ)
cues_with s Item.Nothing lines n regions cues = cues
cues_with s Item.Over lines n regions cues = cues
cues_with s (Item.Cue c) lines n regions cues = set cues n.cues (cue_words (entry_of s (take n.regions regions) c) lines)
cues_with s (Item.Style t) lines n regions cues = cues
cues_with s (Item.Region r) lines n regions cues = cues

abbrev pub regions_with : Item → Counts → List (List ℕ) → List (List ℕ)
regions_with Item.Nothing n regions = regions
regions_with Item.Over n regions = regions
regions_with (Item.Cue c) n regions = regions
regions_with (Item.Style t) n regions = regions
regions_with (Item.Region r) n regions = set regions n.regions (region_words r)

abbrev pub styles_with : Item → Counts → List (List ℕ) → List (List ℕ)
styles_with Item.Nothing n styles = styles
styles_with Item.Over n styles = styles
styles_with (Item.Cue c) n styles = styles
styles_with (Item.Style t) n styles = set styles n.styles (style_words t)
styles_with (Item.Region r) n styles = styles

-- the tables, of these lengths, have room for an item
abbrev pub RoomFor : Item → Counts → ℕ → ℕ → ℕ → Type 0
RoomFor Item.Nothing n cues regions styles = Unit
RoomFor Item.Over n cues regions styles = Unit
RoomFor (Item.Cue c) n cues regions styles = (n.cues < cues) × (n.regions ≤ regions)
RoomFor (Item.Style t) n cues regions styles = n.styles < styles
RoomFor (Item.Region r) n cues regions styles = n.regions < regions
