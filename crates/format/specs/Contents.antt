-- The contents of lists: what document 01 compares, "by contents, not by places in the text".
use Rattle.std.specs.Prelude.{ℕ, List, map}
use Rattle.std.specs.Prelude.{Option}
use Rattle.format.specs.Texts.{bytes_at}
use Rattle.format.specs.RegionSettings.{RegionValues}
use Rattle.format.specs.Lists.{Cue, Lists, lists}
use Rattle.format.specs.Rows.{region_for, cue_entry, region_entry, style_entry, region_rows, style_rows, stored_cues}
use Rattle.format.specs.declared.settings.Settings.{Settings}
use Rattle.format.specs.declared.regions.RegionSettings.{RegionSettings}
use Rattle.format.specs.declared.regions.Region.{Region}
use Rattle.format.specs.declared.rows.CueEntry.{CueEntry}

-- "a cue's contents are its identifier, times, text and settings (…, the region as an index in the list)"
pub record CueContents : Type 0 where
  pub id : List ℕ
  pub start : ℕ
  pub end : ℕ
  pub text : List ℕ
  pub settings : Settings
  pub region : Option ℕ

-- "a region's are its identifier, width, lines, anchors and scroll"
pub record RegionContents : Type 0 where
  pub id : List ℕ
  pub settings : RegionSettings

pub record Contents : Type 0 where
  pub cues : List CueContents
  pub regions : List RegionContents
  pub styles : List (List ℕ)

-- the contents of a cue of a file with these regions, of a region, and of whole lists
unfoldable pub cue_contents : List RegionValues → Cue → CueContents
cue_contents rs c =
    record {
      id = c.id.bytes;
      start = c.start;
      end = c.end;
      text = c.text.bytes;
      settings = c.settings;
      region = region_for rs c.region;
    }

unfoldable pub region_contents : RegionValues → RegionContents
region_contents r = record { id = r.id.bytes; settings = r.settings }

unfoldable pub contents : Lists → Contents
contents l =
    record {
      cues = map (cue_contents l.regions) l.cues;
      regions = map region_contents l.regions;
      styles = map (λ t. t.bytes) l.styles;
    }

-- the contents of entries, whose parts are parts of a text
unfoldable pub cue_of_entry : List ℕ → CueEntry → CueContents
cue_of_entry s e =
    record {
      id = bytes_at s e.id.from e.id.to;
      start = e.start;
      end = e.end;
      text = bytes_at s e.text.from e.text.to;
      settings = e.settings;
      region = e.region;
    }

unfoldable pub region_of_entry : List ℕ → Region → RegionContents
region_of_entry s r = record { id = bytes_at s r.id.from r.id.to; settings = r.settings }

-- the contents of rows over a text, and of whole tables
abbrev pub cue_of_row : List ℕ → List ℕ → CueContents
cue_of_row s w = cue_of_entry s (cue_entry w)

abbrev pub region_of_row : List ℕ → List ℕ → RegionContents
region_of_row s w = region_of_entry s (region_entry w)

abbrev pub style_of_row : List ℕ → List ℕ → List ℕ
style_of_row s w = bytes_at s (style_entry w).from (style_entry w).to

unfoldable pub contents_of_rows : List ℕ → List (List ℕ) → List (List ℕ) → List (List ℕ) → Contents
contents_of_rows s styles regions cues =
    record { cues = map (cue_of_row s) cues; regions = map (region_of_row s) regions; styles = map (style_of_row s) styles }

-- the contents of the rows that reading a text stores; they are those of its lists
unfoldable pub stored_contents : List ℕ → Contents
stored_contents s =
    contents_of_rows s (style_rows (lists s).styles) (region_rows (lists s).regions) (stored_cues s)
