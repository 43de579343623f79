-- Document 01, "Settings", for regions: the opening values, each setting, and the region that a cue asks for.
use Rattle.std.specs.Prelude.{ℕ, ◌+◌, Bool, true, false, cond, ◌||◌, ◌&&◌, List, [], ◌∷◌, ltb}
use Rattle.std.specs.Prelude.{Option, None, Some}
use Rattle.std.specs.Option.{option_map_or}
use Rattle.format.specs.Bytes.{ascii, comma}
use Rattle.format.specs.Limits.{max_line}
use Rattle.format.specs.Texts.{Part, empty_part, is_empty, same, before_first, after_first, has}
use Rattle.format.specs.Numbers.{percentage, line_count}
use Rattle.format.specs.Tokens.{Flagged, unflagged, folded, tokens, name_of, value_of}
use Rattle.format.specs.CueSettings.{span_is}
use Rattle.format.specs.declared.regions.Point.{Point}
use Rattle.format.specs.declared.regions.Scroll.{Scroll}
use Rattle.format.specs.declared.regions.RegionSettings.{RegionSettings}
use Rattle.format.specs.declared.regions.RegionChange.{RegionChange}
use Rattle.format.specs.declared.regions.Region.{Region}

pub record RegionValues : Type 0 where
  pub id : Part
  pub settings : RegionSettings

-- "Regions open with empty identifier, width 100, lines 3, both anchors 0 and 100, no scroll."
abbrev pub opening_region : RegionSettings
opening_region =
    record {
      width = 100_000_000;
      lines = 3;
      anchor = record { x = 0; y = 100_000_000 };
      viewport = record { x = 0; y = 100_000_000 };
      scroll = Scroll.None;
    }

-- what a change makes of the settings
abbrev pub region_after : RegionChange → RegionSettings → RegionSettings
region_after RegionChange.Nothing r = r
region_after RegionChange.Over r = r
region_after RegionChange.Id r = r
region_after (RegionChange.Width n) r =
    record { width = n; lines = r.lines; anchor = r.anchor; viewport = r.viewport; scroll = r.scroll }
region_after (RegionChange.Lines n) r =
    record { width = r.width; lines = n; anchor = r.anchor; viewport = r.viewport; scroll = r.scroll }
region_after (RegionChange.Anchor p) r =
    record { width = r.width; lines = r.lines; anchor = p; viewport = r.viewport; scroll = r.scroll }
region_after (RegionChange.Viewport p) r =
    record { width = r.width; lines = r.lines; anchor = r.anchor; viewport = p; scroll = r.scroll }
region_after RegionChange.Scroll r =
    record { width = r.width; lines = r.lines; anchor = r.anchor; viewport = r.viewport; scroll = Scroll.Up }

-- what becomes of the identifier, a part or whatever stands for it, x being the setting's value
abbrev pub id_after : {A : Type 0} → RegionChange → A → A → A
id_after RegionChange.Nothing x id = id
id_after RegionChange.Over x id = id
id_after RegionChange.Id x id = x
id_after (RegionChange.Width n) x id = id
id_after (RegionChange.Lines n) x id = id
id_after (RegionChange.Anchor p) x id = id
id_after (RegionChange.Viewport p) x id = id
id_after RegionChange.Scroll x id = id

-- was the setting's number above its limit
abbrev pub over_region : RegionChange → Bool
over_region RegionChange.Nothing = false
over_region RegionChange.Over = true
over_region RegionChange.Id = false
over_region (RegionChange.Width n) = false
over_region (RegionChange.Lines n) = false
over_region (RegionChange.Anchor p) = false
over_region (RegionChange.Viewport p) = false
over_region RegionChange.Scroll = false

-- `lines:x`
unfoldable pub lines_change : Option ℕ → RegionChange
lines_change None = RegionChange.Nothing
lines_change (Some n) = cond (ltb max_line n) RegionChange.Over (RegionChange.Lines n)

-- two percentages, parted by the first comma
unfoldable pub point_of : Option ℕ → Option ℕ → Option Point
point_of None y = None
point_of (Some x) None = None
point_of (Some x) (Some y) = Some (record { x = x; y = y })

unfoldable pub point : List ℕ → Option Point
point x = cond (has comma x) (point_of (percentage (before_first comma x)) (percentage (after_first comma x))) None

-- what one setting changes, by its name and the bytes of its value
unfoldable pub region_named : List ℕ → List ℕ → RegionChange
region_named name x =
    cond (same name (ascii "id")) RegionChange.Id
    (cond (same name (ascii "width")) (option_map_or RegionChange.Width (percentage x) RegionChange.Nothing)
    (cond (same name (ascii "lines")) (lines_change (line_count x))
    (cond (same name (ascii "regionanchor")) (option_map_or RegionChange.Anchor (point x) RegionChange.Nothing)
    (cond (same name (ascii "viewportanchor")) (option_map_or RegionChange.Viewport (point x) RegionChange.Nothing)
    (cond (same name (ascii "scroll") && same x (ascii "up")) RegionChange.Scroll RegionChange.Nothing)))))

-- what one token changes: nothing where its first colon is missing, first or last
unfoldable pub region_change : Part → RegionChange
region_change t =
    cond (is_empty (name_of t) || is_empty (value_of t).bytes) RegionChange.Nothing (region_named (name_of t) (value_of t).bytes)

-- one token
unfoldable pub region_setting : Part → RegionValues → Flagged RegionValues
region_setting t r =
    let change = region_change t in
    record {
      value = record { id = id_after change (value_of t) r.id; settings = region_after change r.settings };
      over = over_region change;
    }

-- the region that a part of a text gives
unfoldable pub region_settings : Part → Flagged RegionValues
region_settings p = folded region_setting (unflagged (record { id = empty_part; settings = opening_region })) (tokens p.place p.bytes)

abbrev pub region_is : RegionValues → Region
region_is r = record { id = span_is r.id; settings = r.settings }

unfoldable pub later_or : Option ℕ → Option ℕ → Option ℕ
later_or None o = o
later_or (Some n) o = Some n

-- "`region:x` takes the last region whose identifier is x, or none": its index in the list, i being that of the first here
unfoldable pub last_named : ℕ → List ℕ → List (List ℕ) → Option ℕ
last_named i x [] = None
last_named i x (id ∷ ids) = later_or (last_named (i + 1) x ids) (cond (same id x) (Some i) None)
