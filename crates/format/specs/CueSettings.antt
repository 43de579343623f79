-- Document 01, "Settings", for cues: the opening values, and each setting as what it changes in the settings read so far.
use Rattle.std.specs.Prelude.{ℕ, ◌+◌, Bool, true, false, cond, not, ◌||◌, List, eqb, length}
use Rattle.std.specs.Prelude.{Option, None, Some}
use Rattle.std.specs.Option.{option_map_or}
use Rattle.format.specs.Bytes.{ascii, comma, percent}
use Rattle.format.specs.Texts.{Part, empty_part, is_empty, same, ends_with, before_first, after_first, has}
use Rattle.format.specs.Numbers.{percentage, LineNumber, line_number, over_line, is_negative, millionths}
use Rattle.format.specs.Tokens.{tokens, name_of, value_of, Flagged, unflagged, folded}
use Rattle.format.specs.declared.settings.Span.{Span}
use Rattle.format.specs.declared.settings.Settings.{Settings}
use Rattle.format.specs.declared.settings.Change.{Change}
use Rattle.format.specs.declared.settings.Direction.{Direction}
use Rattle.format.specs.declared.settings.LineAlign.{LineAlign}
use Rattle.format.specs.declared.settings.PositionAlign.{PositionAlign}
use Rattle.format.specs.declared.settings.Align.{Align}
use Rattle.format.specs.declared.settings.Line.TheVariants as Line
use Rattle.format.specs.declared.settings.Position.TheVariants as Position

-- "horizontal, line auto, snap on, line alignment start, position and its alignment auto, size 100, align center, no region"
abbrev pub opening_settings : Settings
opening_settings =
    record {
      vertical = Direction.Horizontal;
      line = record { line = Line.Auto; snap = true; align = LineAlign.Start };
      position = record { position = Position.Auto; align = PositionAlign.Auto };
      size = 100_000_000;
      align = Align.Center;
    }

-- what a change makes of the settings; nothing, a number above its limit and a region leave them as they are
abbrev pub settings_after : Change → Settings → Settings
settings_after Change.Nothing s = s
settings_after Change.Over s = s
settings_after Change.Region s = s
settings_after (Change.Vertical d) s = record { vertical = d; line = s.line; position = s.position; size = s.size; align = s.align }
settings_after (Change.Line l) s = record { vertical = s.vertical; line = l; position = s.position; size = s.size; align = s.align }
settings_after (Change.Position p) s = record { vertical = s.vertical; line = s.line; position = p; size = s.size; align = s.align }
settings_after (Change.Size n) s = record { vertical = s.vertical; line = s.line; position = s.position; size = n; align = s.align }
settings_after (Change.Align a) s = record { vertical = s.vertical; line = s.line; position = s.position; size = s.size; align = a }

abbrev pub is_horizontal : Direction → Bool
is_horizontal Direction.Horizontal = true
is_horizontal Direction.Rl = false
is_horizontal Direction.Lr = false

-- what becomes of the region's name, x being the setting's value: a region takes it; a line, a size other than 100 and "any `vertical:` setting
-- that has a value, even a bad one, … if the direction is vertical by then" clear it
abbrev pub name_after : {A : Type 0} → A → Change → A → A → A
name_after cleared Change.Nothing x name = name
name_after cleared Change.Over x name = name
name_after cleared Change.Region x name = x
name_after cleared (Change.Vertical d) x name = cond (is_horizontal d) name cleared
name_after cleared (Change.Line l) x name = cleared
name_after cleared (Change.Position p) x name = name
name_after cleared (Change.Size n) x name = cond (eqb n 100_000_000) name cleared
name_after cleared (Change.Align a) x name = name

abbrev pub is_over : Change → Bool
is_over Change.Nothing = false
is_over Change.Over = true
is_over Change.Region = false
is_over (Change.Vertical d) = false
is_over (Change.Line l) = false
is_over (Change.Position p) = false
is_over (Change.Size n) = false
is_over (Change.Align a) = false

-- `vertical:x`: the direction that is set stays where x names none
unfoldable pub direction : List ℕ → Direction → Direction
direction x d = cond (same x (ascii "rl")) Direction.Rl (cond (same x (ascii "lr")) Direction.Lr d)

-- `line:x`: the alignment after a comma; the one that is set where there is no comma, and none where it is not one of those named
unfoldable pub line_align : List ℕ → LineAlign → Option LineAlign
line_align x a =
    cond (not (has comma x)) (Some a)
    (cond (same (after_first comma x) (ascii "start")) (Some LineAlign.Start)
    (cond (same (after_first comma x) (ascii "center")) (Some LineAlign.Center)
    (cond (same (after_first comma x) (ascii "end")) (Some LineAlign.End) None)))

-- a percentage, which does not snap to lines
unfoldable pub line_at_percentage : LineAlign → ℕ → Change
line_at_percentage a n = Change.Line (record { line = Line.At false n; snap = false; align = a })

-- a line number, which does
unfoldable pub line_counted : Option LineNumber → LineAlign → Change
line_counted None a = Change.Nothing
line_counted (Some n) a =
    cond (over_line n) Change.Over (Change.Line (record { line = Line.At (is_negative n) (millionths n.size); snap = true; align = a }))

unfoldable pub line_aligned : List ℕ → Option LineAlign → Change
line_aligned place None = Change.Nothing
line_aligned place (Some a) = cond (ends_with percent place) (option_map_or (line_at_percentage a) (percentage place) Change.Nothing) (line_counted (line_number place) a)

unfoldable pub line_change : List ℕ → LineAlign → Change
line_change x a = line_aligned (before_first comma x) (line_align x a)

-- `position:x`
unfoldable pub position_align : List ℕ → PositionAlign → Option PositionAlign
position_align x a =
    cond (not (has comma x)) (Some a)
    (cond (same (after_first comma x) (ascii "line-left")) (Some PositionAlign.LineLeft)
    (cond (same (after_first comma x) (ascii "center")) (Some PositionAlign.Center)
    (cond (same (after_first comma x) (ascii "line-right")) (Some PositionAlign.LineRight) None)))

unfoldable pub position_aligned : Option ℕ → Option PositionAlign → Change
position_aligned None a = Change.Nothing
position_aligned (Some n) None = Change.Nothing
position_aligned (Some n) (Some a) = Change.Position (record { position = Position.At n; align = a })

unfoldable pub position_change : List ℕ → PositionAlign → Change
position_change x a = position_aligned (percentage (before_first comma x)) (position_align x a)

-- `align:x`: the alignment that is set stays where x names none
unfoldable pub alignment : List ℕ → Align → Align
alignment x a =
    cond (same x (ascii "start")) Align.Start
    (cond (same x (ascii "center")) Align.Center
    (cond (same x (ascii "end")) Align.End
    (cond (same x (ascii "left")) Align.Left (cond (same x (ascii "right")) Align.Right a))))

-- one setting by its name, x being its value
unfoldable pub named : List ℕ → List ℕ → Settings → Change
named name x s =
    cond (same name (ascii "region")) Change.Region
    (cond (same name (ascii "vertical")) (Change.Vertical (direction x s.vertical))
    (cond (same name (ascii "line")) (line_change x s.line.align)
    (cond (same name (ascii "position")) (position_change x s.position.align)
    (cond (same name (ascii "size")) (option_map_or Change.Size (percentage x) Change.Nothing)
    (cond (same name (ascii "align")) (Change.Align (alignment x s.align)) Change.Nothing)))))

-- one token: nothing where its first colon is missing, first or last
unfoldable pub cue_change : Part → Settings → Change
cue_change t s = cond (is_empty (name_of t) || is_empty (value_of t).bytes) Change.Nothing (named (name_of t) (value_of t).bytes s)

-- a cue's settings, with the name of the region that was asked for; it has no bytes where none was
pub record CueSettings : Type 0 where
  pub settings : Settings
  pub region : Part

-- a token turns the settings read so far into the next ones
unfoldable pub changed : Change → Part → CueSettings → Flagged CueSettings
changed change t c =
    record {
      value = record { settings = settings_after change c.settings; region = name_after empty_part change (value_of t) c.region };
      over = is_over change;
    }

unfoldable pub cue_setting : Part → CueSettings → Flagged CueSettings
cue_setting t c = changed (cue_change t c.settings) t c

-- the settings that a part of a text gives
unfoldable pub cue_settings : Part → Flagged CueSettings
cue_settings p = folded cue_setting (unflagged (record { settings = opening_settings; region = empty_part })) (tokens p.place p.bytes)

-- places as the code holds them: from a place up to another, both 0 where there are no bytes
abbrev pub no_span : Span
no_span = record { from = 0; to = 0 }

unfoldable pub span_is : Part → Span
span_is p = cond (is_empty p.bytes) no_span (record { from = p.place; to = p.place + length p.bytes })
