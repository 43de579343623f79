-- The rows of the lent tables: one coding and one decoding of each. No other definition knows a word by its number. Percentages and line
-- numbers are in millionths, times in milliseconds, parts are from a place up to another.
use Rattle.std.specs.Prelude.{ℕ, suc, ◌-◌, min, Bool, true, false, cond, ◌&&◌, List, [], ◌∷◌, map, eqb, ltb, get_or}
use Rattle.std.specs.Prelude.{Option, None, Some}
use Rattle.format.specs.Texts.{Part, is_empty}
use Rattle.format.specs.CueSettings.{span_is}
use Rattle.format.specs.RegionSettings.{RegionValues, region_is, last_named}
use Rattle.format.specs.Lists.{Cue, lists}
use Rattle.format.specs.LineNumbers.{line_spans}
use Rattle.std.specs.Prelude.{Result, Ok, Err}
use Rattle.format.specs.declared.codes.Unnamed.{Unnamed}
use Rattle.format.specs.declared.settings.Span.{Span}
use Rattle.format.specs.declared.settings.Direction.{Direction}
use Rattle.format.specs.declared.settings.Line.{Line}
use Rattle.format.specs.declared.settings.LineAlign.{LineAlign}
use Rattle.format.specs.declared.settings.Position.{Position}
use Rattle.format.specs.declared.settings.PositionAlign.{PositionAlign}
use Rattle.format.specs.declared.settings.Align.{Align}
use Rattle.format.specs.declared.regions.Scroll.{Scroll}
use Rattle.format.specs.declared.regions.Region.{Region}
use Rattle.format.specs.declared.rows.CueEntry.{CueEntry}
use Rattle.format.specs.declared.rows.LineSpan.{LineSpan}

-- the coded choices, each as a word
abbrev pub direction_word : Direction → ℕ
direction_word Direction.Horizontal = 0
direction_word Direction.Rl = 1
direction_word Direction.Lr = 2

-- auto, a number from 0 on, a number below 0; an auto carries no number
abbrev pub line_word : Line → ℕ
line_word Line.Auto = 0
line_word (Line.At false n) = 1
line_word (Line.At true n) = 2

abbrev pub line_number_word : Line → ℕ
line_number_word Line.Auto = 0
line_number_word (Line.At negative n) = n

-- 0 where the line snaps to lines
abbrev pub snap_word : Bool → ℕ
snap_word true = 0
snap_word false = 1

abbrev pub line_align_word : LineAlign → ℕ
line_align_word LineAlign.Start = 0
line_align_word LineAlign.Center = 1
line_align_word LineAlign.End = 2

abbrev pub position_word : Position → ℕ
position_word Position.Auto = 0
position_word (Position.At n) = 1

abbrev pub position_number_word : Position → ℕ
position_number_word Position.Auto = 0
position_number_word (Position.At n) = n

abbrev pub position_align_word : PositionAlign → ℕ
position_align_word PositionAlign.Auto = 0
position_align_word PositionAlign.LineLeft = 1
position_align_word PositionAlign.Center = 2
position_align_word PositionAlign.LineRight = 3

abbrev pub align_word : Align → ℕ
align_word Align.Start = 0
align_word Align.Center = 1
align_word Align.End = 2
align_word Align.Left = 3
align_word Align.Right = 4

-- the greatest number that a word of a row can be
abbrev pub greatest_word : ℕ
greatest_word = 18_446_744_073_709_551_615

-- 0 for no region, else its index and one; no list is so long that this would be above the greatest word
abbrev pub region_word : Option ℕ → ℕ
region_word None = 0
region_word (Some i) = min (suc i) greatest_word

abbrev pub scroll_word : Scroll → ℕ
scroll_word Scroll.None = 0
scroll_word Scroll.Up = 1

-- the row of a cue, its words after the alignment being these
abbrev pub cue_words_with : List ℕ → CueEntry → List ℕ
cue_words_with others e =
    e.id.from
    ∷ e.id.to
    ∷ e.start
    ∷ e.end
    ∷ e.text.from
    ∷ e.text.to
    ∷ direction_word e.settings.vertical
    ∷ line_word e.settings.line.line
    ∷ line_number_word e.settings.line.line
    ∷ snap_word e.settings.line.snap
    ∷ line_align_word e.settings.line.align
    ∷ position_word e.settings.position.position
    ∷ position_number_word e.settings.position.position
    ∷ position_align_word e.settings.position.align
    ∷ e.settings.size
    ∷ align_word e.settings.align
    ∷ others

-- the row of a cue that has these lines
abbrev pub cue_words : CueEntry → LineSpan → List ℕ
cue_words e lines = cue_words_with (region_word e.region ∷ lines.first ∷ lines.count ∷ []) e

-- the row of a new cue, which is lent for a replacement: with the name of its region, a part of the text lent with it, for the region's index,
-- and two words that no definition looks at
abbrev pub new_cue_words : CueEntry → Span → List ℕ
new_cue_words e name = cue_words_with (name.from ∷ name.to ∷ 0 ∷ 0 ∷ []) e

-- the row of a region
abbrev pub region_words : Region → List ℕ
region_words r =
    r.id.from
    ∷ r.id.to
    ∷ r.settings.width
    ∷ r.settings.lines
    ∷ r.settings.anchor.x
    ∷ r.settings.anchor.y
    ∷ r.settings.viewport.x
    ∷ r.settings.viewport.y
    ∷ scroll_word r.settings.scroll
    ∷ []

-- the row of a style text
abbrev pub style_words : Span → List ℕ
style_words t = t.from ∷ t.to ∷ []

-- the word of a row at a place
abbrev pub word : ℕ → List ℕ → ℕ
word i row = get_or row i 0

-- "each coded choice is one of those named"
unfoldable pub cue_codes_named : List ℕ → Bool
cue_codes_named w =
    ltb (word 6 w) 3
    && (ltb (word 7 w) 3
    && (ltb (word 9 w) 2
    && (ltb (word 10 w) 3 && (ltb (word 11 w) 2 && (ltb (word 13 w) 4 && ltb (word 15 w) 5)))))

unfoldable pub region_codes_named : List ℕ → Bool
region_codes_named w = ltb (word 8 w) 2

-- the choice that a word names; one that names none is not asked for
abbrev pub direction_of : ℕ → Direction
direction_of n = cond (eqb n 0) Direction.Horizontal (cond (eqb n 1) Direction.Rl Direction.Lr)

-- "Minus zero is 0."
abbrev pub line_of : ℕ → ℕ → Line
line_of n number = cond (eqb n 0) Line.Auto (Line.At (eqb n 2 && ltb 0 number) number)

abbrev pub line_align_of : ℕ → LineAlign
line_align_of n = cond (eqb n 0) LineAlign.Start (cond (eqb n 1) LineAlign.Center LineAlign.End)

abbrev pub position_of : ℕ → ℕ → Position
position_of n number = cond (eqb n 0) Position.Auto (Position.At number)

abbrev pub position_align_of : ℕ → PositionAlign
position_align_of n =
    cond (eqb n 0) PositionAlign.Auto
    (cond (eqb n 1) PositionAlign.LineLeft (cond (eqb n 2) PositionAlign.Center PositionAlign.LineRight))

abbrev pub align_of : ℕ → Align
align_of n =
    cond (eqb n 0) Align.Start
    (cond (eqb n 1) Align.Center (cond (eqb n 2) Align.End (cond (eqb n 3) Align.Left Align.Right)))

abbrev pub region_index_of : ℕ → Option ℕ
region_index_of n = cond (eqb n 0) None (Some (n - 1))

abbrev pub scroll_of : ℕ → Scroll
scroll_of n = cond (eqb n 0) Scroll.None Scroll.Up

-- the choice that a word names, of so many; none where it names none
abbrev pub named : {A : Type 0} → ℕ → (ℕ → A) → ℕ → Result A Unnamed
named count of n = cond (ltb n count) (Ok (of n)) (Err (record {}))

-- what a cue's row says, but that its region is this one
abbrev pub cue_entry_with : Option ℕ → List ℕ → CueEntry
cue_entry_with region w =
    record {
      id = record { from = word 0 w; to = word 1 w };
      start = word 2 w;
      end = word 3 w;
      text = record { from = word 4 w; to = word 5 w };
      settings = record {
        vertical = direction_of (word 6 w);
        line = record { line = line_of (word 7 w) (word 8 w); snap = eqb (word 9 w) 0; align = line_align_of (word 10 w) };
        position = record { position = position_of (word 11 w) (word 12 w); align = position_align_of (word 13 w) };
        size = word 14 w;
        align = align_of (word 15 w);
      };
      region = region;
    }

-- what a cue's row says, and what it says of the cue's lines
abbrev pub cue_entry : List ℕ → CueEntry
cue_entry w = cue_entry_with (region_index_of (word 16 w)) w

abbrev pub cue_span : List ℕ → LineSpan
cue_span w = record { first = word 17 w; count = word 18 w }

-- what a new cue's row says: the cue, with no region, and the region's name
abbrev pub new_cue_entry : List ℕ → CueEntry
new_cue_entry w = cue_entry_with None w

abbrev pub new_cue_name : List ℕ → Span
new_cue_name w = record { from = word 16 w; to = word 17 w }

-- what a region's row says
abbrev pub region_entry : List ℕ → Region
region_entry w =
    record {
      id = record { from = word 0 w; to = word 1 w };
      settings =
          record {
            width = word 2 w;
            lines = word 3 w;
            anchor = record { x = word 4 w; y = word 5 w };
            viewport = record { x = word 6 w; y = word 7 w };
            scroll = scroll_of (word 8 w);
          };
    }

-- what a style's row says
abbrev pub style_entry : List ℕ → Span
style_entry w = record { from = word 0 w; to = word 1 w }

-- the regions' identifiers, in their order
unfoldable pub ids : List RegionValues → List (List ℕ)
ids [] = []
ids (r ∷ rs) = r.id.bytes ∷ ids rs

-- the region that a cue asks for by this name, in this list; an empty name asks for none
unfoldable pub region_for : List RegionValues → Part → Option ℕ
region_for rs name = cond (is_empty name.bytes) None (last_named 0 name.bytes (ids rs))

-- a cue of a file with these regions, as it stands in the table
unfoldable pub entry_is : List RegionValues → Cue → CueEntry
entry_is rs c =
    record {
      id = span_is c.id;
      start = c.start;
      end = c.end;
      text = span_is c.text;
      settings = c.settings;
      region = (region_for rs c.region);
    }

-- the tables' rows for lists; each cue has its lines, and there are as many of these as cues
unfoldable pub cue_rows : List RegionValues → List Cue → List LineSpan → List (List ℕ)
cue_rows rs [] ls = []
cue_rows rs (c ∷ cs) [] = []
cue_rows rs (c ∷ cs) (l ∷ ls) = cue_words (entry_is rs c) l ∷ cue_rows rs cs ls

unfoldable pub region_rows : List RegionValues → List (List ℕ)
region_rows rs = map (λ r. region_words (region_is r)) rs

unfoldable pub style_rows : List Part → List (List ℕ)
style_rows ts = map (λ t. style_words (span_is t)) ts

-- the rows of the cues of a text
unfoldable pub stored_cues : List ℕ → List (List ℕ)
stored_cues s = cue_rows (lists s).regions (lists s).cues (line_spans s)
