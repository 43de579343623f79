-- A collected block by its places, and what it means. `proofs/BlockLaws.antt` proves that this is what `format` says.
use Rattle.std.specs.Prelude.{ℕ, ◌+◌, ◌-◌, ◌≤◌, ◌<◌, ◌≡◌, Bool, true, false, cond, List, [], ◌∷◌, eqb, length, take, drop}
use Rattle.std.specs.Prelude.{Option, None, Some}
use Rattle.format.specs.Bytes.{ascii}
use Rattle.format.specs.Texts.{Part, empty_part}
use Rattle.format.specs.RegionSettings.{region_settings, region_is}
use Rattle.format.specs.TimingLines.{Timing, timing_line}
use Rattle.format.specs.Lines.{split}
use Rattle.format.specs.Blocks.{Line, between, blocks_from, bytes_of}
use Rattle.format.specs.CueSettings.{span_is, no_span}
use Rattle.format.specs.Lists.{Cue, Item, nothing, cue, style, region, region_of, is_word, meaning}
use Rattle.format.specs.LineNumbers.{first_number}
use Rattle.format.specs.declared.settings.Span.{Span}
use Rattle.values.specs.Tokens.{span_to}
use Rattle.timing.specs.declared.timing_line.LineKind.{LineKind}
use Rattle.format.specs.declared.times.TimingLine.{TimingLine}
use Rattle.regions.specs.declared.RegionTaken.{RegionTaken}
use Rattle.blocks.specs.Collecting.{line_ends, lines_from, is_end, WhyIs}
use Rattle.blocks.specs.declared.collecting.Block.{Block}
use Rattle.blocks.specs.declared.items.CueRead.{CueRead}
use Rattle.blocks.specs.declared.items.ItemKind.{ItemKind}
use Rattle.blocks.specs.declared.items.Item as Made
use Rattle.blocks.specs.declared.items.Item.TheVariants as Read

-- the part of a text from one place up to another
abbrev pub part : List ℕ → ℕ → ℕ → Part
part s from to = record { place = from; bytes = take (to - from) (drop from s) }

-- the lines after one that ends at e, up to the block's end
abbrev pub after_line_end : List ℕ → ℕ → ℕ → Part
after_line_end s e to = cond (eqb e to) empty_part (part s (e + 1) to)

abbrev pub cue_with : Part → Part → Option Timing → Item
cue_with id text None = nothing
cue_with id text (Some t) =
    cue (record { id = id; start = t.start; end = t.end; settings = t.settings; region = t.region; text = text }) t.over

abbrev pub definition_with : Bool → List ℕ → Part → Item
definition_with seen first text =
    cond seen nothing
    (cond (is_word (ascii "STYLE") first) (style text)
    (cond (is_word (ascii "REGION") first) (region_of (region_settings text)) nothing))

-- the identifier and the timing line of a block that has one
abbrev pub id_part : List ℕ → Block → Part
id_part s b = cond (eqb b.stop.head.first b.stop.head.end) empty_part (part s b.from b.stop.head.first)

abbrev pub timing_part : List ℕ → Block → Part
timing_part s b =
    cond (eqb b.stop.head.first b.stop.head.end) (part s b.from b.stop.head.end) (part s (b.stop.head.first + 1) b.stop.head.end)

-- what a block means, given whether a cue has succeeded
unfoldable pub meaning_at : Bool → List ℕ → Block → Item
meaning_at seen s b =
    cond b.stop.head.timed
    (cue_with (id_part s b) (after_line_end s b.stop.head.end b.stop.to) (timing_line (timing_part s b)))
    (cond (eqb b.stop.head.first b.stop.to) nothing
    (definition_with seen (part s b.from b.stop.head.first).bytes (after_line_end s b.stop.head.first b.stop.to)))

-- the places of a block stand in the text, in their order
abbrev pub PlacesIn : List ℕ → Block → Type 0
PlacesIn s b =
    (b.from < b.stop.head.first) × (b.stop.head.first ≤ b.stop.head.end) × (b.stop.head.end ≤ b.stop.to) × (b.stop.to ≤ length s)

-- a line that is no word which opens a block without a timing line
abbrev pub NoWord : List ℕ → Type 0
NoWord line = (is_word (ascii "STYLE") line ≡ false) × (is_word (ascii "REGION") line ≡ false)

-- whether a cue has succeeded or not, the block gives nothing
abbrev pub GivesNothing : List ℕ → Block → Type 0
GivesNothing s b = (seen : Bool) → meaning_at seen s b ≡ nothing

-- a block of the text, and those after it
pub record BlockAt (s : List ℕ) (b : Block) : Type 0 where
  pub lines : List Line
  pub divides : blocks_from between (lines_from s b.from) ≡ lines ∷ blocks_from between (lines_from s b.stop.at)
  pub meant : (seen : Bool) → meaning seen lines ≡ meaning_at seen s b
  pub begins : first_number lines ≡ line_ends (take b.from s)
  pub covers : split (part s b.from b.stop.to).bytes ≡ bytes_of lines
  pub counted : b.stop.lines ≡ length lines
  pub numbers : is_end b.stop.why ≡ false → line_ends (take b.stop.at s) ≡ line_ends (take b.from s) + b.stop.lines
  pub starts : b.from < b.stop.head.first
  pub first_end_lem : b.stop.head.first ≤ b.stop.head.end
  pub end_to : b.stop.head.end ≤ b.stop.to
  pub to_at : b.stop.to ≤ b.stop.at
  pub inside : b.stop.at ≤ length s

-- the block that was found at a place or after it
pub record NextAt (s : List ℕ) (at : ℕ) (b : Block) : Type 0 where
  pub skipped : at ≤ b.from
  pub empties : line_ends (take b.from s) + at ≡ line_ends (take at s) + b.from
  pub same : blocks_from between (lines_from s at) ≡ blocks_from between (lines_from s b.from)
  pub block : BlockAt s b
  pub stopped : WhyIs s b.stop.why b.stop.at

abbrev pub NextIs : List ℕ → ℕ → Option Block → Type 0
NextIs s at None = blocks_from between (lines_from s at) ≡ []
NextIs s at (Some b) = NextAt s at b

-- what a block gives, as the code holds it
abbrev pub cue_is : Cue → CueRead
cue_is c = record { id = span_is c.id; start = c.start; end = c.end; settings = c.settings; region = span_is c.region; text = span_is c.text }

abbrev pub item_is : Item → Made.Item
item_is nothing = Read.Nothing
item_is (cue c over) = cond over Read.Over (Read.Cue (cue_is c))
item_is (style text) = Read.Style (span_is text)
item_is (region r over) = cond over Read.Over (Read.Region (region_is r))

abbrev pub kind_is : Made.Item → ItemKind
kind_is Read.Nothing = ItemKind.Nothing
kind_is Read.Over = ItemKind.Over
kind_is (Read.Cue c) = ItemKind.Cue
kind_is (Read.Style t) = ItemKind.Style
kind_is (Read.Region r) = ItemKind.Region

-- is it a cue or a region with a number above its limit
abbrev pub kind_over : ItemKind → Bool
kind_over ItemKind.Nothing = false
kind_over ItemKind.Over = true
kind_over ItemKind.Cue = false
kind_over ItemKind.Style = false
kind_over ItemKind.Region = false

abbrev pub after_span : ℕ → ℕ → Span
after_span e to = cond (eqb e to) no_span (span_to (e + 1) to)

abbrev pub timed_is : Span → Span → TimingLine → Made.Item
timed_is id text (TimingLine.Bad f at) = Read.Nothing
timed_is id text TimingLine.Over = Read.Over
timed_is id text (TimingLine.Good t) =
    Read.Cue (record { id = id; start = t.start; end = t.end; settings = t.settings; region = t.region; text = text })

abbrev pub timed_kind : LineKind → ItemKind
timed_kind LineKind.Bad = ItemKind.Nothing
timed_kind LineKind.Over = ItemKind.Over
timed_kind LineKind.Good = ItemKind.Cue

abbrev pub region_item : RegionTaken → Made.Item
region_item t = cond t.over Read.Over (Read.Region t.region)

abbrev pub definition_is : Bool → List ℕ → Part → Made.Item
definition_is seen first text = item_is (definition_with seen first text)
