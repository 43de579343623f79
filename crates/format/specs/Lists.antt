-- What a block means, and the lists of a plain text: document 01 "Blocks". The numbers are the steps of source document 000, section 6.1;
-- those that begin with 11 and a full stop are of "collect a WebVTT block".
use Rattle.std.specs.Prelude.{ℕ, Bool, true, false, cond, ◌&&◌, ◌||◌, List, [], ◌∷◌, length, drop}
use Rattle.std.specs.Prelude.{Option, None, Some}
use Rattle.format.specs.Bytes.{ascii, white}
use Rattle.format.specs.Texts.{starts_with, all, Part, empty_part}
use Rattle.format.specs.declared.settings.Settings.{Settings}
use Rattle.format.specs.Tokens.{Flagged}
use Rattle.format.specs.RegionSettings.{RegionValues, region_settings}
use Rattle.format.specs.TimingLines.{Timing, timing_line}
use Rattle.format.specs.Blocks.{Line, line_part, holds_arrow, joined, blocks}

pub record Cue : Type 0 where
  pub id : Part
  pub start : ℕ
  pub end : ℕ
  pub settings : Settings
  -- the name of the region that was asked for
  pub region : Part
  pub text : Part

-- what a block gives
pub data Item : Type 0 where
  nothing : Item
  cue : (c : Cue) (over : Bool) → Item
  style : (text : Part) → Item
  region : (r : RegionValues) (over : Bool) → Item

-- 11.4.1.3, 11.4.1.4: the cue of a timing line with its identifier and the lines after it; "if the timing line fails, the block gives no cue"
unfoldable pub cue_of : Part → List Line → Option Timing → Item
cue_of id ls None = nothing
cue_of id ls (Some t) =
    cue (record { id = id; start = t.start; end = t.end; settings = t.settings; region = t.region; text = joined ls }) t.over

-- 11.6.1: the region of a REGION block
unfoldable pub region_of : Flagged RegionValues → Item
region_of t = region t.value t.over

-- a word, "only ASCII whitespace after it"
unfoldable pub is_word : List ℕ → List ℕ → Bool
is_word word l = starts_with word l && all white (drop (length word) l)

-- 11.6.1: a block without a timing line, of a first line and others: "STYLE or REGION … on line 1, with a non-empty line 2 without `-->`,
-- … but only while no cue has succeeded"
unfoldable pub definition : Bool → Line → List Line → Item
definition seen first ls =
    cond seen nothing
    (cond (is_word (ascii "STYLE") first.bytes) (style (joined ls))
    (cond (is_word (ascii "REGION") first.bytes) (region_of (region_settings (joined ls))) nothing))

-- a block, given whether a cue has succeeded before it
unfoldable pub meaning : Bool → List Line → Item
meaning seen [] = nothing
meaning seen (first ∷ []) = cond (holds_arrow first.bytes) (cue_of empty_part [] (timing_line (line_part first))) nothing
meaning seen (first ∷ (second ∷ ls)) =
    cond (holds_arrow first.bytes) (cue_of empty_part (second ∷ ls) (timing_line (line_part first)))
    (cond (holds_arrow second.bytes) (cue_of (line_part first) ls (timing_line (line_part second))) (definition seen first (second ∷ ls)))

unfoldable pub is_cue : Item → Bool
is_cue nothing = false
is_cue (cue c over) = true
is_cue (style text) = false
is_cue (region r over) = false

-- 14: what the blocks give, one after the other
unfoldable pub items_from : Bool → List (List Line) → List Item
items_from seen [] = []
items_from seen (b ∷ bs) = meaning seen b ∷ items_from (seen || is_cue (meaning seen b)) bs

unfoldable pub items : List ℕ → List Item
items s = items_from false (blocks s)

pub record Lists : Type 0 where
  pub cues : List Cue
  pub regions : List RegionValues
  pub styles : List Part

-- an item before lists
unfoldable pub into : Item → Lists → Lists
into nothing l = l
into (cue c over) l = record { cues = c ∷ l.cues; regions = l.regions; styles = l.styles }
into (style text) l = record { cues = l.cues; regions = l.regions; styles = text ∷ l.styles }
into (region r over) l = record { cues = l.cues; regions = r ∷ l.regions; styles = l.styles }

unfoldable pub listed : List Item → Lists
listed [] = record { cues = []; regions = []; styles = [] }
listed (i ∷ is) = into i (listed is)

-- the lists of a plain text
unfoldable pub lists : List ℕ → Lists
lists s = listed (items s)

unfoldable pub item_over : Item → Bool
item_over nothing = false
item_over (cue c over) = over
item_over (style text) = false
item_over (region r over) = over

-- is a number of the text above its limit
unfoldable pub any_over : List Item → Bool
any_over [] = false
any_over (i ∷ is) = item_over i || any_over is
