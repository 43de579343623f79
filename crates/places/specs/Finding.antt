-- What the walk over a text's blocks finds, block by block and at its end.
use Rattle.std.specs.Prelude.{ℕ, ◌+◌, ◌≤◌, ◌<◌, ◌≡◌, Bool, true, false, cond, ◌||◌, List, eqb, length}
use Rattle.format.specs.Texts.{same, bytes_at}
use Rattle.format.specs.RegionSettings.{last_named}
use Rattle.format.specs.Blocks.{has_signature}
use Rattle.format.specs.Lists.{items, lists, any_over}
use Rattle.format.specs.Replacing.{is_there, region_names}
use Rattle.format.specs.declared.settings.Span.{Span}
use Rattle.blocks.specs.declared.items.Item.{Item}
use Rattle.blocks.specs.declared.items.ItemKind.{ItemKind}
use Rattle.blocks.specs.Items.{kind_is}
use Rattle.places.specs.Places.{OwnLines}
use Rattle.places.specs.declared.inner.finding.Found.{Found}
use Rattle.std.specs.Prelude.{Option, None, Some, Result, Ok, Err}
use Rattle.format.specs.declared.errors.TextError.{TextError}
use Rattle.blocks.specs.declared.collecting.Block.{Block}

-- is the part of a text at these places this name
abbrev pub has_name : List ℕ → Span → List ℕ → Bool
has_name s id name = same (bytes_at s id.from id.to) name

-- is the item a region of this name
abbrev pub item_named : List ℕ → List ℕ → Item → Bool
item_named s name Item.Nothing = false
item_named s name Item.Over = false
item_named s name (Item.Cue c) = false
item_named s name (Item.Style t) = false
item_named s name (Item.Region r) = has_name s r.id name

-- from a block's first byte up to the end of its last line
abbrev pub lines_of : Block → Span
lines_of b = record { from = b.from; to = b.stop.to }

-- one block more, which gives an item of this kind, has these lines, and is a region of the name asked for or not
abbrev pub with_kind : ItemKind → Bool → ℕ → Span → Found → Found
with_kind ItemKind.Nothing named number lines f = f
with_kind ItemKind.Over named number lines f = f
with_kind ItemKind.Cue named number lines f =
    record { cues = f.cues + 1; own = cond (eqb f.cues number) (Some lines) f.own; named = f.named }
with_kind ItemKind.Style named number lines f = f
with_kind ItemKind.Region named number lines f = record { cues = f.cues; own = f.own; named = f.named || named }

-- one block more, which gives this item and has these lines
abbrev pub with_item : List ℕ → ℕ → List ℕ → Item → Span → Found → Found
with_item s number name i lines f = with_kind (kind_is i) (item_named s name i) number lines f

-- the lines of the cue asked for, where so many cues were passed over: none before it
abbrev pub OwnIn : List ℕ → ℕ → ℕ → Option Span → Type 0
OwnIn s number cues None = cues ≤ number
OwnIn s number cues (Some lines) = (number < cues) × OwnLines s number lines.from lines.to

-- what was found in the whole of a readable text
pub record FoundIn (s : List ℕ) (number : ℕ) (name : List ℕ) (f : Found) : Type 0 where
  pub signature : has_signature s ≡ true
  pub within : any_over (items s) ≡ false
  pub counted : f.cues ≡ length (lists s).cues
  pub own : OwnIn s number f.cues f.own
  pub named : f.named ≡ is_there (last_named 0 name (region_names s))

-- what the walk's answer says of the text
abbrev pub SurveyedIs : List ℕ → ℕ → List ℕ → Result Found TextError → Type 0
SurveyedIs s number name (Ok f) = FoundIn s number name f
SurveyedIs s number name (Err TextError.NoSignature) = has_signature s ≡ false
SurveyedIs s number name (Err TextError.OverLimit) = (has_signature s ≡ true) × (any_over (items s) ≡ true)
