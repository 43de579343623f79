-- The counts of lists, item by item, and what the first pass over a text answers.
use Rattle.std.specs.Prelude.{ℕ, ◌+◌, ◌≡◌, true, false, cond, List, ltb, length}
use Rattle.format.specs.Limits.{max_text}
use Rattle.format.specs.Plain.{first_not_plain}
use Rattle.format.specs.Blocks.{has_signature}
use Rattle.format.specs.Lists as Format
use Rattle.std.specs.Prelude.{Result, Ok, Err}
use Rattle.format.specs.Answers.{Answer, answered}
use Rattle.format.specs.Reading.{text_error, lists_error, counts_told, reading}
use Rattle.format.specs.declared.Counts.{Counts}
use Rattle.format.specs.declared.errors.OverLimit.{OverLimit}
use Rattle.format.specs.declared.errors.TextError.{TextError}
use Rattle.format.specs.declared.errors.ListsError.{ListsError}
use Rattle.blocks.specs.declared.items.Item.{Item}
use Rattle.blocks.specs.declared.items.ItemKind.{ItemKind}
use Rattle.blocks.specs.Items.{kind_is}

abbrev pub with_kind : ItemKind → Counts → Counts
with_kind ItemKind.Nothing n = n
with_kind ItemKind.Over n = n
with_kind ItemKind.Cue n = record { cues = n.cues + 1; regions = n.regions; styles = n.styles }
with_kind ItemKind.Style n = record { cues = n.cues; regions = n.regions; styles = n.styles + 1 }
with_kind ItemKind.Region n = record { cues = n.cues; regions = n.regions + 1; styles = n.styles }

abbrev pub with_item : Item → Counts → Counts
with_item i n = with_kind (kind_is i) n

-- with these counts so far, what the items to come give
unfoldable pub tally_with : Counts → List Format.Item → Result Counts OverLimit
tally_with n is =
    cond (Format.any_over is) (Err (record {}))
    (Ok
    (record {
      cues = n.cues + length (Format.listed is).cues;
      regions = n.regions + length (Format.listed is).regions;
      styles = n.styles + length (Format.listed is).styles;
    }))

abbrev pub tally_is : List Format.Item → Result Counts OverLimit
tally_is is = tally_with (record { cues = 0; regions = 0; styles = 0 }) is

-- a text that is refused by no number but 6, with the counts of its lists
pub record Readable (s : List ℕ) (n : Counts) : Type 0 where
  pub size : ltb max_text (length s) ≡ false
  pub plain : ltb (first_not_plain s) (length s) ≡ false
  pub signature : has_signature s ≡ true
  pub within : Format.any_over (Format.items s) ≡ false
  pub cues_are : n.cues ≡ length (Format.lists s).cues
  pub regions_are : n.regions ≡ length (Format.lists s).regions
  pub styles_are : n.styles ≡ length (Format.lists s).styles

-- refused whatever the tables' lengths
abbrev pub Refused : List ℕ → Answer → Type 0
Refused s a = (cues regions styles : ℕ) → reading s cues regions styles ≡ a

abbrev pub MeasuredIs : List ℕ → Result Counts TextError → Type 0
MeasuredIs s (Ok n) = Readable s n
MeasuredIs s (Err e) = Refused s (text_error e)

-- what reading a plain text into the tables answers
abbrev pub plain_reading_is : Result Counts ListsError → Answer
plain_reading_is = answered counts_told lists_error
