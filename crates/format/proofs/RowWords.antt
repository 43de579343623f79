-- The order of a row's words, which callers in any language rely on: entries whose words differ from each other, and their rows, word by word.
use Prim.Native.Nat.{ℕ}
use mathlib.Core.Path.{◌≡◌, refl}
use mathlib.Core.Bool.{false}
use mathlib.Core.List.{List, [], ◌∷◌}
use Rattle.std.specs.Prelude.{Some}
use Rattle.format.specs.Bytes.{ascii}
use Rattle.format.specs.Rows.{cue_words, new_cue_words, region_words, style_words, cue_entry, cue_span, new_cue_name, region_entry, style_entry}
use Rattle.format.specs.Trees.{Node, parent_word, place_words, node_words}
use Rattle.format.specs.declared.kinds.NodeKind.TheVariants as NodeKind
use Rattle.format.specs.declared.settings.Span.{Span}
use Rattle.format.specs.declared.settings.Direction.TheVariants as Direction
use Rattle.format.specs.declared.settings.Line.TheVariants as Line
use Rattle.format.specs.declared.settings.LineAlign.TheVariants as LineAlign
use Rattle.format.specs.declared.settings.Position.TheVariants as Position
use Rattle.format.specs.declared.settings.PositionAlign.TheVariants as PositionAlign
use Rattle.format.specs.declared.settings.Align.TheVariants as Align
use Rattle.format.specs.declared.regions.Scroll.TheVariants as Scroll
use Rattle.format.specs.declared.regions.Region.{Region}
use Rattle.format.specs.declared.rows.CueEntry.{CueEntry}
use Rattle.format.specs.declared.rows.LineSpan.{LineSpan}

abbrev cue_example : CueEntry
cue_example =
    record {
      id = record { from = 10; to = 20 };
      start = 30;
      end = 40;
      text = record { from = 50; to = 60 };
      settings = record {
        vertical = Direction.Lr;
        line = record { line = Line.At false 70; snap = false; align = LineAlign.End };
        position = record { position = Position.At 80; align = PositionAlign.LineRight };
        size = 90;
        align = Align.Right;
      };
      region = Some 4;
    }

abbrev lines_example : LineSpan
lines_example = record { first = 6; count = 7 }

abbrev cue_row_example : List ℕ
cue_row_example = 10 ∷ 20 ∷ 30 ∷ 40 ∷ 50 ∷ 60 ∷ 2 ∷ 1 ∷ 70 ∷ 1 ∷ 2 ∷ 1 ∷ 80 ∷ 3 ∷ 90 ∷ 4 ∷ 5 ∷ 6 ∷ 7 ∷ []

abbrev name_example : Span
name_example = record { from = 100; to = 110 }

abbrev new_cue_row_example : List ℕ
new_cue_row_example = 10 ∷ 20 ∷ 30 ∷ 40 ∷ 50 ∷ 60 ∷ 2 ∷ 1 ∷ 70 ∷ 1 ∷ 2 ∷ 1 ∷ 80 ∷ 3 ∷ 90 ∷ 4 ∷ 100 ∷ 110 ∷ 0 ∷ 0 ∷ []

abbrev region_example : Region
region_example =
    record {
      id = record { from = 10; to = 20 };
      settings =
          record { width = 30; lines = 40; anchor = record { x = 50; y = 60 }; viewport = record { x = 70; y = 80 }; scroll = Scroll.Up };
    }

abbrev region_row_example : List ℕ
region_row_example = 10 ∷ 20 ∷ 30 ∷ 40 ∷ 50 ∷ 60 ∷ 70 ∷ 80 ∷ 1 ∷ []

abbrev node_example : Node
node_example = record { parent = Some 3; kind = NodeKind.Voice; classes = ascii "ab"; value = ascii "cde"; time = 0 }

-- each entry is coded as its row, and its row is decoded as it
pub record RowsHold : Type 0 where
  pub cue : (cue_words cue_example lines_example ≡ cue_row_example) × (cue_entry cue_row_example ≡ cue_example) × (cue_span cue_row_example ≡ lines_example)
  pub new_cue : (new_cue_words cue_example name_example ≡ new_cue_row_example) × (new_cue_name new_cue_row_example ≡ name_example)
  pub region : (region_words region_example ≡ region_row_example) × (region_entry region_row_example ≡ region_example)
  pub style : (style_words name_example ≡ 100 ∷ 110 ∷ []) × (style_entry (100 ∷ 110 ∷ []) ≡ name_example)
  pub node : node_words 10 node_example ≡ 4 ∷ 6 ∷ 10 ∷ 12 ∷ 12 ∷ 15 ∷ 0 ∷ []

pub rows_hold : RowsHold
unfolding node_words parent_word place_words
rows_hold = record { cue = (refl, refl, refl); new_cue = (refl, refl); region = (refl, refl); style = (refl, refl); node = refl }
