-- What the names of a cue's settings and the words after a value's comma mean.
use Rattle.std.specs.Prelude.{ℕ, cond, List}
use Rattle.std.specs.Prelude.{Option, None, Some}
use Rattle.format.specs.Bytes.{ascii}
use Rattle.format.specs.Texts.{same}
use Rattle.format.specs.declared.settings.LineAlign.{LineAlign}
use Rattle.format.specs.declared.settings.PositionAlign.{PositionAlign}
use Rattle.setting_words.specs.declared.CueName.{CueName}

-- one setting by its name; a name that no setting has is `Other`
abbrev pub cue_name_is : List ℕ → CueName
cue_name_is n =
    cond (same n (ascii "region")) CueName.Region
    (cond (same n (ascii "vertical")) CueName.Vertical
    (cond (same n (ascii "line")) CueName.Line
    (cond (same n (ascii "position")) CueName.Position
    (cond (same n (ascii "size")) CueName.Size (cond (same n (ascii "align")) CueName.Align CueName.Other)))))

abbrev pub line_word : List ℕ → Option LineAlign
line_word n =
    cond (same n (ascii "start")) (Some LineAlign.Start)
    (cond (same n (ascii "center")) (Some LineAlign.Center) (cond (same n (ascii "end")) (Some LineAlign.End) None))

abbrev pub position_word : List ℕ → Option PositionAlign
position_word n =
    cond (same n (ascii "line-left")) (Some PositionAlign.LineLeft)
    (cond (same n (ascii "center")) (Some PositionAlign.Center)
    (cond (same n (ascii "line-right")) (Some PositionAlign.LineRight) None))
