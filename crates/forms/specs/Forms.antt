-- The written forms as the code is asked for them: of a cue with the name of its region, and of a region's lines.
use Rattle.std.specs.Prelude.{ℕ, List, ◌∷◌, ◌++◌}
use Rattle.std.specs.Prelude.{Option}
use Rattle.format.specs.Texts.{bytes_at}
use Rattle.format.specs.Bytes.{ascii}
use Rattle.format.specs.Lines.{join}
use Rattle.format.specs.Written.{decimal_in, written_percentage, written_point, written_scroll, setting, written_time, after_spaces, lines_of}
use Rattle.format.specs.declared.regions.RegionSettings.{RegionSettings}
use Rattle.format.specs.declared.rows.CueEntry.{CueEntry}
use Rattle.setting_forms.specs.Settings.{settings_form}

unfoldable pub timing_form : CueEntry → Option (List ℕ) → List ℕ
timing_form e name = written_time e.start ++ ascii " --> " ++ written_time e.end ++ after_spaces (settings_form e name)

-- one cue, without a last LF
unfoldable pub cue_form : List ℕ → CueEntry → Option (List ℕ) → List ℕ
cue_form s e name =
    join (lines_of (bytes_at s e.id.from e.id.to) ++ timing_form e name ∷ lines_of (bytes_at s e.text.from e.text.to))

-- a region's lines after its identifier
unfoldable pub number_lines : RegionSettings → List (List ℕ)
number_lines r =
    setting (ascii "width") (written_percentage r.width)
    ++ setting (ascii "lines") (decimal_in 1 r.lines)
    ++ setting (ascii "regionanchor") (written_point r.anchor)
    ++ setting (ascii "viewportanchor") (written_point r.viewport)
    ++ written_scroll r.scroll
