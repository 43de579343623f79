-- A timing line as the code holds it. `proofs/LineLaws.antt` proves that this is what `format` says.
use Rattle.std.specs.Prelude.{ℕ, ◌-◌, Bool, cond, ◌||◌, List, length}
use Rattle.format.specs.Texts.{Part}
use Rattle.format.specs.Times.{Result, failed, got, milliseconds, over_hours}
use Rattle.format.specs.TellingTimes.{place_of}
use Rattle.format.specs.CueSettings.{span_is, cue_settings}
use Rattle.format.specs.TimingLines as Format
use Rattle.values.specs.Tokens.{token_from}
use Rattle.format.specs.declared.times.Stamp.{Stamp}
use Rattle.timing.specs.declared.timing_line.ArrowEnd.{ArrowEnd}
use Rattle.timing.specs.declared.timing_line.Times.{Times}
use Rattle.timing.specs.declared.timing_line.LineKind.{LineKind}
use Rattle.format.specs.declared.times.TimingLine.{TimingLine}

-- n being the text's length
abbrev pub arrow_is : ℕ → Result Unit → ArrowEnd
arrow_is n (failed f rest) = ArrowEnd.Bad f (place_of n rest)
arrow_is n (got u rest) = ArrowEnd.At (place_of n rest)

-- both times, the start time having hours above the limit or not
abbrev pub both_is : Bool → ℕ → Stamp → Times
both_is over start (Stamp.Bad f at) = Times.Bad f at
both_is over start (Stamp.Over next) = Times.Over
both_is over start (Stamp.At ms next) = cond over Times.Over (Times.Good start ms next)

abbrev pub times_is : ℕ → Result Format.Times → Times
times_is n (failed f rest) = Times.Bad f (place_of n rest)
times_is n (got t rest) =
    cond (over_hours t.start || over_hours t.end) Times.Over (Times.Good (milliseconds t.start) (milliseconds t.end) (place_of n rest))

-- the line from a place on, whose times end at another
abbrev pub with_settings_is : List ℕ → ℕ → ℕ → ℕ → ℕ → TimingLine
with_settings_is s from start end at =
    cond (cue_settings (token_from s at)).over TimingLine.Over
    (TimingLine.Good (record { start = start; end = end; settings = (cue_settings (token_from s at)).value.settings; region = span_is (cue_settings (token_from s at)).value.region; next = at - from }))

-- the line from a place on, by its times
abbrev pub line_from : List ℕ → ℕ → Times → TimingLine
line_from s from (Times.Bad f at) = TimingLine.Bad f (at - from)
line_from s from Times.Over = TimingLine.Over
line_from s from (Times.Good start end next) = with_settings_is s from start end next

-- n being the line's length
abbrev pub timing_line_is : ℕ → Result Format.Timing → TimingLine
timing_line_is n (failed f rest) = TimingLine.Bad f (place_of n rest)
timing_line_is n (got t rest) =
    cond t.over TimingLine.Over (TimingLine.Good (record { start = t.start; end = t.end; settings = t.settings; region = span_is t.region; next = place_of n rest }))

unfoldable pub timed_line_is : Part → TimingLine
timed_line_is line = timing_line_is (length line.bytes) (Format.timed_line line)

abbrev pub line_kind : TimingLine → LineKind
line_kind (TimingLine.Bad f at) = LineKind.Bad
line_kind TimingLine.Over = LineKind.Over
line_kind (TimingLine.Good t) = LineKind.Good
