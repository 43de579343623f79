-- A cue's timing line: source document 000, section 6.3, "collect WebVTT cue timings and settings", by its steps.
use Rattle.std.specs.Prelude.{ℕ, ◌+◌, ◌-◌, Bool, ◌||◌, length}
use Rattle.std.specs.Prelude.{Option}
use Rattle.format.specs.Bytes.{white, hyphen, greater}
use Rattle.format.specs.Texts.{Part, past_run}
use Rattle.format.specs.Times.{Result, failed, got, value, Step, ◌>>=◌, ◌>>◌, expect, Time, timestamp, milliseconds, over_hours}
use Rattle.format.specs.CueSettings.{CueSettings, cue_settings}
use Rattle.format.specs.Tokens.{Flagged}
use Rattle.format.specs.declared.settings.Settings.{Settings}

-- 3, 5, 9: skip whitespace
abbrev pub skip_white : Step Unit
skip_white s = got tt (past_run white s)

-- 6, 7, 8
unfoldable pub arrow : Step Unit
arrow = do
  expect hyphen
  expect hyphen
  expect greater

pub record Times : Type 0 where
  pub start : Time
  pub end : Time

-- 5 to 10
unfoldable pub arrow_and_end : Step Time
arrow_and_end = do
  skip_white
  arrow
  skip_white
  timestamp

-- 3 to 10
unfoldable pub timings : Step Times
timings = do
  skip_white
  start ← timestamp
  end ← arrow_and_end
  got (record { start = start; end = end })

pub record Timing : Type 0 where
  pub start : ℕ
  pub end : ℕ
  pub settings : Settings
  -- the name of the region that was asked for
  pub region : Part
  pub over : Bool

-- 11, 12: the settings are read from what is left, whatever stands there
unfoldable pub with_settings : Times → Flagged CueSettings → Timing
with_settings t s =
    record {
      start = milliseconds t.start;
      end = milliseconds t.end;
      settings = s.value.settings;
      region = s.value.region;
      over = over_hours t.start || over_hours t.end || s.over;
    }

unfoldable pub timing_of : Part → Result Times → Result Timing
timing_of line (failed f rest) = failed f rest
timing_of line (got t rest) =
    got (with_settings t (cue_settings (record { place = line.place + (length line.bytes - length rest); bytes = rest }))) rest

-- the line, with the step that fails told: the settings never do, and what is left is what comes after the times
unfoldable pub timed_line : Part → Result Timing
timed_line line = timing_of line (timings line.bytes)

unfoldable pub timing_line : Part → Option Timing
timing_line line = value (timed_line line)
