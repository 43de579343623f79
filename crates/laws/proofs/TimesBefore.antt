-- A time, a timing line and a timestamp tag as they were defined before a failed step was told (request Q-5 of document 02), word for word: a step
-- fails and says nothing of it. `TimesUnchanged` proves that what they give is what they gave.
use Prim.Native.Nat.{ℕ, ◌+◌, ◌-◌}
use mathlib.Core.Bool.{Bool, cond, not, ◌||◌}
use mathlib.Core.List.{List, [], ◌∷◌}
use Rattle.std.specs.Prelude.{Option, None, Some}
use lib.Dec.{eqb}
use lib.ListN.{length}
use Rattle.format.specs.Bytes.{digit, white, colon, full_stop, hyphen, greater}
use Rattle.format.specs.Texts.{Part, starts_with, is_empty, run, past_run}
use Rattle.format.specs.Numbers.{number}
use Rattle.format.specs.Times.{Time, hours_first, in_range}
use Rattle.format.specs.CueSettings.{cue_settings}
use Rattle.format.specs.TimingLines.{Times, Timing, with_settings}

-- what a step comes to: a failure, or a value with what is left of the input
pub data Result (A : Type 0) : Type 0 where
  failed : Result A
  got : A → List ℕ → Result A

unfoldable pub on_got : {A B : Type 0} → Result A → (A → List ℕ → Result B) → Result B
on_got failed f = failed
on_got (got a s) f = f a s

-- one step after another: the first that fails ends them
abbrev pub Step : Type 0 → Type 0
Step A = List ℕ → Result A

abbrev pub ◌>>=◌ : {A B : Type 0} → Step A → (A → Step B) → Step B
◌>>=◌ m f = λ s. on_got (m s) f

abbrev pub ◌>>◌ : {A B : Type 0} → Step A → Step B → Step B
◌>>◌ m n = λ s. on_got (m s) (λ a. n)

abbrev pub holds : Bool → Step Unit
holds t s = cond t (got tt s) failed

-- 3, 4: a digit stands here
abbrev pub a_digit : Step Unit
a_digit s = holds (not (is_empty (run digit s))) s

-- 5, 9, 12.2, 14: the digits that stand here
abbrev pub string : Step (List ℕ)
string s = got (run digit s) (past_run digit s)

-- 8, 12.1, 13: this character stands here, and is passed
unfoldable pub expect : ℕ → Step Unit
expect c [] = failed
expect c (b ∷ s) = cond (eqb b c) (got tt s) failed

-- 10, 12.3, 15
abbrev pub exactly : ℕ → List ℕ → Step Unit
exactly n ds = holds (eqb (length ds) n)

-- 8 to 11, 12.1 to 12.4, 13 to 16: a character, and then exactly n digits
unfoldable pub field : ℕ → ℕ → Step ℕ
field c n = do
  expect c
  ds ← string
  exactly n ds
  got (number ds)

-- 12: three values where the units are hours or another colon stands here, else two
unfoldable pub three_values : List ℕ → ℕ → Step Time
three_values first second s =
    cond (hours_first first || starts_with (colon ∷ []) s)
    (on_got (field colon 2 s)
    (λ third. got (record { hours = number first; minutes = second; seconds = third; thousandths = 0 })))
    (got (record { hours = 0; minutes = number first; seconds = second; thousandths = 0 }) s)

-- 13 to 19
unfoldable pub last_steps : Time → Step Time
last_steps t = do
  fourth ← field full_stop 3
  holds (in_range t)
  got (record { hours = t.hours; minutes = t.minutes; seconds = t.seconds; thousandths = fourth })

unfoldable pub timestamp : Step Time
timestamp = do
  a_digit
  first ← string
  second ← field colon 2
  t ← three_values first second
  last_steps t

-- 3, 5, 9: skip whitespace
abbrev pub skip_white : Step Unit
skip_white s = got tt (past_run white s)

-- 6, 7, 8
unfoldable pub arrow : Step Unit
arrow = do
  expect hyphen
  expect hyphen
  expect greater

-- 5 to 10
unfoldable pub arrow_and_end : Step Time
arrow_and_end = do
  skip_white
  arrow
  skip_white
  timestamp

-- 3 to 10
unfoldable pub timings : Step Times
timings = do
  skip_white
  start ← timestamp
  end ← arrow_and_end
  got (record { start = start; end = end })

unfoldable pub timing_of : Part → Result Times → Option Timing
timing_of line failed = None
timing_of line (got t rest) =
    Some (with_settings t (cue_settings (record { place = line.place + (length line.bytes - length rest); bytes = rest })))

unfoldable pub timing_line : Part → Option Timing
timing_line line = timing_of line (timings line.bytes)

-- "A timestamp tag must be a time and nothing else."
unfoldable pub nothing_after : Result Time → Option Time
nothing_after failed = None
nothing_after (got t []) = Some t
nothing_after (got t (b ∷ s)) = None

unfoldable pub tag_time : List ℕ → Option Time
tag_time value = nothing_after (timestamp value)
