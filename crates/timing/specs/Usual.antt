-- What reading the usual form of the times finds, said by the steps of `format`.
use Rattle.std.specs.Prelude.{ℕ, ◌+◌, ◌≤◌, ◌≡◌, Bool, true, false, List, [], ◌++◌, length, get_or, drop}
use Rattle.format.specs.Bytes.{digit, white}
use Rattle.format.specs.Texts.{run, past_run}
use Rattle.format.specs.Numbers.{number}
use Rattle.format.specs.Times.{got, Time, timestamp, milliseconds, over_hours}
use Rattle.format.specs.TimingLines.{arrow_and_end, timings}

-- a text that does not begin with a digit
abbrev pub NoDigit : List ℕ → Type 0
NoDigit x = run digit x ≡ []

abbrev pub NoDigitIs : List ℕ → Bool → Type 0
NoDigitIs x false = Unit
NoDigitIs x true = NoDigit x

-- n digits with the value v at a place
pub record DigitsRead (x : List ℕ) (k n v : ℕ) : Type 0 where
  pub digits : List ℕ
  pub size : length digits ≡ n
  pub value : number digits ≡ v
  pub first : digit (get_or x k 0) ≡ true
  pub found : run digit (drop k x) ≡ digits ++ run digit (drop (k + n) x)

-- a time in the first twelve bytes, where no digit follows; no whitespace stands before it
pub record ClockRead (x : List ℕ) (ms : ℕ) : Type 0 where
  pub time : Time
  pub starts : past_run white x ≡ x
  pub reads : NoDigit (drop 12 x) → timestamp x ≡ got time (drop 12 x)
  pub within : over_hours time ≡ false
  pub value : milliseconds time ≡ ms

-- an arrow in the first five bytes: after it, and whitespace if there is more, comes the end time
pub record ArrowRead (x : List ℕ) : Type 0 where
  pub stops : NoDigit x
  pub reads : arrow_and_end x ≡ timestamp (past_run white (drop 5 x))

abbrev pub ArrowIs : List ℕ → Bool → Type 0
ArrowIs x false = Unit
ArrowIs x true = ArrowRead x

-- both times in 29 bytes at a place
pub record UsualRead (s : List ℕ) (at start end : ℕ) : Type 0 where
  -- the start time
  pub first : Time
  -- the end time
  pub second : Time
  pub inside : at + 29 ≤ length s
  pub reads : timings (drop at s) ≡ got (record { start = first; end = second }) (drop (at + 29) s)
  pub first-within : over_hours first ≡ false
  pub second-within : over_hours second ≡ false
  pub start_is : milliseconds first ≡ start
  pub end_is : milliseconds second ≡ end
