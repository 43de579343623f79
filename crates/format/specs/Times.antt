-- Collecting a WebVTT timestamp: the steps of source document 003, by their numbers and in their order. The first step that fails is told, and
-- where the reading then stands (request Q-5 of document 02).
use Rattle.std.specs.Prelude.{ℕ, ◌+◌, ◌*◌, Bool, cond, not, ◌||◌, List, [], ◌∷◌, ltb, eqb, length}
use Rattle.std.specs.Prelude.{Option, None, Some}
use Rattle.format.specs.Bytes.{digit, colon, full_stop}
use Rattle.format.specs.Limits.{max_hours}
use Rattle.format.specs.Texts.{starts_with, is_empty, run, past_run}
use Rattle.format.specs.Numbers.{number}
use Rattle.format.specs.declared.times.TimeFault.{TimeFault}
use Rattle.format.specs.declared.times.TimeFault.TheVariants as Fault

-- what a step comes to: which step failed, or a value; with what is left of the input
pub data Result (A : Type 0) : Type 0 where
  failed : TimeFault → List ℕ → Result A
  got : A → List ℕ → Result A

-- the value, if there is one
unfoldable pub value : {A : Type 0} → Result A → Option A
value (failed f s) = None
value (got a s) = Some a

unfoldable pub on_got : {A B : Type 0} → Result A → (A → List ℕ → Result B) → Result B
on_got (failed f s) next = failed f s
on_got (got a s) next = next a s

-- one step after another: the first that fails ends them
abbrev pub Step : Type 0 → Type 0
Step A = List ℕ → Result A

abbrev pub ◌>>=◌ : {A B : Type 0} → Step A → (A → Step B) → Step B
◌>>=◌ m f = λ s. on_got (m s) f

abbrev pub ◌>>◌ : {A B : Type 0} → Step A → Step B → Step B
◌>>◌ m n = λ s. on_got (m s) (λ a. n)

abbrev pub holds : TimeFault → Bool → Step Unit
holds f t s = cond t (got tt s) (failed f s)

-- 3, 4: a digit stands here
abbrev pub a_digit : Step Unit
a_digit s = holds Fault.DigitMissing (not (is_empty (run digit s))) s

-- 5, 9, 12.2, 14: the digits that stand here
abbrev pub string : Step (List ℕ)
string s = got (run digit s) (past_run digit s)

-- which step fails where this character is missing; any other than these two is a part of the arrow
unfoldable pub missing : ℕ → TimeFault
missing c = cond (eqb c colon) Fault.ColonMissing (cond (eqb c full_stop) Fault.FullStopMissing Fault.ArrowMissing)

-- 8, 12.1, 13: this character stands here, and is passed
unfoldable pub expect : ℕ → Step Unit
expect c [] = failed (missing c) []
expect c (b ∷ s) = cond (eqb b c) (got tt s) (failed (missing c) (b ∷ s))

-- 10, 12.3, 15: told after the digits
abbrev pub exactly : ℕ → List ℕ → Step Unit
exactly n ds = holds Fault.WrongDigitCount (eqb (length ds) n)

-- a time's values, unbounded
pub record Time : Type 0 where
  pub hours : ℕ
  pub minutes : ℕ
  pub seconds : ℕ
  pub thousandths : ℕ

-- 7: are the most significant units hours
unfoldable pub hours_first : List ℕ → Bool
hours_first first = not (eqb (length first) 2) || ltb 59 (number first)

-- 8 to 11, 12.1 to 12.4, 13 to 16: a character, and then exactly n digits
unfoldable pub field : ℕ → ℕ → Step ℕ
field c n = do
  expect c
  ds ← string
  exactly n ds
  got (number ds)

-- 12: three values where the units are hours or another colon stands here, else two
unfoldable pub three_values : List ℕ → ℕ → Step Time
three_values first second s =
    cond (hours_first first || starts_with (colon ∷ []) s)
    (on_got (field colon 2 s)
    (λ third. got (record { hours = number first; minutes = second; seconds = third; thousandths = 0 })))
    (got (record { hours = 0; minutes = number first; seconds = second; thousandths = 0 }) s)

-- 17
unfoldable pub in_range : Time → Bool
in_range t = not (ltb 59 t.minutes || ltb 59 t.seconds)

-- 13 to 19
unfoldable pub last_steps : Time → Step Time
last_steps t = do
  fourth ← field full_stop 3
  holds Fault.Over59 (in_range t)
  got (record { hours = t.hours; minutes = t.minutes; seconds = t.seconds; thousandths = fourth })

unfoldable pub timestamp : Step Time
timestamp = do
  a_digit
  first ← string
  second ← field colon 2
  t ← three_values first second
  last_steps t

abbrev pub nothing_after : Step Unit
nothing_after s = holds Fault.SomethingAfter (is_empty s) s

-- "A timestamp tag must be a time and nothing else."
unfoldable pub only_time : Step Time
only_time = do
  t ← timestamp
  nothing_after
  got t

-- "The time in milliseconds is 3,600,000·hours + 60,000·minutes + 1,000·seconds + thousandths."
unfoldable pub milliseconds : Time → ℕ
milliseconds t = 3_600_000 * t.hours + 60_000 * t.minutes + 1_000 * t.seconds + t.thousandths

-- "Hours are at most 99,999; beyond that is refusal 5."
unfoldable pub over_hours : Time → Bool
over_hours t = ltb max_hours t.hours
