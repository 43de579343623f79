-- Reading a time, a timestamp tag's time or a timing line by itself (request Q-5 of document 02): the step that fails, "and where the reading then
-- stands", as a number and a place; or the times.
use Rattle.std.specs.Prelude.{ℕ, ◌-◌, Bool, List, [], ◌∷◌, length}
use Rattle.format.specs.Texts.{Part}
use Rattle.format.specs.Times.{Result, failed, got, timestamp, only_time, milliseconds, over_hours}
use Rattle.format.specs.TimingLines.{timed_line}
use Rattle.format.specs.Answers.{Answer, accepted, refused, limited}
use Rattle.format.specs.declared.times.TimeFault.{TimeFault}
use Rattle.format.specs.declared.times.TimeFault.TheVariants as Fault
use Rattle.format.specs.declared.times.Stamp.{Stamp}
use Rattle.format.specs.declared.times.TimingLine.{TimingLine}

-- "digit missing, wrong digit count, colon missing, full stop missing, value over 59. … Timing lines …, adding 'arrow missing'; so do cue-text
-- timestamps, adding 'something after the time'", numbered in this order
unfoldable pub fault_number : TimeFault → ℕ
fault_number Fault.DigitMissing = 1
fault_number Fault.WrongDigitCount = 2
fault_number Fault.ColonMissing = 3
fault_number Fault.FullStopMissing = 4
fault_number Fault.Over59 = 5
fault_number Fault.ArrowMissing = 6
fault_number Fault.SomethingAfter = 7

-- a place "from 0 in the line or inside the tag", which has n bytes, by what is left of it
abbrev pub place_of : ℕ → List ℕ → ℕ
place_of n rest = n - length rest

-- the number and the values of each case: nothing is refused but by 5. The values are the number of the step that failed, and the place; or 0, where
-- the reading ended, and what was read, in milliseconds
unfoldable pub stamp_answer : Stamp → Answer
stamp_answer (Stamp.Bad f at) = accepted (fault_number f ∷ at ∷ [])
stamp_answer (Stamp.Over next) = refused 5 []
stamp_answer (Stamp.At ms next) = accepted (0 ∷ next ∷ ms ∷ [])

unfoldable pub timing_line_answer : TimingLine → Answer
timing_line_answer (TimingLine.Bad f at) = accepted (fault_number f ∷ at ∷ [])
timing_line_answer TimingLine.Over = refused 5 []
timing_line_answer (TimingLine.Good t) = accepted (0 ∷ t.next ∷ t.start ∷ t.end ∷ [])

-- what is answered for each result; refusal 5 where all reads and a number is above its limit
unfoldable pub told : {A : Type 0} → (A → Bool) → (A → List ℕ) → ℕ → Result A → Answer
told over values n (failed f rest) = accepted (fault_number f ∷ place_of n rest ∷ [])
told over values n (got a rest) = limited (over a) (0 ∷ place_of n rest ∷ values a)

-- what reading the time that a text begins with answers; and a time that is all of a text, as a tag's has to be: its milliseconds
unfoldable pub time_told : List ℕ → Answer
time_told s = told over_hours (λ t. milliseconds t ∷ []) (length s) (timestamp s)

unfoldable pub tag_time_told : List ℕ → Answer
tag_time_told s = told over_hours (λ t. milliseconds t ∷ []) (length s) (only_time s)

-- what reading a timing line answers: start and end in milliseconds
unfoldable pub timing_line_told : Part → Answer
timing_line_told line = told (λ t. t.over) (λ t. t.start ∷ t.end ∷ []) (length line.bytes) (timed_line line)
