-- Times as the code holds them: places instead of what is left of a text, and hours above the limit as a case of their own.
use Rattle.std.specs.Prelude.{ℕ, min, cond, ltb}
use Rattle.format.specs.Times.{Result, failed, got, Time, milliseconds, over_hours}
use Rattle.format.specs.TellingTimes.{place_of}
use Rattle.format.specs.declared.times.TimeFault.TheVariants as Fault
use Rattle.values.specs.Numbers.{cap}
use Rattle.values.specs.declared.times.Field.{Field}
use Rattle.format.specs.declared.times.Stamp.{Stamp}

-- n being the text's length
abbrev pub field_is : ℕ → Result ℕ → Field
field_is n (failed f rest) = Field.Bad f (place_of n rest)
field_is n (got v rest) = Field.Good (min v cap) (place_of n rest)

abbrev pub stamp_is : ℕ → Result Time → Stamp
stamp_is n (failed f rest) = Stamp.Bad f (place_of n rest)
stamp_is n (got t rest) = cond (over_hours t) (Stamp.Over (place_of n rest)) (Stamp.At (milliseconds t) (place_of n rest))

-- a time that was read of a text of n bytes, where it is all of the text
abbrev pub ended_is : ℕ → Stamp → Stamp
ended_is n (Stamp.Bad f at) = Stamp.Bad f at
ended_is n (Stamp.Over next) = cond (ltb next n) (Stamp.Bad Fault.SomethingAfter next) (Stamp.Over next)
ended_is n (Stamp.At ms next) = cond (ltb next n) (Stamp.Bad Fault.SomethingAfter next) (Stamp.At ms next)

-- values held at the cap
abbrev pub capped : Time → Time
capped t =
    record { hours = min t.hours cap; minutes = min t.minutes cap; seconds = min t.seconds cap; thousandths = t.thousandths }
