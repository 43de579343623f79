-- Document 01, "Times and numbers on both sides": its table, with the step and the place of request Q-5
-- where a time fails. `proofs/Examples.antt` proves that the definitions give each row.
use Rattle.std.specs.Prelude.{ℕ, ◌*◌, List, [], ◌∷◌, length}
use Prim.Native.String.{String}
use Rattle.std.specs.Prelude.{Option, None, Some}
use Rattle.format.specs.Bytes.{ascii}
use Rattle.format.specs.Numbers.{percentage}
use Rattle.format.specs.Times.{Result, failed, got, Time, only_time, milliseconds}
use Rattle.format.specs.TellingTimes.{fault_number, place_of}

pub data ExampleKind : Type 0 where
  a_time a_percentage : ExampleKind

-- milliseconds, or a percentage in millionths; the number of the step that fails, and where; or that there is no such value
pub data Outcome : Type 0 where
  gives : ℕ → Outcome
  fails_at : (step place : ℕ) → Outcome
  fails : Outcome

pub record Example : Type 0 where
  pub kind : ExampleKind
  pub text : List ℕ
  pub outcome : Outcome

abbrev time : String → Outcome → Example
time s o = record { kind = a_time; text = ascii s; outcome = o }

abbrev percent : String → Outcome → Example
percent s o = record { kind = a_percentage; text = ascii s; outcome = o }

abbrev pub examples : List Example
examples =
    time "00:11.000" (gives 11_000)
    ∷ time "60:00.000" (fails_at 3 5)
    ∷ time "60:00:00.000" (gives 216_000_000)
    ∷ time "1:00.000" (fails_at 3 4)
    ∷ time "1:00:00.000" (gives 3_600_000)
    ∷ time "00:00:60.000" (fails_at 5 12)
    ∷ time "00:01,000" (fails_at 4 5)
    ∷ time "00:01.0000" (fails_at 2 10)
    ∷ time "99999:59:59.999" (gives 359_999_999_999)
    ∷ percent "050%" (gives (50 * 1_000_000))
    ∷ percent "100.0%" (gives (100 * 1_000_000))
    ∷ percent "100.1%" fails
    ∷ percent ".5%" fails
    ∷ []

-- a time and nothing after it, in a text of n bytes
unfoldable pub time_outcome : ℕ → Result Time → Outcome
time_outcome n (failed f rest) = fails_at (fault_number f) (place_of n rest)
time_outcome n (got t rest) = gives (milliseconds t)

unfoldable pub percent_outcome : Option ℕ → Outcome
percent_outcome None = fails
percent_outcome (Some n) = gives n

unfoldable pub reads_as : ExampleKind → List ℕ → Outcome
reads_as a_time s = time_outcome (length s) (only_time s)
reads_as a_percentage s = percent_outcome (percentage s)

unfoldable pub reads : Example → Outcome
reads e = reads_as e.kind e.text
