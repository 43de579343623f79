-- A value that was read is answered by document 01's number and values.
use Prim.Native.Nat.{ℕ}
use mathlib.Core.Path.{◌≡◌, refl}
use mathlib.Core.List.{[], ◌∷◌}
use Rattle.std.specs.Prelude.{Option, None, Some}
use Rattle.std.specs.Prelude.{Result as Answered}
use lib.Dec.{ltb}
use Rattle.format.specs.Limits.{max_line}
use Rattle.format.specs.Answers.{limited}
use Rattle.format.specs.Numbers.{over_line}
use Rattle.format.specs.Numbers as Format
use Rattle.format.specs.Times.{Result, failed, got, Time, milliseconds, over_hours}
use Rattle.format.specs.TellingTimes.{stamp_answer, told}
use Rattle.laws.proofs.Tests.{by-test}
use Rattle.values.specs.Numbers.{line_number_is, line_number_answer, number_answer, line_count_is, line_count_answer, count_answer}
use Rattle.values.specs.Times.{stamp_is}
use Rattle.format.specs.declared.times.Stamp.{Stamp}
use Rattle.values.specs.declared.numbers.LineNumber.{LineNumber}
use Rattle.values.specs.declared.numbers.NumberError.{NumberError}

pub stamp_told :
    (n : ℕ) (t : Result Time) (r : Stamp) → r ≡ stamp_is n t → (r ≡ stamp_is n t) × (stamp_answer r ≡ told over_hours (λ t. milliseconds t ∷ []) n t)
unfolding stamp_answer told limited
stamp_told n (failed f rest) r e = (e, rw e refl)
stamp_told n (got t rest) r e = (e, rw e (by-test (over_hours t) (λ y. rw y refl) (λ z. rw z refl)))

pub line_told :
    (n : Option Format.LineNumber) (r : Answered LineNumber NumberError) → r ≡ line_number_is n → (r ≡ line_number_is n) × (line_number_answer r ≡ number_answer n)
unfolding limited
line_told None r e = (e, rw e refl)
line_told (Some n) r e = (e, rw e (by-test (over_line n) (λ y. rw y refl) (λ z. rw z refl)))

pub count-told : (n : Option ℕ) (r : Answered ℕ NumberError) → r ≡ line_count_is n → (r ≡ line_count_is n) × (line_count_answer r ≡ count_answer n)
unfolding limited
count-told None r e = (e, rw e refl)
count-told (Some n) r e = (e, rw e (by-test (ltb max_line n) (λ y. rw y refl) (λ z. rw z refl)))
