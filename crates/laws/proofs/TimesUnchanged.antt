-- Telling a failed step (request Q-5 of document 02) changes no list and no tree: these ask for times by `timing_line` and `tag_time` alone, and both
-- give what they gave before, for every line and every tag.
use Prim.Native.Nat.{ℕ}
use mathlib.Core.Path.{◌≡◌, refl}
use mathlib.Core.Bool.{Bool, not, ◌||◌}
use mathlib.Core.List.{List, [], ◌∷◌}
use lib.Dec.{eqb}
use lib.ListN.{length}
use Rattle.format.specs.Bytes.{digit, colon, full_stop, hyphen, greater}
use Rattle.format.specs.Texts.{Part, starts_with, is_empty, run, past_run}
use Rattle.format.specs.Numbers.{number}
use Rattle.format.specs.Times.{Result, failed, got, value, on_got, Step, ◌>>=◌, holds, expect, Time, field, hours_first, three_values, in_range, last_steps, timestamp, nothing_after, only_time}
use Rattle.format.specs.TimingLines.{skip_white, arrow, Times, arrow_and_end, timings, timing_of, timed_line, timing_line}
use Rattle.format.specs.Trees.{tag_time}
use Rattle.format.specs.declared.times.TimeFault.{TimeFault}
use Rattle.format.specs.declared.times.TimeFault.TheVariants as Fault
use Rattle.laws.proofs.Tests.{by-test}
use Rattle.laws.proofs.TimesBefore as Before

-- a result without what is told of a failure
untold : {A : Type 0} → Result A → Before.Result A
untold (failed f rest) = Before.failed
untold (got a rest) = Before.got a rest

-- a step is one of before, but for what it tells
record Same {A : Type 0} (m : Step A) (before : Before.Step A) : Type 0 where
  at : (s : List ℕ) → untold (m s) ≡ before s

on_got_lem :
    {A B : Type 0} (r : Result A) (b : Before.Result A) (f : A → Step B) (g : A → Before.Step B)
    → untold r ≡ b
    → ((a : A) → Same (f a) (g a))
    → untold (on_got r f) ≡ Before.on_got b g
unfolding untold on_got Before.on_got
on_got_lem (failed t s) b f g e k = rw (← e) refl
on_got_lem (got a s) b f g e k = rw (← e) ((k a).at s)

then : {A B : Type 0} {m : Step A} {n : Before.Step A} {f : A → Step B} {g : A → Before.Step B} → Same m n → ((a : A) → Same (f a) (g a)) → Same (◌>>=◌ m f) (Before.◌>>=◌ n g)
then {m = m} {n = n} {f = f} {g = g} h k = record { at = λ s. on_got_lem (m s) (n s) f g (h.at s) k }

same-got : {A : Type 0} (a : A) → Same (got a) (Before.got a)
unfolding untold
same-got a = record { at = λ s. refl }

same-holds : (f : TimeFault) (t : List ℕ → Bool) → Same (λ s. holds f (t s) s) (λ s. Before.holds (t s) s)
unfolding untold
same-holds f t = record { at = λ s. by-test (t s) (λ y. rw y refl) (λ n. rw n refl) }

expects : (c : ℕ) (s : List ℕ) → untold (expect c s) ≡ Before.expect c s
unfolding untold expect Before.expect
expects c [] = refl
expects c (b ∷ s) = by-test (eqb b c) (λ y. rw y refl) (λ n. rw n refl)

same-expect : (c : ℕ) → Same (expect c) (Before.expect c)
same-expect c = record { at = expects c }

same_digits : Same (λ s. got (run digit s) (past_run digit s)) (λ s. Before.got (run digit s) (past_run digit s))
unfolding untold
same_digits = record { at = λ s. refl }

same-white : Same skip_white Before.skip_white
unfolding untold
same-white = record { at = λ s. refl }

same-field : (c n : ℕ) → Same (field c n) (Before.field c n)
unfolding field Before.field
same-field c n =
    then (same-expect c) (λ a. then same_digits (λ ds. then (same-holds Fault.WrongDigitCount (λ s. eqb (length ds) n)) (λ a. same-got (number ds))))

three : (first : List ℕ) (second : ℕ) (s : List ℕ) → untold (three_values first second s) ≡ Before.three_values first second s
unfolding three_values Before.three_values untold
three first second s =
    let of : ℕ → Time = λ third. record { hours = number first; minutes = second; seconds = third; thousandths = 0 } in
    by-test (hours_first first || starts_with (colon ∷ []) s)
    (λ y. rw y ((then (same-field colon 2) (λ third. same-got (of third))).at s))
    (λ n. rw n refl)

same-timestamp : Same timestamp Before.timestamp
unfolding timestamp last_steps Before.timestamp Before.last_steps
same-timestamp =
    then (same-holds Fault.DigitMissing (λ s. not (is_empty (run digit s)))) (λ a. then same_digits
    (λ first. then (same-field colon 2)
    (λ second. then (record { at = three first second })
    (λ t. then (same-field full_stop 3)
    (λ fourth. then (same-holds Fault.Over59 (λ s. in_range t))
    (λ a. same-got (record { hours = t.hours; minutes = t.minutes; seconds = t.seconds; thousandths = fourth })))))))

same-arrow : Same arrow Before.arrow
unfolding arrow Before.arrow
same-arrow = then (same-expect hyphen) (λ a. then (same-expect hyphen) (λ a. same-expect greater))

same-timings : Same timings Before.timings
unfolding timings arrow_and_end Before.timings Before.arrow_and_end
same-timings =
    then same-white
    (λ a. then same-timestamp
    (λ start. then (then same-white (λ a. then same-arrow (λ a. then same-white (λ a. same-timestamp))))
    (λ end. same-got (record { start = start; end = end }))))

timing_of_lem : (line : Part) (r : Result Times) (b : Before.Result Times) → untold r ≡ b → value (timing_of line r) ≡ Before.timing_of line b
unfolding value untold timing_of Before.timing_of
timing_of_lem line (failed f s) b e = rw (← e) refl
timing_of_lem line (got t s) b e = rw (← e) refl

-- a timing line: what lists are made of
pub line_unchanged : (line : Part) → timing_line line ≡ Before.timing_line line
unfolding timing_line timed_line Before.timing_line
line_unchanged line = timing_of_lem line (timings line.bytes) (Before.timings line.bytes) (same-timings.at line.bytes)

only_of : (r : Result Time) (b : Before.Result Time) → untold r ≡ b → value (on_got r (λ t s. on_got (nothing_after s) (λ u. got t))) ≡ Before.nothing_after b
unfolding value untold on_got is_empty Before.nothing_after
only_of (failed f s) b e = rw (← e) refl
only_of (got t []) b e = rw (← e) refl
only_of (got t (c ∷ s)) b e = rw (← e) refl

-- a timestamp tag: what trees are made of
pub tag_unchanged : (text : List ℕ) → tag_time text ≡ Before.tag_time text
unfolding tag_time only_time Before.tag_time
tag_unchanged text = only_of (timestamp text) (Before.timestamp text) (same-timestamp.at text)
