-- What the steps of reading a time, a timestamp tag's time and a timing line pass, whether they succeed or fail: bytes below 128, so that a place
-- counts bytes and characters alike, and what is left is the end of what was given. And which steps can fail (request Q-5 of document 02).
use Prim.Native.Nat.{ℕ, ◌≤◌}
use mathlib.Core.Path.{◌≡◌, refl, sym, ap, subst, ◌∙◌}
use mathlib.Core.Bool.{Bool, true, false, cond, not, ◌||◌, false≢true}
use mathlib.Core.List.{List, [], ◌∷◌, ◌++◌, append_assoc}
use native.Mathlib.Omega.{arith}
use lib.Dec.{eqb, ltb, leb}
use lib.ListN.{length, take, drop, length-append}
use lib.Seq.{take-append_seam, drop-append_seam}
use borrow.Author.Tests.{eqb-true, lt-ltb, leb-true}
use Rattle.format.specs.Bytes.{digit, white, space, tab, lf, form_feed, cr, colon, full_stop, hyphen, greater}
use Rattle.format.specs.Texts.{Part, is_empty, all, has, run, past_run, starts_with}
use Rattle.format.specs.Numbers.{number}
use Rattle.format.specs.Times.{Result, failed, got, on_got, Step, ◌>>=◌, holds, missing, expect, hours_first, Time, field, three_values, in_range, last_steps, timestamp, only_time}
use Rattle.format.specs.TimingLines.{skip_white, arrow, Times, arrow_and_end, timings, Timing, timing_of, timed_line}
use Rattle.format.specs.TellingTimes.{fault_number, place_of}
use Rattle.format.specs.declared.times.TimeFault.{TimeFault}
use Rattle.format.specs.declared.times.TimeFault.TheVariants as Fault
use Rattle.laws.proofs.Tests.{by-test, and_left, and_right}

-- a byte of ASCII
abbrev pub low : ℕ → Bool
low b = ltb b 0x80

-- these bytes, all of ASCII, were passed
pub record Passed (s rest : List ℕ) : Type 0 where
  pub gone : List ℕ
  pub is : s ≡ gone ++ rest
  pub are_low : all low gone ≡ true

all_append : (x y : List ℕ) → all low x ≡ true → all low y ≡ true → all low (x ++ y) ≡ true
unfolding all
all_append [] y p q = q
all_append (b ∷ x) y p q = rw (and_left (low b) (all low x) p) (all_append x y (and_right (low b) (all low x) p) q)

passed_none : (s : List ℕ) → Passed s s
unfolding all
passed_none s = record { gone = []; is = refl; are_low = refl }

passed_more : (s t u : List ℕ) → Passed s t → Passed t u → Passed s u
passed_more s t u a b =
    record {
      gone = a.gone ++ b.gone;
      is = a.is ∙ ap (λ r. a.gone ++ r) b.is ∙ sym (append_assoc a.gone b.gone u);
      are_low = all_append a.gone b.gone a.are_low b.are_low;
    }

digit_low : (b : ℕ) → digit b ≡ true → low b ≡ true
unfolding digit
digit_low b e = lt-ltb b 0x80 (omega (arith, leb-true b 0x39 (and_right (leb 0x30 b) (leb b 0x39) e)))

white_low : (b : ℕ) → white b ≡ true → low b ≡ true
unfolding white
white_low b e =
    by-test (eqb b space) (λ y. rw (eqb-true b space y) refl)
    (λ a. by-test (eqb b tab) (λ y. rw (eqb-true b tab y) refl)
    (λ c. by-test (eqb b lf) (λ y. rw (eqb-true b lf y) refl)
    (λ d. by-test (eqb b form_feed) (λ y. rw (eqb-true b form_feed y) refl)
    (λ f. by-test (eqb b cr) (λ y. rw (eqb-true b cr y) refl)
    (λ g. absurd (false≢true (rw (a, c, d, f, g) at e)))))))

-- a run of such bytes
passed_run : (p : ℕ → Bool) → ((b : ℕ) → p b ≡ true → low b ≡ true) → (s : List ℕ) → Passed s (past_run p s)
unfolding run past_run all
passed_run p h [] = passed_none []
passed_run p h (b ∷ s) =
    by-test (p b)
    (λ y. let r = passed_run p h s in rw y (record { gone = b ∷ r.gone; is = ap (λ x. b ∷ x) r.is; are_low = rw (h b y) r.are_low }))
    (λ n. rw n (passed_none (b ∷ s)))

-- where the steps that can fail are those of which P holds
module _ (P : TimeFault → Type 0) where
  abbrev pub Leaves : {A : Type 0} → List ℕ → Result A → Type 0
  Leaves s (failed f rest) = P f × Passed s rest
  Leaves s (got a rest) = Passed s rest

  pub record Keeps {A : Type 0} (m : Step A) : Type 0 where
    pub at : (s : List ℕ) → Leaves s (m s)

  leaves_more : {A : Type 0} (s t : List ℕ) (r : Result A) → Passed s t → Leaves t r → Leaves s r
  leaves_more s t (failed f u) a h = (h.0, passed_more s t u a h.1)
  leaves_more s t (got x u) a h = passed_more s t u a h

  on_got_lem : {A B : Type 0} (s : List ℕ) (r : Result A) (f : A → Step B) → Leaves s r → ((a : A) → Keeps (f a)) → Leaves s (on_got r f)
  unfolding on_got
  on_got_lem s (failed g t) f h k = h
  on_got_lem s (got a t) f h k = leaves_more s t (f a t) h ((k a).at t)

  then : {A B : Type 0} {m : Step A} {f : A → Step B} → Keeps m → ((a : A) → Keeps (f a)) → Keeps (◌>>=◌ m f)
  then {m = m} {f = f} h k = record { at = λ s. on_got_lem s (m s) f (h.at s) k }

  keeps_got : {A : Type 0} (a : A) → Keeps (got a)
  keeps_got a = record { at = λ s. passed_none s }

  either : {A : Type 0} (s : List ℕ) (t : Bool) (a b : Result A) → Leaves s a → Leaves s b → Leaves s (cond t a b)
  either s true a b p q = p
  either s false a b p q = q

  keeps_holds : (f : TimeFault) → P f → (t : List ℕ → Bool) → Keeps (λ s. holds f (t s) s)
  keeps_holds f p t = record { at = λ s. either s (t s) (got tt s) (failed f s) (passed_none s) (p, passed_none s) }

  expects : (c : ℕ) → low c ≡ true → P (missing c) → (s : List ℕ) → Leaves s (expect c s)
  unfolding expect all
  expects c l p [] = (p, passed_none [])
  expects c l p (b ∷ s) =
      by-test (eqb b c)
      (λ y. let e = eqb-true b c y in rw y (record { gone = b ∷ []; is = refl; are_low = rw (e, l) refl }))
      (λ n. rw n (p, passed_none (b ∷ s)))

  keeps_expect : (c : ℕ) → low c ≡ true → P (missing c) → Keeps (expect c)
  keeps_expect c l p = record { at = expects c l p }

  keeps_digits : Keeps (λ s. got (run digit s) (past_run digit s))
  keeps_digits = record { at = passed_run digit digit_low }

  keeps_white : Keeps skip_white
  keeps_white = record { at = passed_run white white_low }

  module _ (count : P Fault.WrongDigitCount) where
    keeps_field : (c n : ℕ) → low c ≡ true → P (missing c) → Keeps (field c n)
    unfolding field
    keeps_field c n l p =
        then (keeps_expect c l p)
        (λ a. then keeps_digits
        (λ ds. then (keeps_holds Fault.WrongDigitCount count (λ s. eqb (length ds) n)) (λ a. keeps_got (number ds))))

    module _ (colons : P Fault.ColonMissing) (stops : P Fault.FullStopMissing) (above : P Fault.Over59) where
      keeps_colon : Keeps (field colon 2)
      unfolding missing
      keeps_colon = keeps_field colon 2 refl colons

      keeps_stop : Keeps (field full_stop 3)
      unfolding missing
      keeps_stop = keeps_field full_stop 3 refl stops

      keeps_three : (first : List ℕ) (second : ℕ) → Keeps (three_values first second)
      unfolding three_values
      keeps_three first second =
          let three : ℕ → Time = λ third. record { hours = number first; minutes = second; seconds = third; thousandths = 0 } in
          let two : Time = record { hours = 0; minutes = number first; seconds = second; thousandths = 0 } in
          record {
            at = λ s. either s (hours_first first || starts_with (colon ∷ []) s) _ _ ((then keeps_colon (λ third. keeps_got (three third))).at s) (passed_none s);
          }

      -- the steps after the test for a first digit
      after_digit : Keeps (λ s. on_got (got (run digit s) (past_run digit s)) (λ first x. on_got (field colon 2 x) (λ second y. on_got (three_values first second y) last_steps)))
      unfolding last_steps
      after_digit =
          then keeps_digits
          (λ first. then keeps_colon
          (λ second. then (keeps_three first second)
          (λ t. then keeps_stop
          (λ fourth. then (keeps_holds Fault.Over59 above (λ s. in_range t))
          (λ a. keeps_got (record { hours = t.hours; minutes = t.minutes; seconds = t.seconds; thousandths = fourth }))))))

      pub keeps_timestamp : P Fault.DigitMissing → Keeps timestamp
      unfolding timestamp
      keeps_timestamp digits = then (keeps_holds Fault.DigitMissing digits (λ s. not (is_empty (run digit s)))) (λ a. after_digit)

      pub keeps_only : P Fault.DigitMissing → P Fault.SomethingAfter → Keeps only_time
      unfolding only_time
      keeps_only digits after = then (keeps_timestamp digits) (λ t. then (keeps_holds Fault.SomethingAfter after is_empty) (λ a. keeps_got t))

      -- a tag begins with a digit
      only_after : P Fault.SomethingAfter → (b : ℕ) (s : List ℕ) → digit b ≡ true → Leaves (b ∷ s) (only_time (b ∷ s))
      unfolding only_time timestamp run is_empty on_got
      only_after after b s d = rw d ((then after_digit (λ t. then (keeps_holds Fault.SomethingAfter after is_empty) (λ a. keeps_got t))).at (b ∷ s))

      module _ (digits : P Fault.DigitMissing) (arrows : P Fault.ArrowMissing) where
        keeps_arrow : Keeps arrow
        unfolding arrow missing
        keeps_arrow = then (keeps_expect hyphen refl arrows) (λ a. then (keeps_expect hyphen refl arrows) (λ a. keeps_expect greater refl arrows))

        pub keeps_end : Keeps arrow_and_end
        unfolding arrow_and_end
        keeps_end = then keeps_white (λ a. then keeps_arrow (λ a. then keeps_white (λ a. keeps_timestamp digits)))

        pub keeps_timings : Keeps timings
        unfolding timings
        keeps_timings = then keeps_white (λ a. then (keeps_timestamp digits) (λ start. then keeps_end (λ end. keeps_got (record { start = start; end = end }))))

-- the steps with these numbers
abbrev pub Numbered : List ℕ → TimeFault → Type 0
Numbered numbers f = has (fault_number f) numbers ≡ true

abbrev of_time : List ℕ
of_time = 1 ∷ 2 ∷ 3 ∷ 4 ∷ 5 ∷ []

abbrev of_line : List ℕ
of_line = 1 ∷ 2 ∷ 3 ∷ 4 ∷ 5 ∷ 6 ∷ []

abbrev of_only : List ℕ
of_only = 1 ∷ 2 ∷ 3 ∷ 4 ∷ 5 ∷ 7 ∷ []

abbrev of_tag : List ℕ
of_tag = 2 ∷ 3 ∷ 4 ∷ 5 ∷ 7 ∷ []

pub time_steps : Keeps (Numbered of_time) timestamp
unfolding has all fault_number
time_steps = keeps_timestamp (Numbered of_time) refl refl refl refl refl

pub only_steps : Keeps (Numbered of_only) only_time
unfolding has all fault_number
only_steps = keeps_only (Numbered of_only) refl refl refl refl refl refl

pub end_steps : Keeps (Numbered of_line) arrow_and_end
unfolding has all fault_number
end_steps = keeps_end (Numbered of_line) refl refl refl refl refl refl

pub timing_steps : Keeps (Numbered of_line) timings
unfolding has all fault_number
timing_steps = keeps_timings (Numbered of_line) refl refl refl refl refl refl

pub arrow_steps : Keeps (Numbered of_line) arrow
unfolding has all fault_number
arrow_steps = keeps_arrow (Numbered of_line) refl refl refl refl refl refl

-- what is known of a failure in a text: the step is one of these; the place is inside the text or at its end, the bytes before it are of ASCII, and
-- what was left stands there
pub record FailedAt (numbers s : List ℕ) (f : TimeFault) (rest : List ℕ) : Type 0 where
  pub step : has (fault_number f) numbers ≡ true
  pub inside : place_of (length s) rest ≤ length s
  pub before : all low (take (place_of (length s) rest) s) ≡ true
  pub left : drop (place_of (length s) rest) s ≡ rest

failed_at : (numbers s : List ℕ) (f : TimeFault) (rest : List ℕ) → Numbered numbers f → Passed s rest → FailedAt numbers s f rest
failed_at numbers s f rest n p =
    let place : place_of (length s) rest ≡ length p.gone = omega (arith, ap length p.is, length-append p.gone rest) in
    record {
      step = n;
      inside = omega arith;
      before = rw (place, p.is, take-append_seam p.gone rest) p.are_low;
      left = rw (place, p.is, drop-append_seam p.gone rest);
    }

-- a result that failed
fails : {A : Type 0} (numbers s : List ℕ) (r : Result A) (f : TimeFault) (rest : List ℕ) → Leaves (Numbered numbers) s r → r ≡ failed f rest → FailedAt numbers s f rest
fails {A} numbers s r f rest h e = let k = subst (λ (x : Result A). Leaves (Numbered numbers) s x) e h in failed_at numbers s f rest k.0 k.1

-- where a time fails
pub time-fails : (s : List ℕ) (f : TimeFault) (rest : List ℕ) → timestamp s ≡ failed f rest → FailedAt (1 ∷ 2 ∷ 3 ∷ 4 ∷ 5 ∷ []) s f rest
time-fails s f rest e = fails of_time s (timestamp s) f rest (time_steps.at s) e

-- where a timing line fails: its settings never do
pub line_fails : (line : Part) (f : TimeFault) (rest : List ℕ) → timed_line line ≡ failed f rest → FailedAt (1 ∷ 2 ∷ 3 ∷ 4 ∷ 5 ∷ 6 ∷ []) line.bytes f rest
unfolding timed_line timing_of
line_fails line f rest e = go (timings line.bytes) (timing_steps.at line.bytes) e
  where
    go : (r : Result Times) → Leaves (Numbered of_line) line.bytes r → timing_of line r ≡ failed f rest → FailedAt of_line line.bytes f rest
    go (failed g t) h k = let r : Result Timing = failed g t in fails of_line line.bytes r f rest h k
    go (got a t) h k = let z : ◌≡◌ {A = ℕ} 0 1 = cc in absurd (omega arith)

-- where a text fails that has to be a time and nothing else; and one that begins with a digit, as a timestamp tag does
pub only_fails : (s : List ℕ) (f : TimeFault) (rest : List ℕ) → only_time s ≡ failed f rest → FailedAt (1 ∷ 2 ∷ 3 ∷ 4 ∷ 5 ∷ 7 ∷ []) s f rest
only_fails s f rest e = fails of_only s (only_time s) f rest (only_steps.at s) e

pub tag_fails : (b : ℕ) (s : List ℕ) (f : TimeFault) (rest : List ℕ) → digit b ≡ true → only_time (b ∷ s) ≡ failed f rest → FailedAt (2 ∷ 3 ∷ 4 ∷ 5 ∷ 7 ∷ []) (b ∷ s) f rest
unfolding has all fault_number
tag_fails b s f rest d e = fails of_tag (b ∷ s) (only_time (b ∷ s)) f rest (only_after (Numbered of_tag) refl refl refl refl refl b s d) e
