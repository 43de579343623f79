-- A timing line at a place of a slice: the arrow, the end time and the settings by the code's tests.
use Prim.Native.Nat.{ℕ, suc, ◌+◌, ◌-◌, ◌≤◌}
use mathlib.Core.Path.{◌≡◌, refl, sym, ap, subst, ◌∙◌}
use mathlib.Core.Bool.{Bool, true, false, cond, ◌||◌}
use mathlib.Core.List.{List, [], ◌∷◌}
use native.Mathlib.Omega.{arith}
use lib.Dec.{eqb}
use lib.ListN.{length, drop, length-drop}
use lib.Seq.{drop-drop}
use Rattle.format.specs.Bytes.{white, hyphen, greater}
use Rattle.format.specs.Texts.{Part, starts_with}
use Rattle.format.specs.Times.{Result, failed, got, on_got, missing, expect, Time, timestamp, milliseconds, over_hours}
use Rattle.format.specs.TellingTimes.{place_of, timing_line_answer, told, timing_line_told}
use Rattle.format.specs.declared.times.TimeFault.{TimeFault}
use Rattle.format.specs.declared.times.TimeFault.TheVariants as Fault
use Rattle.format.specs.Answers.{limited}
use Rattle.format.specs.CueSettings.{cue_settings}
use Rattle.format.specs.TimingLines as Format
use Rattle.format.specs.TimingLines.{arrow, arrow_and_end, timings, with_settings, timing_of, timed_line}
use Rattle.laws.proofs.Tests.{by-test, or_true}
use Rattle.laws.proofs.Runs.{RunAt}
use Rattle.values.specs.Times.{stamp_is}
use Rattle.values.specs.Tokens.{token_from}
use Rattle.laws.proofs.TimeSteps.{Leaves, arrow_steps, timing_steps}
use Rattle.values.proofs.StepLaws.{Unread, left_at, StampRead}
use Rattle.timing.specs.declared.timing_line.ArrowEnd.TheVariants as ArrowEnd
use Rattle.timing.specs.Usual.{UsualRead}
use Rattle.timing.specs.TimingLines.{arrow_is, both_is, times_is, with_settings_is, line_from, timing_line_is, timed_line_is, line_kind}
use Rattle.timing.specs.declared.timing_line.Times.{Times}
use Rattle.timing.specs.declared.timing_line.LineKind.TheVariants as LineKind
use Rattle.format.specs.declared.times.TimingLine.{TimingLine}

-- a character that has to stand here, by the test that it does
expect-is : (c : ℕ) (x : List ℕ) → expect c x ≡ cond (starts_with (c ∷ []) x) (got tt (drop 1 x)) (failed (missing c) x)
unfolding expect starts_with
expect-is c [] = refl
expect-is c (b ∷ x) = by-test (eqb b c) (λ y. rw y refl) (λ n. rw n refl)

module _ (s : List ℕ) (at : ℕ) where
  next : (n : ℕ) → drop 1 (drop (at + n) s) ≡ drop (at + suc n) s
  next n = let e : at + n + 1 ≡ at + suc n = omega arith in drop-drop 1 (at + n) s ∙ rw e

  begun : drop 1 (drop at s) ≡ drop (at + 1) s
  begun = drop-drop 1 at s

  -- the arrow's characters from the first one on, as they stand or not
  pub arrow-first : starts_with (hyphen ∷ []) (drop at s) ≡ false → arrow (drop at s) ≡ failed Fault.ArrowMissing (drop at s)
  unfolding arrow on_got missing
  arrow-first a = rw (expect-is hyphen (drop at s), a)

  module _ (a : starts_with (hyphen ∷ []) (drop at s) ≡ true) where
    pub arrow-second : starts_with (hyphen ∷ []) (drop (at + 1) s) ≡ false → arrow (drop at s) ≡ failed Fault.ArrowMissing (drop (at + 1) s)
    unfolding arrow on_got missing
    arrow-second b = rw (expect-is hyphen (drop at s), a, begun, expect-is hyphen (drop (at + 1) s), b)

    module _ (b : starts_with (hyphen ∷ []) (drop (at + 1) s) ≡ true) where
      pub arrow_third : starts_with (greater ∷ []) (drop (at + 2) s) ≡ false → arrow (drop at s) ≡ failed Fault.ArrowMissing (drop (at + 2) s)
      unfolding arrow on_got missing
      arrow_third c = rw (expect-is hyphen (drop at s), a, begun, expect-is hyphen (drop (at + 1) s), b, next 1, expect-is greater (drop (at + 2) s), c)

      pub arrow-here : starts_with (greater ∷ []) (drop (at + 2) s) ≡ true → arrow (drop at s) ≡ got tt (drop (at + 3) s)
      unfolding arrow on_got
      arrow-here c = rw (expect-is hyphen (drop at s), a, begun, expect-is hyphen (drop (at + 1) s), b, next 1, expect-is greater (drop (at + 2) s), c) (ap (got tt) (next 2))

-- an arrow, from the code's answer
module _ (s : List ℕ) (at : ℕ) (h : at ≤ length s) where
  pub no_arrow_lem : (f : TimeFault) (k : ℕ) → ArrowEnd.Bad f k ≡ arrow_is (length s) (arrow (drop at s)) → Unread (arrow (drop at s)) (length s) f k
  no_arrow_lem f k q = go (arrow (drop at s)) refl
    where
      go : (y : Result Unit) → arrow (drop at s) ≡ y → Unread (arrow (drop at s)) (length s) f k
      go (failed g r) e =
          let b : ArrowEnd.Bad f k ≡ ArrowEnd.Bad g (place_of (length s) r) = rw e at q in
          let same : f ≡ g = cc in
          record { rest = r; is = rw same e; place = cc }
      go (got u r) e =
          let g : ArrowEnd.Bad f k ≡ ArrowEnd.At (place_of (length s) r) = rw e at q in let z : ◌≡◌ {A = ℕ} 0 1 = cc in absurd (omega arith)

  pub arrow_read : (next : ℕ) → ArrowEnd.At next ≡ arrow_is (length s) (arrow (drop at s)) → (next ≤ length s) × (arrow (drop at s) ≡ got tt (drop next s))
  arrow_read next q = go (arrow (drop at s)) refl
    where
      go : (y : Result Unit) → arrow (drop at s) ≡ y → (next ≤ length s) × (arrow (drop at s) ≡ got tt (drop next s))
      go (failed f r) e = let g : ArrowEnd.At next ≡ ArrowEnd.Bad f (place_of (length s) r) = rw e at q in let z : ◌≡◌ {A = ℕ} 0 1 = cc in absurd (omega arith)
      go (got u r) e =
          let g : ArrowEnd.At next ≡ ArrowEnd.At (place_of (length s) r) = rw e at q in
          let n : next ≡ place_of (length s) r = cc in
          let l = left_at s at r h (subst (Leaves _ (drop at s)) e (arrow_steps.at (drop at s))) in
          (omega (arith, l.1), e ∙ rw n (ap (got tt) l.0))

-- the end time after the whitespace and the arrow
module _ (s : List ℕ) (at w : ℕ) (r : RunAt white s at w) where
  pub end_none : (f : TimeFault) (x : List ℕ) → arrow (drop w s) ≡ failed f x → arrow_and_end (drop at s) ≡ failed f x
  unfolding arrow_and_end on_got
  end_none f x e = rw (r.past, e)

  pub end_is : (next w₂ : ℕ) → arrow (drop w s) ≡ got tt (drop next s) → RunAt white s next w₂ → arrow_and_end (drop at s) ≡ timestamp (drop w₂ s)
  unfolding arrow_and_end on_got
  end_is next w₂ f r₂ = rw (r.past, f, r₂.past)

-- the times, from the start time on
module _ (s : List ℕ) (from w : ℕ) (r : RunAt white s from w) where
  pub times_none : (f : TimeFault) (k : ℕ) → Unread (timestamp (drop w s)) (length s) f k → Times.Bad f k ≡ times_is (length s) (timings (drop from s))
  unfolding timings on_got
  times_none f k u = rw (r.past, u.is, u.place)

  module _ (next : ℕ) (t : Time) (read : StampRead timestamp s w next t) where
    timings_are : timings (drop from s) ≡ on_got (arrow_and_end (drop next s)) (λ end. got (record { start = t; end = end }))
    unfolding timings on_got
    timings_are = rw (r.past, read.is)

    module _ (o : Bool) (ms : ℕ) (over : over_hours t ≡ o) (same : o ≡ false → milliseconds t ≡ ms) where
      both_of :
          (y : Result Time)
          → both_is o ms (stamp_is (length s) y) ≡ times_is (length s) (on_got y (λ end. got (record { start = t; end = end })))
      unfolding on_got
      both_of (failed f rest) = refl
      both_of (got e rest) =
          by-test (over_hours e)
          (λ y. rw (over, y, or_true o) refl)
          (λ z. by-test o (λ y. rw (over, z, y) refl) (λ x. rw (over, z, x, same x) refl))

      pub times_are : both_is o ms (stamp_is (length s) (arrow_and_end (drop next s))) ≡ times_is (length s) (timings (drop from s))
      times_are = rw timings_are (both_of (arrow_and_end (drop next s)))

-- the times of the usual form
pub usual_is :
    (s : List ℕ) (at start end : ℕ) → UsualRead s at start end → Times.Good start end (at + 29) ≡ times_is (length s) (timings (drop at s))
usual_is s at start end u =
    let place : length s - length (drop (at + 29) s) ≡ at + 29 = omega (arith, length-drop (at + 29) s, u.inside) in
    rw (u.reads, u.first-within, u.second-within, place, u.start_is, u.end_is)

-- the line, by its times
module _ (s : List ℕ) (from : ℕ) (h : from ≤ length s) where
  line_of_lem :
      (y : Result Format.Times)
      → timings (drop from s) ≡ y
      → line_from s from (times_is (length s) y) ≡ timing_line_is (length (drop from s)) (timing_of (token_from s from) y)
  unfolding timing_of with_settings
  line_of_lem (failed f rest) k =
      let place : place_of (length s) rest - from ≡ place_of (length (drop from s)) rest = omega (arith, length-drop from s) in
      rw place
  line_of_lem (got t rest) k =
      let n = place_of (length s) rest in
      let l = left_at s from rest h (subst (Leaves _ (drop from s)) k (timing_steps.at (drop from s))) in
      let place : from + (length (drop from s) - length rest) ≡ n = omega (arith, length-drop from s, l.1, l.2) in
      let after : n - from ≡ place_of (length (drop from s)) rest = omega (arith, length-drop from s) in
      by-test (over_hours t.start || over_hours t.end) (λ y. rw (place, y) refl) (λ z. rw (place, z, sym l.0, after) refl)

  pub line_is : line_from s from (times_is (length s) (timings (drop from s))) ≡ timed_line_is (token_from s from)
  unfolding timed_line_is timed_line
  line_is = line_of_lem (timings (drop from s)) refl

  -- where the times fail
  pub times_after : (f : TimeFault) (k : ℕ) → Times.Bad f k ≡ times_is (length s) (timings (drop from s)) → from ≤ k
  times_after f k q = go (timings (drop from s)) refl
    where
      go : (y : Result Format.Times) → timings (drop from s) ≡ y → from ≤ k
      go (failed g rest) e =
          let b : Times.Bad f k ≡ Times.Bad g (place_of (length s) rest) = rw e at q in
          let place : k ≡ place_of (length s) rest = cc in
          omega (arith, (left_at s from rest h (subst (Leaves _ (drop from s)) e (timing_steps.at (drop from s))).1).2)
      go (got t rest) e =
          let g : Times.Bad f k ≡ times_is (length s) (got t rest) = rw e at q in
          by-test (over_hours t.start || over_hours t.end)
          (λ y. let b : Times.Bad f k ≡ Times.Over = rw y at g in let z : ◌≡◌ {A = ℕ} 0 1 = cc in absurd (omega arith))
          (λ n. let b : Times.Bad f k ≡ Times.Good (milliseconds t.start) (milliseconds t.end) (place_of (length s) rest) = rw n at g in
          let z : ◌≡◌ {A = ℕ} 0 1 = cc in
          absurd (omega arith))

  -- where the times end
  pub times_inside : (start end next : ℕ) → Times.Good start end next ≡ times_is (length s) (timings (drop from s)) → (from ≤ next) × (next ≤ length s)
  times_inside start end next q = go (timings (drop from s)) refl
    where
      go : (y : Result Format.Times) → timings (drop from s) ≡ y → (from ≤ next) × (next ≤ length s)
      go (failed f rest) k =
          let g : Times.Good start end next ≡ Times.Bad f (place_of (length s) rest) = rw k at q in let z : ◌≡◌ {A = ℕ} 0 1 = cc in absurd (omega arith)
      go (got t rest) k =
          let g : Times.Good start end next ≡ times_is (length s) (got t rest) = rw k at q in
          let l = left_at s from rest h (subst (Leaves _ (drop from s)) k (timing_steps.at (drop from s))) in
          by-test (over_hours t.start || over_hours t.end)
          (λ y. let f : Times.Good start end next ≡ Times.Over = rw y at g in let z : ◌≡◌ {A = ℕ} 0 1 = cc in absurd (omega arith))
          (λ n. let f : Times.Good start end next ≡ Times.Good (milliseconds t.start) (milliseconds t.end) (place_of (length s) rest) = rw n at g in
          let e : next ≡ place_of (length s) rest = cc in
          (omega (arith, l.2), omega arith))

-- what a line is, by its settings
pub kind_with :
    (s : List ℕ) (from start end at : ℕ)
    → line_kind (with_settings_is s from start end at) ≡ cond (cue_settings (token_from s at)).over LineKind.Over LineKind.Good
kind_with s from start end at = by-test (cue_settings (token_from s at)).over (λ y. rw y refl) (λ n. rw n refl)

-- a timing line that was read is answered by document 01's number and values
pub timing_told : (line : Part) (r : TimingLine) → r ≡ timed_line_is line → (r ≡ timed_line_is line) × (timing_line_answer r ≡ timing_line_told line)
unfolding timed_line_is timing_line_answer timing_line_told told limited
timing_told line r e = (e, ap timing_line_answer e ∙ go (timed_line line))
  where
    go :
        (x : Result Format.Timing)
        → timing_line_answer (timing_line_is (length line.bytes) x) ≡ told (λ t. t.over) (λ t. t.start ∷ t.end ∷ []) (length line.bytes) x
    go (failed f rest) = refl
    go (got t rest) = by-test t.over (λ y. rw y refl) (λ z. rw z refl)
