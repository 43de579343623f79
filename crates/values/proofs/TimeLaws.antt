-- Timestamps at a place of a slice: what each step comes to by the tests that the code makes.
use Prim.Native.Nat.{ℕ, ◌+◌, ◌-◌, ◌*◌, ◌≤◌, ◌<◌, min}
use mathlib.Core.Path.{◌≡◌, refl, sym, ap, ◌∙◌}
use mathlib.Core.Bool.{Bool, true, false, cond, ◌||◌, ◌&&◌, false≢true}
use mathlib.Core.List.{List, [], ◌∷◌}
use native.Mathlib.Numerals.{add-one}
use native.Mathlib.Omega.{arith}
use lib.Dec.{eqb, ltb, leb}
use lib.ListN.{length, get_or, take, drop, drop_of_length-le, length-drop}
use lib.Seq.{drop-cons, length-take-le}
use borrow.Author.Tests.{eqb-true, eqb-false, eq-eqb, ne_eqb, lt-ltb, le-ltb, ltb-true, ltb-false, leb-true}
use Rattle.format.specs.Bytes.{digit, colon, full_stop}
use Rattle.format.specs.Limits.{max_hours}
use Rattle.format.specs.Texts.{all, run, starts_with, is_empty}
use Rattle.format.specs.Numbers.{number, number_from}
use Rattle.format.specs.Times.{Result, failed, got, on_got, missing, expect, Time, field, three_values, hours_first, in_range, last_steps, timestamp, milliseconds, over_hours}
use Rattle.format.specs.TellingTimes.{place_of}
use Rattle.format.specs.declared.times.TimeFault.{TimeFault}
use Rattle.format.specs.declared.times.TimeFault.TheVariants as Fault
use Rattle.laws.proofs.Runs.{RunAt, run_at, run-all, run_end}
use Rattle.laws.proofs.Tests.{by-test, and_left, and_right}
use Rattle.values.specs.declared.times.Field.TheVariants as Field
use Rattle.format.specs.declared.times.Stamp.TheVariants as Stamp
use Rattle.values.specs.Numbers.{cap}
use Rattle.values.proofs.StepLaws.{Unread, place_is}
use Rattle.values.proofs.NumberLaws.{ltb-held, is_empty-not}
use Rattle.values.specs.Times.{field_is, stamp_is, capped}

-- a test, and what follows it
holds_then :
    {B : Type 0} (g : TimeFault) (t : Bool) (s : List ℕ) (f : Unit {0} → List ℕ → Result B) → on_got (cond t (got tt s) (failed g s)) f ≡ cond t (f tt s) (failed g s)
unfolding on_got
holds_then g true s f = refl
holds_then g false s f = refl

module _ (s : List ℕ) (at c n : ℕ) where
  pub field_end : at ≡ length s → field c n (drop at s) ≡ failed (missing c) (drop at s)
  unfolding field on_got expect
  field_end e = let l : length s ≤ at = omega arith in rw (drop_of_length-le s l) refl

  pub field_other : at < length s → (get_or s at 0 ≡ c → ⊥) → field c n (drop at s) ≡ failed (missing c) (drop at s)
  unfolding field on_got expect
  field_other h e = rw (drop-cons s at 0 h, ne_eqb (get_or s at 0) c e)

  module _ (end : ℕ) (h : at < length s) (e : get_or s at 0 ≡ c) (r : RunAt digit s (at + 1) end) where
    digits-length : length (run digit (drop (at + 1) s)) ≡ end - (at + 1)
    digits-length = ap length r.bytes ∙ length-take-le (end - (at + 1)) (drop (at + 1) s) (omega (arith, r.inside, length-drop (at + 1) s))

    field_is_lem :
        field c n (drop at s)
        ≡ cond (eqb (end - (at + 1)) n) (got (number (take (end - (at + 1)) (drop (at + 1) s))) (drop end s)) (failed Fault.WrongDigitCount (drop end s))
    unfolding field on_got expect
    field_is_lem =
        rw (drop-cons s at 0 h, eq-eqb (get_or s at 0) c e, ← (add-one at), digits-length, r.past, r.bytes)
        (holds_then Fault.WrongDigitCount (eqb (end - (at + 1)) n) (drop end s) (λ u. got (number (take (end - (at + 1)) (drop (at + 1) s)))))

    pub field_wrong : (end - (at + 1) ≡ n → ⊥) → field c n (drop at s) ≡ failed Fault.WrongDigitCount (drop end s)
    field_wrong w = field_is_lem ∙ rw (ne_eqb (end - (at + 1)) n w)

    pub field_good : end - (at + 1) ≡ n → field c n (drop at s) ≡ got (number (take (end - (at + 1)) (drop (at + 1) s))) (drop end s)
    field_good w = field_is_lem ∙ rw (eq-eqb (end - (at + 1)) n w)

digit-most : (b : ℕ) → digit b ≡ true → b ≤ 0x39
unfolding digit
digit-most b e = leb-true b 0x39 (and_right (leb 0x30 b) (leb b 0x39) e)

-- three digits are below 1,000
three_digits : (ds : List ℕ) → all digit ds ≡ true → length ds ≡ 3 → number ds < 1_000
unfolding all number_from
three_digits [] a e = absurd (omega arith)
three_digits (x ∷ []) a e = absurd (omega arith)
three_digits (x ∷ (y ∷ [])) a e = absurd (omega arith)
three_digits (x ∷ (y ∷ (z ∷ []))) a e =
    let a₁ = and_right (digit x) (digit y && (digit z && true)) a in
    let a₂ = and_right (digit y) (digit z && true) a₁ in
    omega (
      arith,
      digit-most x (and_left (digit x) (digit y && (digit z && true)) a),
      digit-most y (and_left (digit y) (digit z && true) a₁),
      digit-most z (and_left (digit z) true a₂),
    )
three_digits (x ∷ (y ∷ (z ∷ (w ∷ ds)))) a e = absurd (omega arith)

-- a field that was read, from the answer: its value and where it ends
pub record FieldRead (s : List ℕ) (at c n v next : ℕ) : Type 0 where
  pub value : ℕ
  pub is : field c n (drop at s) ≡ got value (drop next s)
  pub held : v ≡ min value cap
  pub inside : next ≤ length s
  pub small : n ≡ 3 → value < 1_000

module _ (s : List ℕ) (at c n : ℕ) (h : at ≤ length s) where
  never :
      (v next : ℕ) (f : TimeFault) (r : List ℕ)
      → Field.Good v next ≡ field_is (length s) (field c n (drop at s))
      → field c n (drop at s) ≡ failed f r
      → FieldRead s at c n v next
  never v next f r q e =
      let k : Field.Good v next ≡ Field.Bad f (place_of (length s) r) = rw e at q in
      let z : ◌≡◌ {A = ℕ} 0 1 = cc in
      absurd (omega arith)

  field_found :
      at < length s
      → get_or s at 0 ≡ c
      → (v next : ℕ)
      → Field.Good v next ≡ field_is (length s) (field c n (drop at s))
      → FieldRead s at c n v next
  field_found l e v next q =
      let end = at + 1 + length (run digit (drop (at + 1) s)) in
      let r = run_at digit s (at + 1) end (omega arith) refl in
      let ds = take (end - (at + 1)) (drop (at + 1) s) in
      by-test (eqb (end - (at + 1)) n)
      (λ y. let good = field_good s at c n end l e r (eqb-true (end - (at + 1)) n y) in
      let k : Field.Good v next ≡ Field.Good (min (number ds) cap) end = rw (good, place_is s end r.inside) at q in
      let place : next ≡ end = cc in
      record {
        value = number ds;
        is = rw place good;
        held = cc;
        inside = omega (arith, place, r.inside);
        small = λ three.
            let count = digits-length s at c n end l e r in
            rw (← r.bytes)
            (three_digits (run digit (drop (at + 1) s)) (run-all digit (drop (at + 1) s)) (omega (arith, eqb-true (end - (at + 1)) n y, count)));
      })
      (λ z. never v next _ _ q (field_wrong s at c n end l e r (eqb-false (end - (at + 1)) n z)))

  pub field_read : (v next : ℕ) → Field.Good v next ≡ field_is (length s) (field c n (drop at s)) → FieldRead s at c n v next
  field_read v next q =
      by-test (ltb at (length s))
      (λ y. by-test (eqb (get_or s at 0) c)
      (λ e. field_found (ltb-true at (length s) y) (eqb-true (get_or s at 0) c e) v next q)
      (λ d. never v next _ _ q (field_other s at c n (ltb-true at (length s) y) (eqb-false (get_or s at 0) c d))))
      (λ z. never v next _ _ q (field_end s at c n (omega (arith, ltb-false at (length s) z))))

  -- a field that was not read
  pub field_unread : (f : TimeFault) (k : ℕ) → Field.Bad f k ≡ field_is (length s) (field c n (drop at s)) → Unread (field c n (drop at s)) (length s) f k
  field_unread f k q = go (field c n (drop at s)) refl
    where
      go : (x : Result ℕ) → field c n (drop at s) ≡ x → Unread (field c n (drop at s)) (length s) f k
      go (failed g rest) e =
          let b : Field.Bad f k ≡ Field.Bad g (place_of (length s) rest) = rw e at q in
          let same : f ≡ g = cc in
          record { rest = rest; is = rw same e; place = cc }
      go (got v rest) e =
          let b : Field.Bad f k ≡ Field.Good (min v cap) (place_of (length s) rest) = rw e at q in
          let z : ◌≡◌ {A = ℕ} 0 1 = cc in
          absurd (omega arith)

-- the steps after the seconds, from the thousandths' field
module _ (s : List ℕ) (at : ℕ) (t : Time) where
  pub last_unread : (f : TimeFault) (r : List ℕ) → field full_stop 3 (drop at s) ≡ failed f r → last_steps t (drop at s) ≡ failed f r
  unfolding last_steps on_got
  last_unread f r e = rw e

  module _ (v next : ℕ) (r : FieldRead s at full_stop 3 v next) where
    pub last_out : in_range t ≡ false → Stamp.Bad Fault.Over59 next ≡ stamp_is (length s) (last_steps t (drop at s))
    unfolding last_steps on_got
    last_out o = rw (r.is, o, place_is s next r.inside)

    last_in :
        in_range t ≡ true
        → last_steps t (drop at s)
        ≡ got (record { hours = t.hours; minutes = t.minutes; seconds = t.seconds; thousandths = r.value }) (drop next s)
    unfolding last_steps on_got
    last_in i = rw (r.is, i)

    pub last-over : in_range t ≡ true → over_hours t ≡ true → Stamp.Over next ≡ stamp_is (length s) (last_steps t (drop at s))
    unfolding over_hours
    last-over i o = rw (last_in i, o, place_is s next r.inside)

    pub last_at :
        in_range t ≡ true
        → over_hours t ≡ false
        → Stamp.At (t.hours * 3_600_000 + t.minutes * 60_000 + t.seconds * 1_000 + v) next
        ≡ stamp_is (length s) (last_steps t (drop at s))
    unfolding over_hours milliseconds
    last_at i o =
        let e :
        t.hours * 3_600_000 + t.minutes * 60_000 + t.seconds * 1_000 + v
        ≡ 3_600_000 * t.hours + 60_000 * t.minutes + 1_000 * t.seconds + r.value =
        omega (arith, r.held, r.small refl) in
        rw (last_in i, o, place_is s next r.inside, e)

pub in_range_lem : (t : Time) → t.minutes ≤ 59 → t.seconds ≤ 59 → in_range t ≡ true
unfolding in_range
in_range_lem t m s = rw (le-ltb 59 t.minutes m, le-ltb 59 t.seconds s)

pub minutes-out : (t : Time) → 59 < t.minutes → in_range t ≡ false
unfolding in_range
minutes-out t m = rw (lt-ltb 59 t.minutes m)

pub seconds-out : (t : Time) → t.minutes ≤ 59 → 59 < t.seconds → in_range t ≡ false
unfolding in_range
seconds-out t m s = rw (le-ltb 59 t.minutes m, lt-ltb 59 t.seconds s)

pub over-is : (t : Time) → max_hours < t.hours → over_hours t ≡ true
unfolding over_hours
over-is t l = lt-ltb max_hours t.hours l

pub over-not : (t : Time) → t.hours ≤ max_hours → over_hours t ≡ false
unfolding over_hours
over-not t l = le-ltb max_hours t.hours l

in_range-held : (t : Time) → in_range (capped t) ≡ in_range t
unfolding in_range
in_range-held t = rw (ltb-held 59 t.minutes (omega arith), ltb-held 59 t.seconds (omega arith))

in_range-has : (t : Time) → in_range t ≡ true → (t.minutes ≤ 59) × (t.seconds ≤ 59)
in_range-has t e =
    by-test (ltb 59 t.minutes)
    (λ y. absurd (false≢true (sym (minutes-out t (ltb-true 59 t.minutes y)) ∙ e)))
    (λ n. by-test (ltb 59 t.seconds)
    (λ y. absurd (false≢true (sym (seconds-out t (ltb-false 59 t.minutes n) (ltb-true 59 t.seconds y)) ∙ e)))
    (λ z. (ltb-false 59 t.minutes n, ltb-false 59 t.seconds z)))

over-held : (t : Time) → over_hours (capped t) ≡ over_hours t
unfolding over_hours
over-held t = ltb-held max_hours t.hours (omega arith)

-- held values give the same answer
stamp_held :
    (n f : ℕ) (r : List ℕ) (t : Time)
    → in_range t ≡ true
    → stamp_is n (got (record { hours = min t.hours cap; minutes = min t.minutes cap; seconds = min t.seconds cap; thousandths = f }) r)
    ≡ stamp_is n (got (record { hours = t.hours; minutes = t.minutes; seconds = t.seconds; thousandths = f }) r)
unfolding milliseconds over_hours
stamp_held n f r t i =
    let k = in_range-has t i in
    by-test (ltb max_hours t.hours)
    (λ y. rw (ltb-held max_hours t.hours (omega arith), y))
    (λ z. let l = ltb-false max_hours t.hours z in
    let h : min t.hours cap ≡ t.hours = omega arith in
    let m : min t.minutes cap ≡ t.minutes = omega (arith, k.0) in
    let s : min t.seconds cap ≡ t.seconds = omega (arith, k.1) in
    rw (h, m, s))

pub last-held : (n : ℕ) (t : Time) (x : List ℕ) → stamp_is n (last_steps (capped t) x) ≡ stamp_is n (last_steps t x)
unfolding last_steps on_got
last-held n t x = go (field full_stop 3 x) refl
  where
    go : (y : Result ℕ) → field full_stop 3 x ≡ y → stamp_is n (last_steps (capped t) x) ≡ stamp_is n (last_steps t x)
    go (failed g r) e = rw e
    go (got f r) e =
        by-test (in_range t)
        (λ i. rw (e, in_range-held t, i) (stamp_held n f r t i))
        (λ o. rw (e, in_range-held t, o))

-- a timestamp without a first digit
pub stamp_no_digit : (s : List ℕ) (at : ℕ) → length (run digit (drop at s)) ≡ 0 → timestamp (drop at s) ≡ failed Fault.DigitMissing (drop at s)
unfolding timestamp on_got is_empty
stamp_no_digit s at z = go (run digit (drop at s)) refl z
  where
    go : (ds : List ℕ) → run digit (drop at s) ≡ ds → length ds ≡ 0 → timestamp (drop at s) ≡ failed Fault.DigitMissing (drop at s)
    go [] e l = rw e
    go (b ∷ ds) e l = absurd (omega arith)

-- the first digits, where there are some
pub first_at : (s : List ℕ) (at end : ℕ) → end ≡ at + length (run digit (drop at s)) → (end ≡ at → ⊥) → RunAt digit s at end
first_at s at end e n =
    by-test (ltb at (length s))
    (λ y. let l = ltb-true at (length s) y in run_at digit s at end (omega arith) e)
    (λ z. absurd (n (omega (arith, ap length (run_end digit s at (ltb-false at (length s) z))))))

-- a timestamp from its first digits on
module _ (s : List ℕ) (at end : ℕ) (r : RunAt digit s at end) where
  abbrev pub first_digits : List ℕ
  first_digits = take (end - at) (drop at s)

  pub first-length : length first_digits ≡ end - at
  first-length = length-take-le (end - at) (drop at s) (omega (arith, r.inside, length-drop at s))

  module _ (some : at < end) where
    stamp_second :
        timestamp (drop at s)
        ≡ on_got (field colon 2 (drop end s)) (λ second x. on_got (three_values first_digits second x) last_steps)
    unfolding timestamp on_got
    stamp_second = rw (r.bytes, is_empty-not first_digits (omega (arith, first-length)), r.past, r.bytes)

    pub stamp_no_second : (f : TimeFault) (x : List ℕ) → field colon 2 (drop end s) ≡ failed f x → timestamp (drop at s) ≡ failed f x
    unfolding on_got
    stamp_no_second f x e = stamp_second ∙ rw e

    module _ (v next : ℕ) (second : FieldRead s end colon 2 v next) where
      stamp_three : timestamp (drop at s) ≡ on_got (three_values first_digits second.value (drop next s)) last_steps
      unfolding on_got
      stamp_three = stamp_second ∙ rw second.is

      pub stamp_no_third :
          hours_first first_digits || starts_with (colon ∷ []) (drop next s) ≡ true
          → (f : TimeFault) (x : List ℕ)
          → field colon 2 (drop next s) ≡ failed f x
          → timestamp (drop at s) ≡ failed f x
      unfolding three_values on_got
      stamp_no_third t f x e = stamp_three ∙ rw (t, e)

      pub stamp_third :
          hours_first first_digits || starts_with (colon ∷ []) (drop next s) ≡ true
          → (v₃ last : ℕ)
          → (third : FieldRead s next colon 2 v₃ last)
          → timestamp (drop at s)
          ≡ last_steps (record { hours = number first_digits; minutes = second.value; seconds = third.value; thousandths = 0 }) (drop last s)
      unfolding three_values on_got
      stamp_third t v₃ last third = stamp_three ∙ rw (t, third.is)

      pub stamp_two :
          hours_first first_digits || starts_with (colon ∷ []) (drop next s) ≡ false
          → timestamp (drop at s)
          ≡ last_steps (record { hours = 0; minutes = number first_digits; seconds = second.value; thousandths = 0 }) (drop next s)
      unfolding three_values on_got
      stamp_two t = stamp_three ∙ rw t
