-- Decimals of a slice, by the tests that the code makes, and values held at the cap.
use Prim.Native.Nat.{ℕ, ◌+◌, ◌-◌, ◌≤◌, ◌<◌, min}
use mathlib.Core.Path.{◌≡◌, refl, sym, ◌∙◌}
use mathlib.Core.Bool.{Bool, true, false, cond, not, ◌&&◌, true≢false, false≢true}
use mathlib.Core.List.{List, [], ◌∷◌}
use Rattle.std.specs.Prelude.{Option, None, Some, Ok, Err}
use Rattle.std.specs.Prelude.{Result as Answered}
use native.Mathlib.Numerals.{add-one}
use native.Mathlib.Omega.{arith}
use lib.Dec.{eqb, ltb}
use lib.ListN.{length, get_or, take, drop, drop_of_length-le, length-drop}
use lib.Seq.{drop-cons, length-take-le}
use borrow.Author.Tests.{eqb-true, eqb-false, eq-eqb, ne_eqb, lt-ltb, le-ltb, ltb-true, ltb-false}
use Rattle.format.specs.Bytes.{digit, full_stop, hyphen, percent}
use Rattle.format.specs.Texts.{all, run, past_run, is_empty, starts_with, ends_with}
use Rattle.format.specs.Numbers.{number, some_digits, Decimal, decimal_of, decimal, above, millionths, up_to100, percentage, signed, line_number, over_line, is_negative, line_count}
use Rattle.laws.proofs.Tests.{by-test, and_left, and-true, and-false}
use Rattle.laws.proofs.Runs.{RunStart, ends_with-last, without_last-take}
use Rattle.values.specs.declared.numbers.Decimal.{Decimal as Held}
use Rattle.values.specs.declared.numbers.LineNumber.{LineNumber}
use Rattle.values.specs.declared.numbers.NumberError.{NumberError}
use Rattle.values.specs.Numbers.{cap, held, decimal_is, above_held, up_to, line_number_is}

-- a test against a number below the cap is the same on the held value
pub ltb-held : (k v : ℕ) → k < cap → ltb k (min v cap) ≡ ltb k v
ltb-held k v l =
    by-test (ltb k v)
    (λ y. lt-ltb k (min v cap) (omega (arith, ltb-true k v y)) ∙ sym y)
    (λ n. le-ltb k (min v cap) (omega (arith, ltb-false k v n)) ∙ sym n)

pub empty_is : (s : List ℕ) → length s ≡ 0 → is_empty s ≡ true
unfolding is_empty
empty_is [] l = refl
empty_is (b ∷ s) l = absurd (omega arith)

pub is_empty-not : (s : List ℕ) → 0 < length s → is_empty s ≡ false
unfolding is_empty
is_empty-not [] l = absurd (omega arith)
is_empty-not (b ∷ s) l = refl

eqb-held : (k v : ℕ) → k < cap → eqb (min v cap) k ≡ eqb v k
eqb-held k v l =
    by-test (eqb v k)
    (λ y. eq-eqb (min v cap) k (omega (arith, eqb-true v k y)) ∙ sym y)
    (λ n. ne_eqb (min v cap) k (λ e. eqb-false v k n (omega arith)) ∙ sym n)

above_held_lem :
    (limit : ℕ) (d : Decimal)
    → limit < cap
    → above_held limit (min (number d.whole) cap) (not (all (λ b. eqb b 0x30) d.fraction)) ≡ above limit d
unfolding above
above_held_lem limit d l = rw (ltb-held limit (number d.whole) l, eqb-held limit (number d.whole) l)

-- a decimal that is not above a limit
pub not-above : (limit w : ℕ) (m : Bool) → above_held limit w m ≡ false → w ≤ limit
not-above limit w m e =
    by-test (ltb limit w)
    (λ y. let f : true ≡ false = rw y at e in absurd (true≢false f))
    (λ n. ltb-false limit w n)

exact : (limit : ℕ) (d : Decimal) → limit < cap → above limit d ≡ false → min (number d.whole) cap ≡ number d.whole
exact limit d l e =
    let n = not-above limit (min (number d.whole) cap) (not (all (λ b. eqb b 0x30) d.fraction)) (above_held_lem limit d l ∙ e) in
    omega arith

-- the number that the code holds, where there is one
pub share-none : (o : Option Decimal) → decimal_is o ≡ None → up_to100 o ≡ None
unfolding up_to100
share-none None e = refl
share-none (Some d) e = let z : ◌≡◌ {A = ℕ} 0 1 = cc in absurd (omega arith)

pub share_is : (o : Option Decimal) (h : Held) → decimal_is o ≡ Some h → up_to 100 h ≡ up_to100 o
unfolding up_to100 millionths
share_is None h e = let z : ◌≡◌ {A = ℕ} 0 1 = cc in absurd (omega arith)
share_is (Some d) h e =
    let k : h ≡ held d = cc in
    by-test (above 100 d)
    (λ y. rw (k, above_held_lem 100 d (omega arith), y))
    (λ n. rw (k, above_held_lem 100 d (omega arith), n, exact 100 d (omega arith) n))

pub signed-none : (minus : Bool) (o : Option Decimal) → decimal_is o ≡ None → line_number_is (signed minus o) ≡ Err NumberError.Bad
unfolding signed
signed-none minus None e = refl
signed-none minus (Some d) e = let z : ◌≡◌ {A = ℕ} 0 1 = cc in absurd (omega arith)

-- a line number, by the held number in millionths
abbrev pub line_at : Bool → Option ℕ → Answered LineNumber NumberError
line_at minus None = Err NumberError.Over
line_at minus (Some n) = Ok (record { negative = minus && ltb 0 n; millionths = n })

pub signed-is : (minus : Bool) (o : Option Decimal) (h : Held) → decimal_is o ≡ Some h → line_number_is (signed minus o) ≡ line_at minus (up_to 999_999 h)
unfolding signed over_line is_negative millionths
signed-is minus None h e = let z : ◌≡◌ {A = ℕ} 0 1 = cc in absurd (omega arith)
signed-is minus (Some d) h e =
    let k : h ≡ held d = cc in
    by-test (above 999_999 d)
    (λ y. rw (k, above_held_lem 999_999 d (omega arith), y))
    (λ n. rw (k, above_held_lem 999_999 d (omega arith), n, exact 999_999 d (omega arith) n))

-- a decimal from the digits at a slice's start
module _ (s : List ℕ) (end : ℕ) (r : RunStart digit s end) where
  pub decimal-none : end ≡ 0 → decimal s ≡ None
  unfolding decimal decimal_of is_empty
  decimal-none e = rw (r.bytes, e) (go (past_run digit s))
    where
      go : (x : List ℕ) → decimal_of [] x ≡ None
      go [] = refl
      go (b ∷ x) = refl

  module _ (any : 0 < end) where
    whole : is_empty (take end s) ≡ false
    whole = is_empty-not (take end s) (omega (arith, length-take-le end s r.inside))

    pub decimal-whole : end ≡ length s → decimal s ≡ Some (record { whole = take end s; fraction = [] })
    unfolding decimal decimal_of
    decimal-whole e = let l : length s ≤ end = omega arith in rw (r.bytes, r.past, drop_of_length-le s l, whole)

    stop_is :
        end < length s
        → decimal s
        ≡ cond (eqb (get_or s end 0) full_stop && some_digits (drop (end + 1) s))
        (Some (record { whole = take end s; fraction = drop (end + 1) s })) None
    unfolding decimal decimal_of
    stop_is l = rw (r.bytes, r.past, add-one end, drop-cons s end 0 l, whole)

    pub decimal_no_stop : end < length s → (get_or s end 0 ≡ full_stop → ⊥) → decimal s ≡ None
    decimal_no_stop l e = stop_is l ∙ rw (ne_eqb (get_or s end 0) full_stop e)

    pub decimal_no_fraction : end < length s → length s ≡ end + 1 → decimal s ≡ None
    unfolding some_digits is_empty
    decimal_no_fraction l e =
        let k : length s ≤ end + 1 = omega arith in
        stop_is l ∙ rw (drop_of_length-le s k, and-false (eqb (get_or s end 0) full_stop) false refl)

    module _ (l : end < length s) (e : get_or s end 0 ≡ full_stop) (more : end + 1 < length s) where
      fraction-is : decimal s ≡ cond (all digit (drop (end + 1) s)) (Some (record { whole = take end s; fraction = drop (end + 1) s })) None
      unfolding some_digits
      fraction-is =
          stop_is l
          ∙ rw (eq-eqb (get_or s end 0) full_stop e, is_empty-not (drop (end + 1) s) (omega (arith, length-drop (end + 1) s)))

      pub decimal_bad_fraction : all digit (drop (end + 1) s) ≡ false → decimal s ≡ None
      decimal_bad_fraction a = fraction-is ∙ rw a

      pub decimal-fraction : all digit (drop (end + 1) s) ≡ true → decimal s ≡ Some (record { whole = take end s; fraction = drop (end + 1) s })
      decimal-fraction a = fraction-is ∙ rw a

pub none_empty_lem : (s : List ℕ) → length s ≡ 0 → s ≡ []
none_empty_lem [] e = refl
none_empty_lem (b ∷ s) e = absurd (omega arith)

pub percentage-short : (s : List ℕ) → length s ≡ 0 → percentage s ≡ None
unfolding percentage ends_with
percentage-short s e = rw (none_empty_lem s e)

pub percentage_other : (s : List ℕ) → 0 < length s → (get_or s (length s - 1) 0 ≡ percent → ⊥) → percentage s ≡ None
unfolding percentage
percentage_other s h e = rw (ends_with-last percent s h, ne_eqb (get_or s (length s - 1) 0) percent e)

pub percentage_is_lem : (s : List ℕ) → 0 < length s → get_or s (length s - 1) 0 ≡ percent → percentage s ≡ up_to100 (decimal (take (length s - 1) s))
unfolding percentage
percentage_is_lem s h e = rw (ends_with-last percent s h, eq-eqb (get_or s (length s - 1) 0) percent e, without_last-take s)

pub line_minus : (s : List ℕ) → starts_with (hyphen ∷ []) s ≡ true → (0 < length s) × (line_number s ≡ signed true (decimal (drop 1 s)))
unfolding line_number starts_with
line_minus [] e = absurd (false≢true e)
line_minus (b ∷ s) e = (omega arith, rw (and_left (eqb b hyphen) true e))

pub line_plain : (s : List ℕ) → starts_with (hyphen ∷ []) s ≡ false → line_number s ≡ signed false (decimal s)
unfolding line_number signed decimal decimal_of run past_run is_empty starts_with
line_plain [] e = refl
line_plain (b ∷ s) e = rw (sym (and-true (eqb b hyphen)) ∙ e)

pub count_none : (s : List ℕ) → length s ≡ 0 → line_count s ≡ None
unfolding line_count some_digits is_empty
count_none s e = rw (none_empty_lem s e)

pub count_other : (s : List ℕ) → all digit s ≡ false → line_count s ≡ None
unfolding line_count some_digits
count_other s a = rw (a, and-false (not (is_empty s)) false refl)

pub count-is : (s : List ℕ) → 0 < length s → all digit s ≡ true → line_count s ≡ Some (number s)
unfolding line_count some_digits
count-is s h a = rw (a, is_empty-not s h)
