-- Laws of the numbers that fields hold: how their bytes begin, and their digits, one after the other.
use Prim.Native.Nat.{ℕ, ◌+◌, ◌-◌, ◌*◌, ◌≤◌, ◌<◌}
use mathlib.Core.Path.{◌≡◌, refl, sym, ◌∙◌}
use mathlib.Core.Bool.{Bool, true, false, cond, not, ◌&&◌, false≢true}
use mathlib.Core.List.{List, [], ◌∷◌}
use Rattle.std.specs.Prelude.{None, Some}
use native.Mathlib.Numerals.{add-one}
use native.Mathlib.Omega.{arith}
use lib.Dec.{eqb, leb, ltb}
use lib.ListN.{length, get_or, drop, drop_of_length-le}
use lib.Seq.{drop-cons}
use borrow.Author.Tests.{lt-ltb, le-leb, lt-leb, ltb-true, ltb-false, leb-true}
use Rattle.format.specs.Bytes.{ascii, digit}
use Rattle.format.specs.Texts.{is_empty, starts_with, all}
use Rattle.format.specs.Numbers.{number_from, number, some_digits}
use Rattle.format.specs.Fields.{field_number}
use Rattle.laws.proofs.Tests.{by-test, and_left, and_right, and-true, and-false}
use Rattle.fields.specs.Fields.{begins_well, digits_from}

-- no bytes, too many, one, or more
pub begins-none : (f : List ℕ) → length f ≡ 0 → begins_well f ≡ false
unfolding begins_well is_empty
begins-none [] e = refl
begins-none (b ∷ f) e = absurd (omega arith)

begins-long : (f : List ℕ) → 12 < length f → begins_well f ≡ false
unfolding begins_well is_empty
begins-long [] l = absurd (omega arith)
begins-long (b ∷ f) l = rw (lt-ltb 12 (length (b ∷ f)) l) refl

pub begins_alone : (f : List ℕ) → length f ≡ 1 → begins_well f ≡ true
unfolding begins_well is_empty starts_with
begins_alone [] e = absurd (omega arith)
begins_alone (b ∷ []) e = rw (and-true (eqb b 0x30)) (zero_alone (eqb b 0x30))
  where
    zero_alone : (t : Bool) → not (t && false) ≡ true
    zero_alone true = refl
    zero_alone false = refl
begins_alone (b ∷ (c ∷ f)) e = absurd (omega arith)

one_test : (n : ℕ) (t : Bool) → not (ltb 12 n) && not t ≡ not t && leb n 12
one_test n t =
    by-test (ltb 12 n)
    (λ y. rw (y, lt-leb n 12 (ltb-true 12 n y)) (sym (and-false (not t) false refl)))
    (λ z. rw (z, le-leb n 12 (ltb-false 12 n z)) (sym (and-true (not t))))

pub begins-first : (f : List ℕ) → 1 < length f → begins_well f ≡ not (eqb (get_or f 0 0) 0x30) && leb (length f) 12
unfolding begins_well is_empty starts_with
begins-first [] l = absurd (omega arith)
begins-first (b ∷ f) l =
    rw (lt-ltb 1 (length (b ∷ f)) l, and-true (eqb b 0x30), and-true (eqb b 0x30)) (one_test (length (b ∷ f)) (eqb b 0x30))

pub begins-short : (f : List ℕ) → begins_well f ≡ true → length f ≤ 12
begins-short f e =
    by-test (ltb 12 (length f))
    (λ y. absurd (false≢true (sym (begins-long f (ltb-true 12 (length f) y)) ∙ e)))
    (λ n. ltb-false 12 (length f) n)

-- a number is one where its bytes begin well and are digits
chosen :
    {A : Type 0} (Some digits short plain : Bool) (a b : A)
    → cond (Some && digits && short && plain) a b ≡ cond (Some && short && plain) (cond digits a b) b
chosen true true short plain a b = refl
chosen true false true true a b = refl
chosen true false true false a b = refl
chosen true false false plain a b = refl
chosen false digits short plain a b = refl

pub number_is_lem : (f : List ℕ) → field_number f ≡ cond (begins_well f) (digits_from 0 f) None
unfolding field_number some_digits begins_well digits_from
number_is_lem f =
    chosen (not (is_empty f)) (all digit f) (not (ltb 12 (length f))) (not (starts_with (ascii "0") f && ltb 1 (length f)))
    (Some (number f))
    None

pub digit_range : (b : ℕ) → digit b ≡ true → (0x30 ≤ b) × (b ≤ 0x39)
unfolding digit
digit_range b e =
    (leb-true 0x30 b (and_left (leb 0x30 b) (leb b 0x39) e), leb-true b 0x39 (and_right (leb 0x30 b) (leb b 0x39) e))

-- digits from a place on
pub digits-stop : (n : ℕ) (f : List ℕ) (i : ℕ) → i < length f → digit (get_or f i 0) ≡ false → digits_from n (drop i f) ≡ None
unfolding digits_from all
digits-stop n f i l e = rw (drop-cons f i 0 l, e) refl

pub digits-next :
    (n : ℕ) (f : List ℕ) (i : ℕ)
    → i < length f
    → digit (get_or f i 0) ≡ true
    → digits_from n (drop i f) ≡ digits_from (n * 10 + (get_or f i 0 - 0x30)) (drop (i + 1) f)
unfolding digits_from all number_from
digits-next n f i l e = rw (add-one i, drop-cons f i 0 l, e) refl

pub digits-end : (n : ℕ) (f : List ℕ) (i : ℕ) → length f ≤ i → digits_from n (drop i f) ≡ Some n
unfolding digits_from all number_from
digits-end n f i l = rw (drop_of_length-le f l) refl
