-- Laws of the digits of a number, as the code finds them: the first one, and the zeros at either end.
use Prim.Native.Nat.{ℕ, zero, suc, ◌+◌, ◌/◌, ◌%◌, ◌^◌, ◌≤◌, ◌<◌, ◌-◌}
use mathlib.Core.Path.{◌≡◌, refl, sym, ap, ◌∙◌}
use mathlib.Core.Bool.{false}
use mathlib.Core.List.{List, [], ◌∷◌, ◌++◌}
use native.Mathlib.Omega.{arith}
use native.Mathlib.Nat.{add-zero, add-suc, div-one, zero-div, div-div-eq-div-mul, pow-suc, pow-succ'}
use lib.Pow.{pow-add}
use lib.Dec.{eqb, leb}
use borrow.Author.Tests.{le-leb, leb-true, ne_eqb}
use Rattle.format.specs.Texts.{is_empty}
use Rattle.format.specs.Bytes.{full_stop}
use Rattle.format.specs.Written.{last_digits, at_least, on_digit, without_zeros, fraction}
use Rattle.laws.proofs.Tests.{and-false, by-test}
use Rattle.roundtrip.proofs.Numbers.{digits-length}

-- the first of k + 1 digits
digits-first : (k n : ℕ) → last_digits (suc k) n ≡ (0x30 + n / 10 ^ k % 10) ∷ last_digits k n
unfolding last_digits
digits-first zero n = ap (λ m. (0x30 + m % 10) ∷ []) (sym (div-one n))
digits-first (suc k) n =
    let e : n / 10 / 10 ^ k ≡ n / 10 ^ suc k = div-div-eq-div-mul n 10 (10 ^ k) ∙ ap (λ p. n / p) (sym (pow-succ' 10 k)) in
    ap (λ ds. ds ++ (0x30 + n % 10) ∷ []) (digits-first k (n / 10)) ∙ rw e refl

-- one digit more is cut off
pub over_ten : (n k : ℕ) → n / 10 ^ k / 10 ≡ n / 10 ^ suc k
over_ten n k = div-div-eq-div-mul n (10 ^ k) 10 ∙ ap (λ p. n / p) (sym (pow-suc 10 k))

-- zeros at the start: digits beyond the least count are dropped while they are zeros
zeros_above : (w k n : ℕ) → n / 10 ^ w ≡ 0 → n / 10 ^ (w + k) ≡ 0
zeros_above w k n z =
    ap (λ p. n / p) (pow-add 10 w k) ∙ sym (div-div-eq-div-mul n (10 ^ w) (10 ^ k)) ∙ ap (λ m. m / 10 ^ k) z ∙ zero-div (10 ^ k)

zeros_before : (least w k n : ℕ) → least ≤ w → n / 10 ^ w ≡ 0 → at_least least (last_digits (w + k) n) ≡ at_least least (last_digits w n)
unfolding at_least
zeros_before least w zero n h z = rw (add-zero w) refl
zeros_before least w (suc k) n h z =
    rw (add-suc w k, digits-first (w + k) n, zeros_above w k n z, digits-length (w + k) n, le-leb least (w + k) (omega arith))
    (zeros_before least w k n h z)

pub zeros_dropped : (least w m n : ℕ) → least ≤ w → w ≤ m → n / 10 ^ w ≡ 0 → at_least least (last_digits m n) ≡ at_least least (last_digits w n)
zeros_dropped least w m n h l z =
    let e : w + (m - w) ≡ m = omega arith in
    ap (λ k. at_least least (last_digits k n)) (sym e) ∙ zeros_before least w (m - w) n h z

-- and so many digits are kept as no lesser count would do for
none_kept : (least n : ℕ) → at_least least (last_digits 0 n) ≡ last_digits 0 n
unfolding at_least last_digits
none_kept least n = refl

pub all-kept :
    (least w n : ℕ) → n / 10 ^ w ≡ 0 → ((k : ℕ) → k < w → least ≤ k → n / 10 ^ k ≡ 0 → ⊥) → at_least least (last_digits w n) ≡ last_digits w n
unfolding at_least
all-kept least zero n z h = none_kept least n
all-kept least (suc k) n z h =
    let d = 0x30 + n / 10 ^ k % 10 in
    by-test (leb least k)
    (λ long.
    let other = ne_eqb d 0x30 (λ e. h k (omega arith) (leb-true least k long) (omega (arith, over_ten n k))) in
    rw (digits-first k n, other) refl)
    (λ short. rw (digits-first k n, digits-length k n, short, and-false (eqb d 0x30) false refl) refl)

-- zeros at the end
last-zero : (ds : List ℕ) → without_zeros (ds ++ 0x30 ∷ []) ≡ without_zeros ds
unfolding without_zeros on_digit is_empty
last-zero [] = refl
last-zero (d ∷ ds) = ap (on_digit d) (last-zero ds)

some-last : (ds : List ℕ) (d : ℕ) → is_empty (ds ++ d ∷ []) ≡ false
unfolding is_empty
some-last [] d = refl
some-last (c ∷ ds) d = refl

last_other : (ds : List ℕ) (d : ℕ) → eqb d 0x30 ≡ false → without_zeros (ds ++ d ∷ []) ≡ ds ++ d ∷ []
unfolding without_zeros on_digit
last_other [] d e = rw e refl
last_other (c ∷ ds) d e =
    rw (last_other ds d e, some-last ds d, and-false (eqb c 0x30) false refl) refl

pub zero_cut : (k n : ℕ) → 0 < k → n % 10 ≡ 0 → without_zeros (last_digits k n) ≡ without_zeros (last_digits (k - 1) (n / 10))
unfolding last_digits
zero_cut zero n h e = absurd (omega arith)
zero_cut (suc k) n h e =
    let less : suc k - 1 ≡ k = omega arith in
    rw (less, e) (last-zero (last_digits k (n / 10)))

pub end_kept : (k n : ℕ) → 0 < k → (n % 10 ≡ 0 → ⊥) → without_zeros (last_digits k n) ≡ last_digits k n
unfolding last_digits
end_kept zero n l h = absurd (omega arith)
end_kept (suc k) n l h = last_other (last_digits k (n / 10)) (0x30 + n % 10) (ne_eqb (0x30 + n % 10) 0x30 (λ e. h (omega arith)))

-- the fraction that digits give, where there are any
pub fraction-some : (k n : ℕ) → 0 < k → fraction (last_digits k n) ≡ full_stop ∷ last_digits k n
unfolding fraction
fraction-some zero n h = absurd (omega arith)
fraction-some (suc k) n h = rw (digits-first k n) refl

pub fraction-none : (n : ℕ) → fraction (without_zeros (last_digits 0 n)) ≡ []
unfolding fraction without_zeros last_digits
fraction-none n = refl
