-- A first byte's leading one bits, C2 to F4, and the four narrowed ranges say what the table says: one test over all bytes.
use Prim.Native.Nat.{ℕ, zero, suc, ◌-◌, ◌≤◌, ◌<◌}
use mathlib.Core.Path.{◌≡◌, refl, ap, ◌∙◌}
use mathlib.Core.Bool.{Bool, true, false, cond, ◌&&◌, false≢true}
use mathlib.Core.List.{List, [], ◌∷◌}
use Rattle.std.specs.Prelude.{Option, None, Some}
use native.Mathlib.Omega.{arith}
use lib.Count.{count_leading_zeros}
use lib.Dec.{leb, eqb, ltb}
use borrow.Author.Tests.{leb-true, eqb-true, eqb-false, ne_eqb, eq-eqb, lt-ltb, le-ltb}
use Rattle.format.specs.Plain.{Range, within, table, following}
use Rattle.laws.proofs.Tests.{and_left, and_right, by-test}
use Rattle.plain.specs.Lead.{row_of, low_of, high_of}

same_range : Range → Range → Bool
same_range r q = eqb r.low q.low && eqb r.high q.high

same_ranges : List Range → List Range → Bool
same_ranges [] [] = true
same_ranges [] (q ∷ qs) = false
same_ranges (r ∷ rs) [] = false
same_ranges (r ∷ rs) (q ∷ qs) = same_range r q && same_ranges rs qs

same_row : Option (List Range) → Option (List Range) → Bool
same_row None None = true
same_row None (Some qs) = false
same_row (Some rs) None = false
same_row (Some rs) (Some qs) = same_ranges rs qs

range_is : (r q : Range) → same_range r q ≡ true → r ≡ q
unfolding same_range
range_is r q e =
    let l = eqb-true r.low q.low (and_left (eqb r.low q.low) (eqb r.high q.high) e) in
    let h = eqb-true r.high q.high (and_right (eqb r.low q.low) (eqb r.high q.high) e) in
    λ i. record { low = l i; high = h i }

ranges_are : (rs qs : List Range) → same_ranges rs qs ≡ true → rs ≡ qs
unfolding same_ranges
ranges_are [] [] e = refl
ranges_are [] (q ∷ qs) e = absurd (false≢true e)
ranges_are (r ∷ rs) [] e = absurd (false≢true e)
ranges_are (r ∷ rs) (q ∷ qs) e =
    let p = range_is r q (and_left (same_range r q) (same_ranges rs qs) e) in
    let ps = ranges_are rs qs (and_right (same_range r q) (same_ranges rs qs) e) in
    cc

row_is : (o p : Option (List Range)) → same_row o p ≡ true → o ≡ p
unfolding same_row
row_is None None e = refl
row_is None (Some qs) e = absurd (false≢true e)
row_is (Some rs) None e = absurd (false≢true e)
row_is (Some rs) (Some qs) e = ap Some (ranges_are rs qs e)

-- a test that holds of every number below n
all_below : ℕ → (ℕ → Bool) → Bool
all_below zero f = true
all_below (suc n) f = f n && all_below n f

holds : (n : ℕ) (f : ℕ → Bool) → all_below n f ≡ true → (k : ℕ) → k < n → f k ≡ true
unfolding all_below
holds zero f a k l = absurd (omega arith)
holds (suc n) f a k l =
    by-test (eqb k n)
    (λ y. rw (eqb-true k n y) (and_left (f n) (all_below n f) a))
    (λ m. holds n f (and_right (f n) (all_below n f) a) k (omega (arith, eqb-false k n m)))

-- the length that the code finds
length_of : ℕ → ℕ
length_of b =
    cond (eqb (count_leading_zeros 8 (255 - b)) 0) 1
    (cond (ltb b 0xC2) 0 (cond (ltb 0xF4 b) 0 (count_leading_zeros 8 (255 - b))))

right : ℕ → Bool
right b = leb (length_of b) 4 && same_row (following table b) (row_of (length_of b) (low_of b) (high_of b))

all_right : all_below 256 right ≡ true
unfolding all_below right same_row same_ranges same_range following table within row_of length_of count_leading_zeros
all_right = refl

lead : (b : ℕ) → b < 256 → (length_of b ≤ 4) × (following table b ≡ row_of (length_of b) (low_of b) (high_of b))
unfolding right
lead b l =
    let short = leb (length_of b) 4 in
    let same = same_row (following table b) (row_of (length_of b) (low_of b) (high_of b)) in
    let both = holds 256 right all_right b l in
    (leb-true (length_of b) 4 (and_left short same both), row_is _ _ (and_right short same both))

-- what the code's tests say of the byte
module _ (b : ℕ) (byte : b < 256) where
  pub lead_ascii : count_leading_zeros 8 (255 - b) ≡ 0 → following table b ≡ row_of 1 0 0
  unfolding length_of row_of
  lead_ascii e = (lead b byte).1 ∙ rw (eq-eqb (count_leading_zeros 8 (255 - b)) 0 e)

  pub lead_low : (count_leading_zeros 8 (255 - b) ≡ 0 → ⊥) → b < 0xC2 → following table b ≡ row_of 0 0 0
  unfolding length_of row_of
  lead_low n l = (lead b byte).1 ∙ rw (ne_eqb (count_leading_zeros 8 (255 - b)) 0 n, lt-ltb b 0xC2 l)

  pub lead_high : (count_leading_zeros 8 (255 - b) ≡ 0 → ⊥) → 0xC2 ≤ b → 0xF4 < b → following table b ≡ row_of 0 0 0
  unfolding length_of row_of
  lead_high n l h = (lead b byte).1 ∙ rw (ne_eqb (count_leading_zeros 8 (255 - b)) 0 n, le-ltb b 0xC2 l, lt-ltb 0xF4 b h)

  pub lead_whole :
      (count_leading_zeros 8 (255 - b) ≡ 0 → ⊥)
      → 0xC2 ≤ b
      → b ≤ 0xF4
      → (count_leading_zeros 8 (255 - b) ≤ 4) × (following table b ≡ row_of (count_leading_zeros 8 (255 - b)) (low_of b) (high_of b))
  unfolding length_of
  lead_whole n l h =
      let e : length_of b ≡ count_leading_zeros 8 (255 - b) =
      rw (ne_eqb (count_leading_zeros 8 (255 - b)) 0 n, le-ltb b 0xC2 l, le-ltb 0xF4 b h) in
      rw e at (lead b byte)
