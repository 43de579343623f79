-- Facts on Boolean tests and on small lists that the kit's libraries lack.
use Prim.Native.Nat.{ℕ, zero, suc}
use mathlib.Core.Path.{◌≡◌, refl, sym}
use mathlib.Core.Bool.{Bool, true, false, not, ◌&&◌, ◌||◌, false≢true, true≢false}
use mathlib.Core.List.{List, [], ◌∷◌, ◌++◌}
use lib.Dec.{eqb}
use lib.ListN.{take}

pub and_left : (a b : Bool) → a && b ≡ true → a ≡ true
and_left true b e = refl
and_left false b e = e

pub and_right : (a b : Bool) → a && b ≡ true → b ≡ true
and_right true b e = e
and_right false b e = absurd (false≢true e)

pub and_both : (a b : Bool) → a ≡ true → b ≡ true → a && b ≡ true
and_both a b p q = rw (p, q)

pub and-false : (a b : Bool) → b ≡ false → a && b ≡ false
and-false true b e = e
and-false false b e = refl

pub and-true : (a : Bool) → a && true ≡ a
and-true true = refl
and-true false = refl

pub and_swap : (a b : Bool) → a && b ≡ b && a
and_swap true b = sym (and-true b)
and_swap false b = sym (and-false b false refl)

pub or_true : (a : Bool) → a || true ≡ true
or_true true = refl
or_true false = refl

pub or_false : (a : Bool) → a || false ≡ a
or_false true = refl
or_false false = refl

pub or_first : (a b : Bool) → a || b ≡ false → a ≡ false
or_first true b e = e
or_first false b e = refl

pub or_second : (a b : Bool) → a || b ≡ false → b ≡ false
or_second true b e = absurd (true≢false e)
or_second false b e = e

-- by cases on a test, with what it says in hand
pub by-test {ℓ} : {P : Type ℓ} (b : Bool) → (b ≡ true → P) → (b ≡ false → P) → P
by-test true t f = t refl
by-test false t f = f refl

-- a byte that stands nowhere in a text
unfoldable pub absent : ℕ → List ℕ → Bool
absent c [] = true
absent c (b ∷ s) = not (eqb b c) && absent c s

pub absent_append : (c : ℕ) (s t : List ℕ) → absent c s ≡ true → absent c t ≡ true → absent c (s ++ t) ≡ true
unfolding absent
absent_append c [] t p q = q
absent_append c (b ∷ s) t p q =
    and_both (not (eqb b c)) (absent c (s ++ t)) (and_left (not (eqb b c)) (absent c s) p)
    (absent_append c s t (and_right (not (eqb b c)) (absent c s) p) q)

pub absent_take : (c n : ℕ) (s : List ℕ) → absent c s ≡ true → absent c (take n s) ≡ true
unfolding absent
absent_take c zero s p = refl
absent_take c (suc n) [] p = refl
absent_take c (suc n) (b ∷ s) p =
    and_both (not (eqb b c)) (absent c (take n s)) (and_left (not (eqb b c)) (absent c s) p)
    (absent_take c n s (and_right (not (eqb b c)) (absent c s) p))
