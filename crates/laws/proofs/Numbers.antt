-- Numbers of any count of digits, held at a cap: what is beyond it stays there, whatever digits follow.
use Prim.Native.Nat.{ℕ, ◌+◌, ◌-◌, ◌*◌, ◌≤◌, ◌<◌, min}
use mathlib.Core.Path.{◌≡◌, refl}
use mathlib.Core.List.{List, [], ◌∷◌, ◌++◌}
use native.Mathlib.Numerals.{add-one}
use native.Mathlib.Omega.{arith}
use lib.ListN.{length, get_or, take, drop, drop_of_length-le}
use lib.Seq.{drop-cons}
use lib.Dec.{leb}
use borrow.Author.Tests.{leb-true, leb-false}
use Rattle.format.specs.Bytes.{ascii}
use Rattle.format.specs.Numbers.{number_from, number}
use Rattle.laws.proofs.Tests.{by-test}

number_grows : (n : ℕ) (ds : List ℕ) → n ≤ number_from n ds
unfolding number_from
number_grows n [] = omega arith
number_grows n (d ∷ ds) = omega (arith, number_grows (n * 10 + (d - 0x30)) ds)

-- the law of saturated numbers
pub number-capped : (cap n : ℕ) (ds : List ℕ) → min (number_from (min n cap) ds) cap ≡ min (number_from n ds) cap
number-capped cap n ds =
    by-test (leb n cap)
    (λ y. let e : min n cap ≡ n = omega (arith, leb-true n cap y) in rw e)
    (λ z. let e : min n cap ≡ cap = omega (arith, leb-false n cap z) in
    rw e (omega (arith, leb-false n cap z, number_grows cap ds, number_grows n ds)))

pub number-next : (n : ℕ) (ds : List ℕ) (i : ℕ) → i < length ds → number_from n (drop i ds) ≡ number_from (n * 10 + (get_or ds i 0 - 0x30)) (drop (i + 1) ds)
unfolding number_from
number-next n ds i h = rw (add-one i, drop-cons ds i 0 h)

pub number-end : (n : ℕ) (ds : List ℕ) (i : ℕ) → length ds ≤ i → number_from n (drop i ds) ≡ n
unfolding number_from
number-end n ds i h = rw (drop_of_length-le ds h) refl

-- the first six digits, those that are missing counted as 0
pub six_digits :
    (ds : List ℕ)
    → number (take 6 (ds ++ ascii "000000"))
    ≡ number (get_or ds 0 0 ∷ get_or ds 1 0 ∷ get_or ds 2 0 ∷ get_or ds 3 0 ∷ get_or ds 4 0 ∷ get_or ds 5 0 ∷ [])
unfolding number_from
six_digits [] = refl
six_digits (a ∷ []) = refl
six_digits (a ∷ (b ∷ [])) = refl
six_digits (a ∷ (b ∷ (c ∷ []))) = refl
six_digits (a ∷ (b ∷ (c ∷ (d ∷ [])))) = refl
six_digits (a ∷ (b ∷ (c ∷ (d ∷ (e ∷ []))))) = refl
six_digits (a ∷ (b ∷ (c ∷ (d ∷ (e ∷ (f ∷ ds)))))) = refl
