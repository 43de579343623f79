-- The parts of a text between bytes c, as a loop goes over them: the part that stands at a place, and those after it.
use Prim.Native.Nat.{ℕ, zero, suc, ◌+◌, ◌-◌, ◌≤◌, ◌<◌}
use mathlib.Core.Path.{◌≡◌, refl, sym, ap}
use mathlib.Core.Bool.{cond, not}
use mathlib.Core.List.{List, [], ◌∷◌}
use native.Mathlib.Numerals.{add-one}
use native.Mathlib.Omega.{arith}
use lib.Dec.{eqb, ltb}
use lib.ListN.{length, get_or, take, drop, length-drop}
use lib.Seq.{drop-drop}
use borrow.Author.Tests.{lt-ltb, le-ltb, ltb-true, ltb-false}
use Rattle.format.specs.Texts.{run}
use Rattle.format.specs.Lines.{split_list_at, before, on_first}
use Rattle.laws.proofs.Tests.{by-test}
use Rattle.laws.proofs.Runs.{run_at}

-- the parts of what stands from a place on; none from after the end on
abbrev pub parts_from : ℕ → List ℕ → ℕ → List (List ℕ)
parts_from c s at = cond (ltb (length s) at) [] (split_list_at c (drop at s))

abbrev pub first_part : ℕ → List ℕ → List ℕ
first_part c s = run (λ b. not (eqb b c)) s

-- the part that stands from one place up to another
pub record PartHere (c : ℕ) (s : List ℕ) (at end : ℕ) : Type 0 where
  pub from : at ≤ end
  pub inside : end ≤ length s
  pub parts : parts_from c s at ≡ take (end - at) (drop at s) ∷ parts_from c s (end + 1)

module _ (c : ℕ) where
  from_cons : (b : ℕ) (s : List ℕ) (k : ℕ) → parts_from c (b ∷ s) (suc k + 1) ≡ parts_from c s (k + 1)
  from_cons b s k =
      by-test (ltb (length s) (k + 1))
      (λ y. rw (y, lt-ltb (length (b ∷ s)) (suc k + 1) (omega (arith, ltb-true (length s) (k + 1) y))))
      (λ z. rw (z, le-ltb (length (b ∷ s)) (suc k + 1) (omega (arith, ltb-false (length s) (k + 1) z)), add-one (suc k), add-one k))

  -- the first part, and those after the byte that ends it
  first-is : (s : List ℕ) → split_list_at c s ≡ first_part c s ∷ parts_from c s (length (first_part c s) + 1)
  unfolding split_list_at before on_first run
  first-is [] = refl
  first-is (b ∷ s) =
      by-test (eqb b c)
      (λ y. rw (y, le-ltb (length (b ∷ s)) 1 (omega arith)) refl)
      (λ n. rw (n, first-is s) (ap (λ ls. (b ∷ first_part c s) ∷ ls) (sym (from_cons b s (length (first_part c s))))))

  from_drop : (s : List ℕ) (at k : ℕ) → at ≤ length s → parts_from c (drop at s) k ≡ parts_from c s (at + k)
  from_drop s at k l =
      let e : length (drop at s) ≡ length s - at = length-drop at s in
      by-test (ltb (length (drop at s)) k)
      (λ y. rw (y, lt-ltb (length s) (at + k) (omega (arith, e, ltb-true (length (drop at s)) k y))))
      (λ z. rw (z, le-ltb (length s) (at + k) (omega (arith, e, ltb-false (length (drop at s)) k z)), drop-drop k at s))

  -- from a place inside the text on: the part up to the next c, and those after it
  pub part-here : (s : List ℕ) (at end : ℕ) → at ≤ length s → end ≡ at + length (first_part c (drop at s)) → PartHere c s at end
  part-here s at end l e =
      let k = length (first_part c (drop at s)) in
      let n : at + (k + 1) ≡ end + 1 = omega arith in
      let r = run_at (λ b. not (eqb b c)) s at end l e in
      record {
        from = r.from;
        inside = r.inside;
        parts = rw (le-ltb (length s) at l, first-is (drop at s), from_drop s at (k + 1) l, n, r.bytes) refl;
      }

  pub parts-start : (s : List ℕ) → parts_from c s 0 ≡ split_list_at c s
  parts-start s = rw (le-ltb (length s) 0 (omega arith))

  pub parts-end : (s : List ℕ) (at : ℕ) → length s < at → parts_from c s at ≡ []
  parts-end s at l = rw (lt-ltb (length s) at l)

-- how many bytes parts have together
unfoldable pub sizes : List (List ℕ) → ℕ
sizes [] = 0
sizes (x ∷ xs) = length x + sizes xs

size-first : (b : ℕ) (xs : List (List ℕ)) → sizes (on_first b xs) ≡ suc (sizes xs)
unfolding sizes on_first
size-first b [] = refl
size-first b (x ∷ xs) = omega arith

-- at most those of the text
pub parts_fit : (c : ℕ) (s : List ℕ) → sizes (split_list_at c s) ≤ length s
unfolding split_list_at before sizes
parts_fit c [] = omega arith
parts_fit c (b ∷ s) =
    by-test (eqb b c)
    (λ y. rw y (omega (arith, parts_fit c s)))
    (λ n. rw n (omega (arith, size-first b (split_list_at c s), parts_fit c s)))

-- a part, and those after it
pub part-fits : (xs : List (List ℕ)) (k : ℕ) → length (get_or xs k []) + sizes (drop (suc k) xs) ≤ sizes (drop k xs)
unfolding sizes
part-fits [] zero = omega arith
part-fits (x ∷ xs) zero = omega arith
part-fits [] (suc k) = omega arith
part-fits (x ∷ xs) (suc k) = part-fits xs k

pub rest-fits : (xs : List (List ℕ)) (k : ℕ) → sizes (drop k xs) ≤ sizes xs
unfolding sizes
rest-fits xs zero = omega arith
rest-fits [] (suc k) = omega arith
rest-fits (x ∷ xs) (suc k) = omega (arith, rest-fits xs k)
