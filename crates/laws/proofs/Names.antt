-- The look-up of a region by its name: what is found is in the list and has that name.
use Prim.Native.Nat.{ℕ, suc, ◌+◌, ◌-◌, ◌≤◌, ◌<◌}
use mathlib.Core.Path.{◌≡◌, refl, sym, ◌∙◌}
use mathlib.Core.List.{List, [], ◌∷◌}
use Rattle.std.specs.Prelude.{Option, None, Some}
use native.Mathlib.Omega.{arith}
use lib.ListN.{length, get_or}
use Rattle.format.specs.Texts.{same}
use Rattle.format.specs.RegionSettings.{later_or, last_named}
use Rattle.laws.proofs.Tests.{by-test}
use Rattle.laws.proofs.Runs.{same-is}

-- the region that is found by a name has it
pub record Found (k : ℕ) (x : List ℕ) (names : List (List ℕ)) (i : ℕ) : Type 0 where
  pub from : k ≤ i
  pub below : i < k + length names
  pub named : get_or names (i - k) [] ≡ x

found-later : {k i : ℕ} {x id : List ℕ} {names : List (List ℕ)} → Found (k + 1) x names i → Found k x (id ∷ names) i
found-later {k} {i} {x} {id} {names} f =
    let e : i - k ≡ suc (i - (k + 1)) = omega (arith, f.from) in
    record { from = omega (arith, f.from); below = omega (arith, f.below); named = rw e f.named }

found_here : {k : ℕ} {x id : List ℕ} {names : List (List ℕ)} → id ≡ x → Found k x (id ∷ names) k
found_here {k} {x} {id} {names} e =
    let z : k - k ≡ 0 = omega arith in
    record { from = omega arith; below = omega arith; named = rw z e }

pub found : (k : ℕ) (x : List ℕ) (names : List (List ℕ)) (i : ℕ) → last_named k x names ≡ Some i → Found k x names i
unfolding last_named later_or
found k x [] i e = let z : ◌≡◌ {A = ℕ} 0 1 = cc in absurd (omega arith)
found k x (id ∷ names) i e = go (found (k + 1) x names) (last_named (k + 1) x names) refl
  where
    go :
        ((j : ℕ) → last_named (k + 1) x names ≡ Some j → Found (k + 1) x names j)
        → (o : Option ℕ)
        → last_named (k + 1) x names ≡ o
        → Found k x (id ∷ names) i
    go later None q =
        by-test (same id x)
        (λ y. let f : Some k ≡ Some i = rw (q, y) at e in let g : k ≡ i = cc in rw (sym g) (found_here (same-is id x y)))
        (λ n. let f : ◌≡◌ {A = Option ℕ} None (Some i) = rw (q, n) at e in let z : ◌≡◌ {A = ℕ} 0 1 = cc in absurd (omega arith))
    go later (Some j) q =
        let f : Some j ≡ Some i = rw q at e in
        let g : j ≡ i = cc in
        found-later (later i (q ∙ f))
