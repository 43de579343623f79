-- Laws of tests in an order: what the code's early returns say, and the first row of a list that fails one.
use Prim.Native.Nat.{ℕ, suc, ◌+◌, ◌≤◌, ◌<◌}
use mathlib.Core.Path.{◌≡◌, refl, sym, ◌∙◌}
use mathlib.Core.Bool.{Bool, true, false, not}
use mathlib.Core.List.{List, [], ◌∷◌, ◌++◌}
use Rattle.std.specs.Prelude.{Option, None, Some}
use native.Mathlib.Numerals.{add-one}
use native.Mathlib.Omega.{arith}
use lib.ListN.{length, get_or, drop, drop_of_length-le}
use lib.Seq.{drop-cons}
use borrow.Author.Tests.{not-true, not-false}
use Rattle.format.specs.Writable.{first_failing}
use Rattle.format.specs.Writing.{or_else, first_in}

-- a test that the code asks by `!`
pub failed : {r t : Bool} → r ≡ t → not r ≡ true → t ≡ false
failed {r} e f = sym e ∙ not-true r f

pub passed : {r t : Bool} → r ≡ t → not r ≡ false → t ≡ true
passed {r} e p = sym e ∙ not-false r p

-- the first failing test among some tests, or else among those after them
pub fails_front : (n test : ℕ) (ts us : List Bool) → Some test ≡ first_failing n ts → Some test ≡ first_failing n (ts ++ us)
unfolding first_failing
fails_front n test [] us f = let z : ◌≡◌ {A = ℕ} 0 1 = cc in absurd (omega arith)
fails_front n test (true ∷ ts) us f = fails_front (n + 1) test ts us f
fails_front n test (false ∷ ts) us f = f

pub fails-after : (n : ℕ) (ts us : List Bool) → None ≡ first_failing n ts → first_failing n (ts ++ us) ≡ first_failing (n + length ts) us
unfolding first_failing
fails-after n [] us e = let z : n + 0 ≡ n = omega arith in rw z refl
fails-after n (true ∷ ts) us e =
    let z : n + 1 + length ts ≡ n + suc (length ts) = omega arith in
    fails-after (n + 1) ts us e ∙ rw z refl
fails-after n (false ∷ ts) us e = let z : ◌≡◌ {A = ℕ} 0 1 = cc in absurd (omega arith)

-- the first row that fails, at a place of the list: what is left gives the whole
module _ (list : ℕ) (fails : List ℕ → Option ℕ) (rows : List (List ℕ)) where
  abbrev pub Left : ℕ → Type 0
  Left i = first_in list fails 0 rows ≡ first_in list fails i (drop i rows)

  first_at :
      (i : ℕ)
      → Left i
      → i < length rows
      → first_in list fails 0 rows ≡ or_else (fails (get_or rows i [])) list i (first_in list fails (i + 1) (drop (i + 1) rows))
  unfolding first_in
  first_at i e h = e ∙ rw (drop-cons rows i [], add-one i) refl

  pub first-stop : (i test : ℕ) → Left i → i < length rows → Some test ≡ fails (get_or rows i []) → Some (list ∷ i ∷ test ∷ []) ≡ first_in list fails 0 rows
  unfolding or_else
  first-stop i test e h t = sym (first_at i e h ∙ rw (← t) refl)

  pub first_next : (i : ℕ) → Left i → i < length rows → None ≡ fails (get_or rows i []) → Left (i + 1)
  unfolding or_else
  first_next i e h t = first_at i e h ∙ rw (← t) refl

  pub first_end_lem : (i : ℕ) → Left i → length rows ≤ i → None ≡ first_in list fails 0 rows
  unfolding first_in
  first_end_lem i e h = sym (e ∙ rw (drop_of_length-le rows h) refl)
