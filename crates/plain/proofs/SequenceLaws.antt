-- What stands at a place of a slice, from its first byte's row: what each test of the code decides.
use Prim.Native.Nat.{ℕ, zero, suc, ◌+◌, ◌≤◌, ◌<◌}
use mathlib.Core.Path.{◌≡◌, refl, ap, ◌∙◌}
use mathlib.Core.Bool.{Bool, true, false, cond, false≢true}
use mathlib.Core.List.{List, [], ◌∷◌}
use Rattle.std.specs.Prelude.{Some}
use native.Mathlib.Omega.{arith}
use lib.ListN.{length, get_or, drop, replicate, drop_of_length-le}
use lib.Seq.{drop-cons, drop-drop}
use Rattle.format.specs.Plain.{Range, ◌to◌, within, table, following, fits}
use Rattle.laws.proofs.Runs.{drop-first}
use Rattle.laws.proofs.Sequences.{sequence_of_lem, sequence_broken, sequence-none, begun_of_lem, begun-none}
use Rattle.plain.specs.declared.pieces.Piece.TheVariants.{Keep, Replace}
use Rattle.plain.specs.Lead.{row_of, starts_in}
use Rattle.plain.specs.Pieces.{kept_or, run_of}

-- the test of one byte
pub holds_in : (s : List ℕ) (at : ℕ) (r : Range) → at < length s → starts_in r (drop at s) ≡ within r (get_or s at 0)
unfolding starts_in
holds_in s at r h = rw (drop-cons s at 0 h)

pub holds-end : (s : List ℕ) (at : ℕ) (r : Range) → length s ≤ at → starts_in r (drop at s) ≡ false
unfolding starts_in
holds-end s at r h = rw (drop_of_length-le s h)

-- a byte that can follow, and the others; a byte that cannot
fits_more : (r : Range) (rs : List Range) (t : List ℕ) → starts_in r t ≡ true → fits (r ∷ rs) t ≡ suc (fits rs (drop 1 t))
unfolding fits starts_in
fits_more r rs [] y = absurd (false≢true y)
fits_more r rs (b ∷ t) y = rw y

fits-none : (r : Range) (rs : List Range) (t : List ℕ) → starts_in r t ≡ false → fits (r ∷ rs) t ≡ 0
unfolding fits starts_in
fits-none r rs [] n = refl
fits-none r rs (b ∷ t) n = rw n

-- the row of the byte at `at`
module _ (s : List ℕ) (at : ℕ) (h : at < length s) (low high : ℕ) where
  abbrev Row : ℕ → Type 0
  Row len = following table (get_or s at 0) ≡ row_of len low high

  row_of_lem : (len k : ℕ) → Row len → len ≡ k → Row k
  row_of_lem len k e z = e ∙ ap (λ n. row_of n low high) z

  next : (k : ℕ) → drop 1 (drop (at + k) s) ≡ drop (at + suc k) s
  next k = let e : at + k + 1 ≡ at + suc k = omega arith in drop-drop 1 (at + k) s ∙ ap (λ i. drop i s) e

  -- all ranges of the row fit, or the first n of them alone
  kept : (rs : List Range) → following table (get_or s at 0) ≡ Some rs → fits rs (drop (at + 1) s) ≡ length rs → Keep (suc (length rs)) ≡ run_of (drop at s)
  unfolding kept_or
  kept rs e f = rw (drop-first s at h, sequence_of_lem (get_or s at 0) (drop (at + 1) s) rs e f)

  broken :
      (rs : List Range) (n : ℕ)
      → following table (get_or s at 0) ≡ Some rs
      → fits rs (drop (at + 1) s) ≡ n
      → n < length rs
      → Replace (suc n) ≡ run_of (drop at s)
  unfolding kept_or
  broken rs n e f l =
      let b = get_or s at 0 in
      let t = drop (at + 1) s in
      rw (drop-first s at h, sequence_broken b t rs e (λ q. omega arith), begun_of_lem b t rs e, f)

  pub run_none : (len : ℕ) → Row len → len ≡ 0 → Replace 1 ≡ run_of (drop at s)
  unfolding kept_or row_of
  run_none len e z =
      let b = get_or s at 0 in
      let t = drop (at + 1) s in
      let None = row_of_lem len 0 e z in
      rw (drop-first s at h, sequence-none b t None, begun-none b t None)

  pub run-one : (len : ℕ) → Row len → len ≡ 1 → Keep 1 ≡ run_of (drop at s)
  unfolding row_of fits
  run-one len e z = kept [] (row_of_lem len 1 e z) refl

  pub run-first : (len : ℕ) → Row len → 2 ≤ len → starts_in (low to high) (drop (at + 1) s) ≡ false → Replace 1 ≡ run_of (drop at s)
  unfolding row_of
  run-first zero e l out = absurd (omega arith)
  run-first (suc zero) e l out = absurd (omega arith)
  run-first (suc (suc n)) e l out =
      let rs = replicate n (0x80 to 0xBF) in
      broken (low to high ∷ rs) 0 e (fits-none (low to high) rs (drop (at + 1) s) out) (omega arith)

  -- the second byte can follow
  module _ (second : starts_in (low to high) (drop (at + 1) s) ≡ true) where
    after-second : (rs : List Range) → fits (low to high ∷ rs) (drop (at + 1) s) ≡ suc (fits rs (drop (at + 2) s))
    after-second rs = fits_more (low to high) rs (drop (at + 1) s) second ∙ ap (λ t. suc (fits rs t)) (next 1)

    pub run_two : (len : ℕ) → Row len → len ≡ 2 → Keep 2 ≡ run_of (drop at s)
    unfolding row_of fits
    run_two len e z = kept (low to high ∷ []) (row_of_lem len 2 e z) (after-second [])

    pub run-second : (len : ℕ) → Row len → 3 ≤ len → starts_in (0x80 to 0xBF) (drop (at + 2) s) ≡ false → Replace 2 ≡ run_of (drop at s)
    unfolding row_of
    run-second zero e l out = absurd (omega arith)
    run-second (suc zero) e l out = absurd (omega arith)
    run-second (suc (suc zero)) e l out = absurd (omega arith)
    run-second (suc (suc (suc n))) e l out =
        let rs = replicate n (0x80 to 0xBF) in
        broken (low to high ∷ 0x80 to 0xBF ∷ rs) 1 e
        (after-second (0x80 to 0xBF ∷ rs) ∙ ap suc (fits-none (0x80 to 0xBF) rs (drop (at + 2) s) out)) (omega arith)

    -- the third byte can follow
    module _ (third : starts_in (0x80 to 0xBF) (drop (at + 2) s) ≡ true) where
      after_third : (rs : List Range) → fits (low to high ∷ 0x80 to 0xBF ∷ rs) (drop (at + 1) s) ≡ suc (suc (fits rs (drop (at + 3) s)))
      after_third rs =
          after-second (0x80 to 0xBF ∷ rs)
          ∙ ap suc (fits_more (0x80 to 0xBF) rs (drop (at + 2) s) third ∙ ap (λ t. suc (fits rs t)) (next 2))

      pub run_three : (len : ℕ) → Row len → len ≡ 3 → Keep 3 ≡ run_of (drop at s)
      unfolding row_of fits
      run_three len e z = kept (low to high ∷ 0x80 to 0xBF ∷ []) (row_of_lem len 3 e z) (after_third [])

      -- the fourth byte can follow or not
      pub run_four : (len : ℕ) → Row len → len ≡ 4 → (t : Bool) → starts_in (0x80 to 0xBF) (drop (at + 3) s) ≡ t → cond t (Keep 4) (Replace 3) ≡ run_of (drop at s)
      unfolding row_of fits
      run_four len e z true fourth =
          kept (low to high ∷ 0x80 to 0xBF ∷ 0x80 to 0xBF ∷ []) (row_of_lem len 4 e z)
          (after_third (0x80 to 0xBF ∷ []) ∙ ap (λ n. suc (suc n)) (fits_more (0x80 to 0xBF) [] (drop (at + 3) s) fourth))
      run_four len e z false out =
          broken (low to high ∷ 0x80 to 0xBF ∷ 0x80 to 0xBF ∷ []) 2 (row_of_lem len 4 e z)
          (after_third (0x80 to 0xBF ∷ []) ∙ ap (λ n. suc (suc n)) (fits-none (0x80 to 0xBF) [] (drop (at + 3) s) out)) (omega arith)
