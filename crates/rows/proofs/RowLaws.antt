-- A row that has the words of another before its region, and zeros after them.
use Prim.Native.Nat.{ℕ, ◌-◌, ◌≤◌, ◌<◌}
use mathlib.Core.Path.{refl, ◌≡◌, ◌∙◌}
use mathlib.Core.Bool.{Bool, false, ◌&&◌}
use mathlib.Core.List.{List, [], ◌∷◌, ◌++◌}
use native.Mathlib.Omega.{arith}
use lib.ListN.{length, take, get_or-append}
use lib.Seq.{length-take-le}
use Rattle.std.proofs.lemmas.List.{get_or-take, get_or-append_right}
use Rattle.laws.proofs.Tests.{and-false}
use Rattle.format.specs.Rows.{word, cue_entry, cue_span, new_cue_entry, cue_codes_named}

-- no test passes beside one that fails
pub and_none : (t : Bool) → t && false ≡ false
and_none t = and-false t false refl

module _ (row : List ℕ) (h : 16 ≤ length row) where
  abbrev zeros : List ℕ
  zeros = 0 ∷ 0 ∷ 0 ∷ []

  at : (i : ℕ) → i < 16 → word i (take 16 row ++ zeros) ≡ word i row
  at i l = get_or-append (take 16 row) zeros 0 i (omega (arith, length-take-le 16 row h)) ∙ get_or-take 16 row i 0 l

  after : (i : ℕ) → 16 ≤ i → word i (take 16 row ++ zeros) ≡ word (i - 16) zeros
  after i l = get_or-append_right (take 16 row) zeros 16 i 0 (length-take-le 16 row h) l

  pub same_codes : cue_codes_named (take 16 row ++ zeros) ≡ cue_codes_named row
  unfolding cue_codes_named
  same_codes = rw (at 6 (omega arith), at 7 (omega arith), at 9 (omega arith), at 10 (omega arith), at 11 (omega arith), at 13 (omega arith), at 15 (omega arith))

  pub same_entry : cue_entry (take 16 row ++ zeros) ≡ new_cue_entry row
  same_entry =
      rw (
        at 0 (omega arith),
        at 1 (omega arith),
        at 2 (omega arith),
        at 3 (omega arith),
        at 4 (omega arith),
        at 5 (omega arith),
        at 6 (omega arith),
        at 7 (omega arith),
        at 8 (omega arith),
        at 9 (omega arith),
        at 10 (omega arith),
        at 11 (omega arith),
        at 12 (omega arith),
        at 13 (omega arith),
        at 14 (omega arith),
        at 15 (omega arith),
        after 16 (omega arith),
      )

  pub no_lines : cue_span (take 16 row ++ zeros) ≡ record { first = 0; count = 0 }
  no_lines = rw (after 17 (omega arith), after 18 (omega arith))
