-- A text that is none of the names that a `match` compares it with: its length is another, or a byte is.
use Prim.Native.Nat.{ℕ, ◌<◌}
use mathlib.Core.Path.{◌≡◌, ap}
use mathlib.Core.Bool.{false}
use mathlib.Core.List.{List}
use native.Mathlib.Omega.{arith}
use lib.ListN.{length, get_or}
use Rattle.std.proofs.Common.{rules}
use Rattle.format.specs.Texts.{same}
use Rattle.laws.proofs.Tests.{by-test}
use Rattle.laws.proofs.Runs.{same-is, same_length}

pub same_shorter : (s t : List ℕ) → length s < length t → same s t ≡ false
same_shorter s t h = same_length s t (λ e. absurd (omega arith))

pub same_longer : (s t : List ℕ) → length t < length s → same s t ≡ false
same_longer s t h = same_length s t (λ e. absurd (omega arith))

module _ (s t : List ℕ) where
  same_not_at : (i : ℕ) → (get_or s i 0 ≡ get_or t i 0 → ⊥) → same s t ≡ false
  same_not_at i n = by-test (same s t) (λ y. absurd (n (ap (λ x. get_or x i 0) (same-is s t y)))) (λ z. z)

  pub same_not_at_0 : (get_or s 0 0 ≡ get_or t 0 0 → ⊥) → same s t ≡ false
  same_not_at_0 = same_not_at 0

  pub same_not_at_1 : (get_or s 1 0 ≡ get_or t 1 0 → ⊥) → same s t ≡ false
  same_not_at_1 = same_not_at 1

  pub same_not_at_2 : (get_or s 2 0 ≡ get_or t 2 0 → ⊥) → same s t ≡ false
  same_not_at_2 = same_not_at 2

  pub same_not_at_3 : (get_or s 3 0 ≡ get_or t 3 0 → ⊥) → same s t ≡ false
  same_not_at_3 = same_not_at 3

  pub same_not_at_4 : (get_or s 4 0 ≡ get_or t 4 0 → ⊥) → same s t ≡ false
  same_not_at_4 = same_not_at 4

  pub same_not_at_5 : (get_or s 5 0 ≡ get_or t 5 0 → ⊥) → same s t ≡ false
  same_not_at_5 = same_not_at 5

  pub same_not_at_6 : (get_or s 6 0 ≡ get_or t 6 0 → ⊥) → same s t ≡ false
  same_not_at_6 = same_not_at 6

  pub same_not_at_7 : (get_or s 7 0 ≡ get_or t 7 0 → ⊥) → same s t ≡ false
  same_not_at_7 = same_not_at 7

-- what a branch of such a `match` knows is enough: by the length, or by a byte of the first eight
pub ruleset not_named = (rules, same_shorter, same_longer, same_not_at_0, same_not_at_1, same_not_at_2, same_not_at_3, same_not_at_4, same_not_at_5, same_not_at_6, same_not_at_7)
