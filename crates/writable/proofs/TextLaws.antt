-- Tests of each byte, empty lines and `-->`: at a place of a text, as a loop goes over it.
use Prim.Native.Nat.{ℕ, zero, suc, ◌+◌, ◌≤◌, ◌<◌, min}
use mathlib.Core.Path.{◌≡◌, refl}
use mathlib.Core.Bool.{Bool, true, false, not, ◌&&◌}
use mathlib.Core.List.{List, [], ◌∷◌, ◌++◌}
use native.Mathlib.Omega.{arith}
use lib.ListN.{length, get_or, drop, replicate, drop_of_length-le}
use borrow.Author.Tests.{eq-eqb, ne_eqb}
use Rattle.format.specs.Bytes.{lf, hyphen, greater}
use Rattle.format.specs.Texts.{starts_with, is_empty, all}
use Rattle.format.specs.Lines.{on_first, before, split_list_at, split}
use Rattle.format.specs.Blocks.{holds_arrow}
use Rattle.format.specs.Writable.{none_empty}
use Rattle.laws.proofs.Runs.{drop-first}

-- is none of these lines empty, where the first is fresh, or has bytes that stand before these
unfoldable pub none_empty_from : Bool → List (List ℕ) → Bool
none_empty_from true ls = none_empty ls
none_empty_from false [] = true
none_empty_from false (l ∷ ls) = none_empty ls

from_in_line : (fresh : Bool) (b : ℕ) (ls : List (List ℕ)) → none_empty_from fresh (on_first b ls) ≡ none_empty_from false ls
unfolding none_empty_from none_empty on_first is_empty
from_in_line true b [] = refl
from_in_line true b (l ∷ ls) = refl
from_in_line false b [] = refl
from_in_line false b (l ∷ ls) = refl

-- is there `-->` in a text with so many hyphens before it
unfoldable pub arrow_from : ℕ → List ℕ → Bool
arrow_from n s = holds_arrow (replicate n hyphen ++ s)

module _ (s : List ℕ) (i : ℕ) (l : i < length s) where
  pub all_at : (p : ℕ → Bool) (t : Bool) → p (get_or s i 0) ≡ t → all p (drop i s) ≡ t && all p (drop (i + 1) s)
  unfolding all
  all_at p t e = rw (drop-first s i l, e)

  pub line_ends_lem :
      (fresh t : Bool)
      → fresh ≡ t
      → get_or s i 0 ≡ lf
      → none_empty_from fresh (split (drop i s)) ≡ not t && none_empty_from true (split (drop (i + 1) s))
  unfolding none_empty_from none_empty split_list_at before is_empty
  line_ends_lem fresh true f e = rw (f, drop-first s i l, eq-eqb (get_or s i 0) lf e)
  line_ends_lem fresh false f e = rw (f, drop-first s i l, eq-eqb (get_or s i 0) lf e)

  pub in_line_lem : (fresh : Bool) → (get_or s i 0 ≡ lf → ⊥) → none_empty_from fresh (split (drop i s)) ≡ none_empty_from false (split (drop (i + 1) s))
  unfolding split_list_at before
  in_line_lem fresh e = rw (drop-first s i l, ne_eqb (get_or s i 0) lf e) (from_in_line fresh (get_or s i 0) (split (drop (i + 1) s)))

  pub arrow-ends : (n : ℕ) → n ≡ 2 → get_or s i 0 ≡ greater → arrow_from n (drop i s) ≡ true
  unfolding arrow_from holds_arrow starts_with
  arrow-ends n k e = rw (k, drop-first s i l, e)

  -- with a hyphen more, two at most
  pub arrow-hyphen : (n m : ℕ) → n ≤ 2 → m ≡ min (n + 1) 2 → get_or s i 0 ≡ hyphen → arrow_from n (drop i s) ≡ arrow_from m (drop (i + 1) s)
  unfolding arrow_from holds_arrow starts_with
  arrow-hyphen zero m h k e = rw (k, drop-first s i l, e)
  arrow-hyphen (suc zero) m h k e = rw (k, drop-first s i l, e)
  arrow-hyphen (suc (suc zero)) m h k e = rw (k, drop-first s i l, e)
  arrow-hyphen (suc (suc (suc n))) m h k e = absurd (omega arith)

  -- with another byte, which ends no arrow
  pub arrow_other :
      (n m : ℕ)
      → n ≤ 2
      → m ≡ 0
      → (get_or s i 0 ≡ hyphen → ⊥)
      → (get_or s i 0 ≡ greater → n ≡ 2 → ⊥)
      → arrow_from n (drop i s) ≡ arrow_from m (drop (i + 1) s)
  unfolding arrow_from holds_arrow starts_with
  arrow_other zero m h k e g = rw (k, drop-first s i l, ne_eqb (get_or s i 0) hyphen e)
  arrow_other (suc zero) m h k e g = rw (k, drop-first s i l, ne_eqb (get_or s i 0) hyphen e)
  arrow_other (suc (suc zero)) m h k e g =
      rw (k, drop-first s i l, ne_eqb (get_or s i 0) hyphen e, ne_eqb (get_or s i 0) greater (λ x. g x refl))
  arrow_other (suc (suc (suc n))) m h k e g = absurd (omega arith)

module _ (s : List ℕ) (i : ℕ) (l : length s ≤ i) where
  pub all_end : (p : ℕ → Bool) → all p (drop i s) ≡ true
  unfolding all
  all_end p = rw (drop_of_length-le s l) refl

  pub lines_end : (fresh : Bool) → none_empty_from fresh (split (drop i s)) ≡ not fresh
  unfolding none_empty_from none_empty split_list_at is_empty
  lines_end true = rw (drop_of_length-le s l) refl
  lines_end false = rw (drop_of_length-le s l) refl

  pub arrow-none : (n : ℕ) → n ≤ 2 → arrow_from n (drop i s) ≡ false
  unfolding arrow_from holds_arrow starts_with
  arrow-none zero h = rw (drop_of_length-le s l) refl
  arrow-none (suc zero) h = rw (drop_of_length-le s l) refl
  arrow-none (suc (suc zero)) h = rw (drop_of_length-le s l) refl
  arrow-none (suc (suc (suc n))) h = absurd (omega arith)
