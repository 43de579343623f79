-- The index of a name among the lines of a table, from a place on, and the choice that it makes.
use Prim.Native.Nat.{ℕ, ◌+◌, ◌-◌, ◌≤◌, ◌<◌}
use mathlib.Core.Path.{◌≡◌, refl, sym, ap, ◌∙◌}
use mathlib.Core.Bool.{Bool, cond}
use mathlib.Core.List.{List, [], ◌∷◌}
use native.Mathlib.Numerals.{add-one}
use native.Mathlib.Omega.{arith}
use lib.ListN.{length, get_or, take, drop, get_or-eq_default}
use Rattle.format.specs.Bytes.{lf}
use Rattle.format.specs.Texts.{same}
use Rattle.format.specs.Lines.{split}
use Rattle.laws.proofs.Tests.{by-test}
use Rattle.laws.proofs.Parted.{parts_from, PartHere, parts-start, parts-end}
use Rattle.names.specs.Names.{index_in}

-- a name's index, by whether it is the line that stands here
pub index-here :
    (s x : List ℕ) (at end : ℕ) (t : Bool)
    → PartHere lf s at end
    → same x (take (end - at) (drop at s)) ≡ t
    → index_in (parts_from lf s at) x ≡ cond t 0 (index_in (parts_from lf s (end + 1)) x + 1)
index-here s x at end t line h = ap (λ ls. index_in ls x) line.parts ∙ rw h refl

pub index-start : (s x : List ℕ) → 0 + index_in (parts_from lf s 0) x ≡ index_in (split s) x
index-start s x = omega (arith, ap (λ ls. index_in ls x) (parts-start lf s))

pub index-end : (s x : List ℕ) (at : ℕ) → length s < at → index_in (parts_from lf s at) x ≡ 0
index-end s x at l = ap (λ ls. index_in ls x) (parts-end lf s at l)

-- the choice that a chain of tests makes, by a name's index
abbrev pub chosen : {A : Type 0} → List (List ℕ) → List A → A → List ℕ → A
chosen [] choices other x = get_or choices 0 other
chosen (n ∷ ns) [] other x = other
chosen (n ∷ ns) (c ∷ cs) other x = cond (same x n) c (chosen ns cs other x)

chosen_at :
    {A : Type 0} (names : List (List ℕ)) (choices : List A) (other : A) (x : List ℕ)
    → chosen names choices other x ≡ get_or choices (index_in names x) other
chosen_at [] cs other x = refl
chosen_at (n ∷ ns) [] other x = refl
chosen_at (n ∷ ns) (c ∷ cs) other x =
    by-test (same x n) (λ y. rw y refl) (λ z. rw (z, add-one (index_in ns x)) (chosen_at ns cs other x))

pub choice_at :
    {A : Type 0} (names : List (List ℕ)) (choices : List A) (other : A) (x : List ℕ) (i : ℕ)
    → i ≡ index_in names x
    → get_or choices i other ≡ chosen names choices other x
choice_at names choices other x i e = ap (λ k. get_or choices k other) e ∙ sym (chosen_at names choices other x)

-- the choice where the name is none of them
pub no_choice : {A : Type 0} (choices : List A) (other : A) (i : ℕ) → length choices ≤ i → other ≡ get_or choices i other
no_choice choices other i l = sym (get_or-eq_default choices other l)
