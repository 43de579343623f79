-- A text that has a name's length and its bytes is that name, as an arm of a `match` on names has tested.
use Prim.Native.Nat.{ℕ, suc}
use mathlib.Core.Path.{◌≡◌, refl}
use mathlib.Core.List.{List, [], ◌∷◌}
use native.Mathlib.Omega.{arith}
use lib.ListN.{length, get_or}

-- the bytes of s from place i on are those of t, as far as t goes
abbrev pub SameFrom : List ℕ → ℕ → List ℕ → Type 0
SameFrom s i [] = Unit
SameFrom s i (b ∷ t) = (get_or s i 0 ≡ b) × SameFrom s (suc i) t

same_after : (x : ℕ) (s : List ℕ) (i : ℕ) (t : List ℕ) → SameFrom (x ∷ s) (suc i) t → SameFrom s i t
same_after x s i [] e = tt
same_after x s i (b ∷ t) e = (e.0, same_after x s (suc i) t e.1)

pub named : (s t : List ℕ) → length s ≡ length t → SameFrom s 0 t → s ≡ t
named [] [] l e = refl
named [] (b ∷ t) l e = absurd (omega arith)
named (x ∷ s) [] l e = absurd (omega arith)
named (x ∷ s) (b ∷ t) l e =
    let first : x ≡ b = e.0 in
    let rest : s ≡ t = named s t (omega arith) (same_after x s 0 t e.1) in
    cc
