use mathlib.Core.Path.{◌≡◌, refl, ap, ◌∙◌}
use mathlib.Core.Bool.{◌&&◌}
use mathlib.Core.List.{List, [], ◌∷◌}
use Prim.Native.Nat.{ℕ}
use lib.Dec.{eqb}
use lib.Pointwise.{pointwise}
use Rattle.format.specs.Texts.{same}
use Rattle.values.proofs.bytes.same_bytes.Goals as goal

-- `==` compares byte by byte
same_by_bytes : (s t : List ℕ) → pointwise eqb s t ≡ same s t
unfolding same
same_by_bytes [] [] = refl
same_by_bytes [] (c ∷ t) = refl
same_by_bytes (b ∷ s) [] = refl
same_by_bytes (b ∷ s) (c ∷ t) = ap (λ r. eqb b c && r) (same_by_bytes s t)

-- `values::bytes::same_bytes` meets its contract.
pub returns : goal.returns
returns c = c.eq.ensures ∙ same_by_bytes c.args.a.now c.args.b.now
