-- The byte order mark, by the test whether the first bytes are its own.
use Prim.Native.Nat.{ℕ, ◌+◌, ◌≤◌}
use mathlib.Core.Path.{◌≡◌, refl, ap, ◌∙◌}
use mathlib.Core.Bool.{true, false, ◌&&◌}
use mathlib.Core.List.{List, [], ◌∷◌}
use native.Mathlib.Omega.{arith}
use lib.Dec.{eqb}
use lib.ListN.{length, take, drop, length-drop}
use denote.Ref.{Bor}
use Rattle.std.specs.Prelude.{Option, None, Some, MatchOption}
use Rattle.std.specs.Option.{unwrap_or}
use Rattle.std.specs.Cmp.Lexicographic.{pointwise}
use Rattle.format.specs.Bytes.{byte_order_mark}
use Rattle.format.specs.Texts.{starts_with}
use Rattle.format.specs.Plain.{drop_bom}
use Rattle.laws.proofs.Tests.{by-test}

starts_by : (p s : List ℕ) → starts_with p s ≡ pointwise eqb (take (length p) s) p
unfolding starts_with
starts_by [] s = refl
starts_by (c ∷ p) [] = refl
starts_by (c ∷ p) (b ∷ s) = ap (λ t. eqb b c && t) (starts_by p s)

-- what is left where the mark is taken off, or the whole where it is not there
pub mark_off :
    (raw : Bor (List ℕ)) (rest : Option (Bor (List ℕ)))
    → MatchOption rest (pointwise eqb (take 3 raw.now) byte_order_mark ≡ false)
    (λ x. (pointwise eqb (take 3 raw.now) byte_order_mark ≡ true) × (x.now ≡ drop 3 raw.now) × (length x.now + 3 ≡ length raw.now))
    → (unwrap_or rest raw).now ≡ drop_bom raw.now
unfolding drop_bom
mark_off raw None n = rw (starts_by byte_order_mark raw.now ∙ n)
mark_off raw (Some x) y = y.1 ∙ rw (starts_by byte_order_mark raw.now ∙ y.0)

pub drop_bom-length : (s : List ℕ) → length (drop_bom s) ≤ length s
unfolding drop_bom
drop_bom-length s = by-test (starts_with byte_order_mark s) (λ y. rw y (omega (arith, length-drop 3 s))) (λ n. rw n (omega arith))
