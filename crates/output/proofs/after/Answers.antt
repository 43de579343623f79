use native.Mathlib.Omega.{arith}
use Prim.Native.Nat.{ℕ, ◌+◌, min, max}
use mathlib.Core.Path.{◌≡◌, ◌∙◌}
use mathlib.Core.List.{List}
use lib.Dec.{ltb}
use lib.ListN.{length}
use borrow.Author.Tests.{ltb-true, ltb-false}
use Rattle.laws.proofs.Tests.{by-test}
use Rattle.format.specs.Limits.{max_file}
use Rattle.output.specs.Puts.{place_after}
use Rattle.output.proofs.PutLaws.{place-held, place-within, place-above}
use Rattle.output.proofs.after.Goals as goal

-- the place goes on as far as the first number above the greatest length of a file, and stays where it is above it
place-capped : (at : ℕ) (x : List ℕ) → place_after at x ≡ max (min (at + length x) (max_file + 1)) at
place-capped at x =
    by-test (ltb max_file at)
    (λ above. let a = ltb-true max_file at above in place-held at x a ∙ omega arith)
    (λ below.
    let b = ltb-false max_file at below in
    by-test (ltb max_file (at + length x))
    (λ long. let l = ltb-true max_file (at + length x) long in place-above at x b l ∙ omega arith)
    (λ short. let s = ltb-false max_file (at + length x) short in place-within at x (omega arith) ∙ omega arith))

pub returns : goal.returns
returns c = (λ x e. omega (arith, place-capped c.args.at x), λ h. omega arith)
