use Prim.Native.Nat.{ℕ, ◌+◌, ◌<◌}
use mathlib.Core.Path.{◌≡◌, refl, ◌∙◌}
use mathlib.Core.List.{List, [], ◌∷◌}
use native.Mathlib.Omega.{arith}
use lib.Dec.{eqb}
use lib.ListN.{length}
use borrow.Author.Rules.{rules}
use borrow.Author.Tests.{tests}
use Rattle.std.specs.List.{filter}
use Rattle.std.proofs.lemmas.Iterator.{YieldsList-from_slice}
use Rattle.std.proofs.lemmas.Iterator.Consumers.{count_from_yields_List, YieldsList-from_filter}
use Rattle.format.specs.Bytes.{tab}
use Rattle.format.specs.Lines.{split_list_at, on_first, before}
use Rattle.laws.proofs.Tests.{by-test}
use Rattle.fields.proofs.count.Goals as goal

-- each byte that parts adds a part, and any other adds none
length-on_first : (b : ℕ) (ls : List (List ℕ)) → 0 < length ls → length (on_first b ls) ≡ length ls
unfolding on_first
length-on_first b [] h = absurd (omega arith)
length-on_first b (l ∷ ls) h = refl

parts-counted : (c : ℕ) (s : List ℕ) → length (split_list_at c s) ≡ length (filter (λ b. eqb b c) s) + 1
unfolding split_list_at before
parts-counted c [] = refl
parts-counted c (b ∷ s) =
    by-test (eqb b c)
    (λ y. rw y (omega (arith, parts-counted c s)))
    (λ n. let e = parts-counted c s in rw n (length-on_first b (split_list_at c s) (omega arith) ∙ e))

pub returns : goal.returns
returns c =
    let n = count_from_yields_List c.filter.result c.count.result c.count.ensures.ran
    (YieldsList-from_filter _ (λ b. eqb b tab) (YieldsList-from_slice c.args.line.now cc) c.filter.ensures.closure (λ x r q k. search (rules, tests))) in
    omega (arith, n, parts-counted tab c.args.line.now)
