use mathlib.Core.Path.{◌≡◌, sym, ◌∙◌}
use mathlib.Core.List.{List, [], ◌∷◌}
use Prim.Native.Nat.{ℕ}
use lib.Dec.{eqb, ltb}
use lib.ListN.{length, get_or, drop, drop_of_length-le}
use borrow.Author.Tests.{ltb-true, ltb-false}
use denote.Bor.{Bor}
use Rattle.std.specs.Prelude.{Option, Some, None, IfSome}
use Rattle.std.specs.Option.{option_eq, is_some}
use Rattle.format.specs.Texts.{starts_with}
use Rattle.laws.proofs.Tests.{and-true}
use lib.Seq.{drop-cons}
use Rattle.values.proofs.bytes.is_at.Goals as goal

-- the byte that a place has, if any, tested
module _ (s : List ℕ) (at : ℕ) (b : Bor ℕ) where
  tested :
      (o : Option (Bor ℕ))
      → is_some o ≡ ltb at (length s)
      → IfSome o (λ x. x.now ≡ get_or s at x.now)
      → option_eq {T = Bor ℕ} (λ x y. eqb x.now y.now) o (Some b) ≡ starts_with (b.now ∷ []) (drop at s)
  unfolding starts_with
  tested None e h = let l = ltb-false at (length s) (sym e) in rw (drop_of_length-le s l)
  tested (Some x) e h =
      let l = ltb-true at (length s) (sym e) in
      rw (drop-cons s at x.now l, ← h) (sym (and-true (eqb x.now b.now)))

-- `values::bytes::is_at` meets its contract.
pub returns : goal.returns
returns c = c.eq.ensures ∙ tested c.args.s.now c.args.at _ c.get.result c.get.ensures.lookup.0 c.get.ensures.lookup.1
