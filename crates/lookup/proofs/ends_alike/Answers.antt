use Rattle.std.proofs.Common.{◌≡◌, false, true, ℕ, length, refl, sym, ap, ◌∙◌, ◌-◌, arith, Bor, nat_eq}
use Rattle.std.specs.Prelude.{Option, None, Some, option_copied, slice_get}
use Rattle.std.specs.Option.{option_eq}
use borrow.Author.Tests.{eq-eqb}
use mathlib.Core.Bool.{true≢false}
use Rattle.lookup.proofs.NameLaws.{differ}
use Rattle.lookup.proofs.ends_alike.Goals as goal

-- two references to one byte, or none
same_last : (x y : Option (Bor ℕ)) → option_copied x ≡ option_copied y → option_eq (λ p q. nat_eq p.now q.now) x y ≡ true
same_last None None e = refl
same_last None (Some q) e = let z : ◌≡◌ {A = ℕ} 0 1 = cc in absurd (omega arith)
same_last (Some p) None e = let z : ◌≡◌ {A = ℕ} 0 1 = cc in absurd (omega arith)
same_last (Some p) (Some q) e = eq-eqb p.now q.now cc

pub returns-then-a-b : goal.returns-then-a-b
returns-then-a-b c =
    λ e. differ _ _
    (λ p. let last = c.last.ensures.value ∙ ap (λ s. slice_get s (length s - 1)) p ∙ sym c.last-then-a-b.ensures.value in
    absurd (true≢false (sym (same_last _ _ last) ∙ sym c.eq.ensures ∙ e)))

pub returns-else-a-b : goal.returns-else-a-b
returns-else-a-b c = λ e. differ _ _ (λ p. c.if-a-b.false (ap length p))
