use Rattle.std.proofs.Common.{◌≡◌, ℕ, ◌+◌, ◌≤◌, List, [], ◌∷◌, ◌++◌, length, drop, set, refl, sym, ◌∙◌, ap, arith, suc}
use Rattle.std.proofs.lemmas.List.Edits.{sets, sets-eq}
use Rattle.format.specs.Answers.{with_values}
use Rattle.answers.proofs.put.Goals as goal

-- the values are set one after the other
with_values-sets : (i : ℕ) (vs words : List ℕ) → with_values i vs words ≡ sets words i vs
unfolding with_values
with_values-sets i [] words = refl
with_values-sets i (v ∷ vs) words =
    let next : i + 1 ≡ suc i = omega arith in
    with_values-sets (i + 1) vs (set words i v) ∙ ap (λ j. sets (set words i v) j vs) next

pub returns : goal.returns
returns c =
    let told = c.args.told.now in
    let words = c.args.values.now in
    let first : 0 + length told ≡ length told = omega arith in
    let spread : with_values 0 told words ≡ told ++ drop (length told) words =
    with_values-sets 0 told words ∙ sets-eq told words 0 (omega arith) ∙ ap (λ n. told ++ drop n words) first in
    ap (λ x. x ++ drop (length told) words) c.copy_from_slice.ensures.after ∙ sym spread
