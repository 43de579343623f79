-- Laws of settings: one after its space, its value put apart from its name, and settings after others.
use Prim.Native.Nat.{ℕ}
use mathlib.Core.Path.{◌≡◌, refl, ap}
use mathlib.Core.List.{List, [], ◌∷◌, ◌++◌, append_assoc, append-nil}
use Rattle.format.specs.Bytes.{space, colon}
use Rattle.format.specs.Written.{setting, after_spaces}
use Rattle.output.specs.declared.Output.{Output}
use Rattle.output.specs.Puts.{Puts}
use Rattle.output.proofs.PutLaws.{◌then◌, puts_as}

pub spaces_append : (ts us : List (List ℕ)) → after_spaces (ts ++ us) ≡ after_spaces ts ++ after_spaces us
unfolding after_spaces
spaces_append [] us = refl
spaces_append (t ∷ ts) us = rw (spaces_append ts us) (simp append_assoc)

pub puts_setting :
    {value : List ℕ} {out next end : Output} (name : List ℕ) →
    Puts (space ∷ (name ++ colon ∷ [])) out next →
    Puts value next end →
    Puts (after_spaces (setting name value)) out end
unfolding after_spaces setting
puts_setting name f g = puts_as (simp (append_assoc, append-nil)) (f then g)

-- a setting put of a value that the row says
pub spaced :
    {A : Type 0} (form : A → List (List ℕ)) {a b : A} {out end : Output}
    → a ≡ b
    → Puts (after_spaces (form a)) out end
    → Puts (after_spaces (form b)) out end
spaced form e put = puts_as (ap (λ x. after_spaces (form x)) e) put
