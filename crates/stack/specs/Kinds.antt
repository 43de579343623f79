-- The kinds on a stack, whose top word holds some of them and whose lent words hold the others.
use Rattle.std.specs.Prelude.{ℕ, zero, suc, ◌/◌, ◌%◌, List, [], ◌∷◌, ◌++◌, get_or, Option, None, Some}
use Rattle.stack.specs.declared.inner.kinds.Stack.{Stack}

-- the kinds in a word, last put first
unfoldable pub digits : ℕ → ℕ → List ℕ
digits zero w = []
digits (suc n) w = w % 8 ∷ digits n (w / 8)

-- the kinds in the filled words, last filled first
unfoldable pub unload : ℕ → List ℕ → List ℕ
unload zero words = []
unload (suc n) words = digits 21 (get_or words n 0) ++ unload n words

-- the kinds in so many filled words and in a top word that has so many, the top one first
unfoldable pub kinds_in : List ℕ → ℕ → ℕ → ℕ → List ℕ
kinds_in words full held top = digits held top ++ unload full words

abbrev pub kinds : Stack → List ℕ
kinds s = kinds_in s.words.now s.full s.held s.top

-- the top kind, if any
unfoldable pub top_of : List ℕ → Option ℕ
top_of [] = None
top_of (k ∷ ks) = Some k
