-- A string's bytes in the text and what they stand for: the data and the escape state without their result. What is held is the escape
-- state's buffer, empty in the data state.
use Rattle.std.specs.Prelude.{ℕ, cond, List, [], ◌∷◌, ◌++◌, eqb}
use Rattle.format.specs.Bytes.{ampersand, semicolon, alphanumeric}
use Rattle.format.specs.CueText.{escaped}

-- what a byte adds to the result
unfoldable pub added : List ℕ → ℕ → List ℕ
added [] c = cond (eqb c ampersand) [] (c ∷ [])
added (b ∷ held) c =
    cond (eqb c ampersand) (b ∷ held)
    (cond (alphanumeric c) [] (cond (eqb c semicolon) (escaped (b ∷ held)) ((b ∷ held) ++ c ∷ [])))

-- what is held after a byte
unfoldable pub holding : List ℕ → ℕ → List ℕ
holding [] c = cond (eqb c ampersand) (c ∷ []) []
holding (b ∷ held) c = cond (eqb c ampersand) (c ∷ []) (cond (alphanumeric c) ((b ∷ held) ++ c ∷ []) [])

unfoldable pub decoded_from : List ℕ → List ℕ → List ℕ
decoded_from held [] = held
decoded_from held (c ∷ s) = added held c ++ decoded_from (holding held c) s

unfoldable pub decoded : List ℕ → List ℕ
decoded s = decoded_from [] s
