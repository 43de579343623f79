-- What one piece or one byte of a text does to what is put: what the loops go by.
use Rattle.std.specs.Prelude.{ℕ, ◌+◌, Bool, false, cond, ◌&&◌, List, [], ◌∷◌, eqb, length, get_or, drop}
use Rattle.format.specs.Bytes.{ampersand, semicolon, alphanumeric}
use Rattle.format.specs.Texts.{run, before_first}
use Rattle.format.specs.CueText.{parted, collapsed_from}

-- where the piece ends that stands at `i`: an ampersand and the letters and digits after it, or the bytes before the next ampersand
unfoldable pub piece_end : List ℕ → ℕ → ℕ
piece_end s i =
    cond (eqb (get_or s i 0) ampersand) (i + 1 + length (run alphanumeric (drop (i + 1) s))) (i + length (before_first ampersand (drop i s)))

-- is it an escape: it begins with an ampersand, and a semicolon follows
unfoldable pub escapes : List ℕ → ℕ → ℕ → Bool
escapes s i end = eqb (get_or s i 0) ampersand && eqb (get_or s end 0) semicolon

-- a byte that is no separator, after the one separator where a gap stands open
unfoldable pub word : Bool → ℕ → ℕ → List ℕ
word gap one c = cond gap (one ∷ c ∷ []) (c ∷ [])

-- what is still to be put of a text: where a gap stands open, its separator comes first, if anything follows
unfoldable pub left : (ℕ → Bool) → ℕ → Bool → Bool → List ℕ → List ℕ
left separates one gap inside s = cond gap (parted one (collapsed_from separates one false s)) (collapsed_from separates one inside s)
