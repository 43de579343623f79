-- What is known of a sequence from its first byte, as three numbers, and the test of the bytes after it.
use Rattle.std.specs.Prelude.{ℕ, zero, suc, Bool, false, cond, List, [], ◌∷◌, eqb, replicate}
use Rattle.std.specs.Prelude.{Option, None, Some}
use Rattle.format.specs.Plain.{Range, ◌to◌, within}

-- the row of a first byte: the sequence's length (0: it begins none), and the range of the second byte
unfoldable pub row_of : ℕ → ℕ → ℕ → Option (List Range)
row_of zero low high = None
row_of (suc zero) low high = Some []
row_of (suc (suc n)) low high = Some (low to high ∷ replicate n (0x80 to 0xBF))

-- where the second byte's range starts and ends
abbrev pub low_of : ℕ → ℕ
low_of b = cond (eqb b 0xE0) 0xA0 (cond (eqb b 0xF0) 0x90 0x80)

abbrev pub high_of : ℕ → ℕ
high_of b = cond (eqb b 0xED) 0x9F (cond (eqb b 0xF4) 0x8F 0xBF)

-- does the text start with a byte of this range
unfoldable pub starts_in : Range → List ℕ → Bool
starts_in r [] = false
starts_in r (b ∷ s) = within r b
