-- Texts taken apart and compared: first and last bytes, runs of bytes, what stands before and after a byte.
use Rattle.std.specs.Prelude.{ℕ, ◌-◌, Bool, true, false, cond, not, ◌&&◌, List, [], ◌∷◌, eqb, take, drop}

-- does the text begin with these bytes
unfoldable pub starts_with : List ℕ → List ℕ → Bool
starts_with [] s = true
starts_with (p ∷ ps) [] = false
starts_with (p ∷ ps) (b ∷ s) = eqb b p && starts_with ps s

-- does the text end with this byte
unfoldable pub ends_with : ℕ → List ℕ → Bool
ends_with c [] = false
ends_with c (b ∷ []) = eqb b c
ends_with c (b ∷ (d ∷ s)) = ends_with c (d ∷ s)

-- the text without its last byte
unfoldable pub without_last : List ℕ → List ℕ
without_last [] = []
without_last (b ∷ []) = []
without_last (b ∷ (c ∷ s)) = b ∷ without_last (c ∷ s)

-- are these the same bytes
unfoldable pub same : List ℕ → List ℕ → Bool
same [] [] = true
same [] (c ∷ t) = false
same (b ∷ s) [] = false
same (b ∷ s) (c ∷ t) = eqb b c && same s t

unfoldable pub is_empty : List ℕ → Bool
is_empty [] = true
is_empty (b ∷ s) = false

unfoldable pub all : (ℕ → Bool) → List ℕ → Bool
all p [] = true
all p (b ∷ s) = p b && all p s

-- the bytes at the text's start that pass a test, and the text after them
unfoldable pub run : (ℕ → Bool) → List ℕ → List ℕ
run p [] = []
run p (b ∷ s) = cond (p b) (b ∷ run p s) []

unfoldable pub past_run : (ℕ → Bool) → List ℕ → List ℕ
past_run p [] = []
past_run p (b ∷ s) = cond (p b) (past_run p s) (b ∷ s)

-- what stands before the first c, all of the text where there is none, and what stands after it
unfoldable pub before_first : ℕ → List ℕ → List ℕ
before_first c s = run (λ b. not (eqb b c)) s

unfoldable pub after_first : ℕ → List ℕ → List ℕ
after_first c [] = []
after_first c (b ∷ s) = cond (eqb b c) s (after_first c s)

unfoldable pub has : ℕ → List ℕ → Bool
has c s = not (all (λ b. not (eqb b c)) s)

-- the bytes of a text from one place up to another
unfoldable pub bytes_at : List ℕ → ℕ → ℕ → List ℕ
bytes_at s from to = take (to - from) (drop from s)

-- document 01's "part": bytes of a text, with the place where they stand in it
pub record Part : Type 0 where
  pub place : ℕ
  pub bytes : List ℕ

-- the empty part: no bytes, at place 0
abbrev pub empty_part : Part
empty_part = record { place = 0; bytes = [] }
