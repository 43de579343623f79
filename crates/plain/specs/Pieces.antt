-- Pieces of a raw file: how far each reaches, and what it becomes.
use Rattle.std.specs.Prelude.{ℕ, zero, suc, ◌+◌, ◌≤◌, ◌<◌, ◌≡◌, cond, List, [], ◌∷◌, ◌++◌, length, take, drop}
use Rattle.format.specs.Bytes.{nul, lf, cr, replacement}
use Rattle.format.specs.Texts.{starts_with}
use Rattle.format.specs.Plain.{sequence, begun, to_plain}
use Rattle.plain.specs.declared.pieces.Piece.{Piece}
use Rattle.plain.specs.declared.pieces.Piece.TheVariants.{Keep, Replace, Line, Pair}

-- an ASCII byte that is neither NUL nor CR
pub record Stays (b : ℕ) : Type 0 where
  pub not_nul : b ≡ nul → ⊥
  pub not_cr : b ≡ cr → ⊥
  pub ascii : b < 0x80

abbrev pub taken_by : Piece → ℕ
taken_by (Keep n) = n
taken_by (Replace n) = n
taken_by Line = 1
taken_by Pair = 1

abbrev pub size_of : Piece → ℕ
size_of (Keep n) = n
size_of (Replace n) = 3
size_of Line = 1
size_of Pair = 0

-- what it becomes, standing at the start of these bytes
abbrev pub put_by : Piece → List ℕ → List ℕ
put_by (Keep n) s = take n s
put_by (Replace n) s = replacement
put_by Line s = lf ∷ []
put_by Pair s = []

-- a well-formed sequence of this length stays; where there is none, n bytes are replaced
unfoldable pub kept_or : ℕ → ℕ → Piece
kept_or zero n = Replace n
kept_or (suc m) n = Keep (suc m)

-- what stands at the start of these bytes, no NUL and no CR: a sequence, or the longest run that could have begun one
abbrev pub run_of : List ℕ → Piece
run_of s = kept_or (sequence s) (suc (begun s))

-- what stands at the start of these bytes
unfoldable pub piece_of : List ℕ → Piece
piece_of s =
    cond (starts_with (nul ∷ []) s) (Replace 1)
    (cond (starts_with (cr ∷ []) s) (cond (starts_with (lf ∷ []) (drop 1 s)) Pair Line) (run_of s))

-- the piece stands at this place: it takes at least one byte, stays within the file, and the text goes on after it
pub record Stands (s : List ℕ) (at : ℕ) (p : Piece) : Type 0 where
  pub some : 0 < taken_by p
  pub inside : at + taken_by p ≤ length s
  pub text : to_plain (drop at s) ≡ put_by p (drop at s) ++ to_plain (drop (at + taken_by p) s)
