-- Document 01, "From bytes to plain text": what a raw file's bytes become, and which texts are plain.
-- Every definition is total, on any list of numbers.
use Rattle.std.specs.Prelude.{ℕ, zero, suc, pred, Bool, cond, not, ◌&&◌, List, [], ◌∷◌, ◌++◌, ◌≡◌, leb, ltb, eqb, length, take, drop}
use Rattle.std.specs.Prelude.{Option, None, Some}
use Rattle.format.specs.Bytes.{nul, lf, cr, byte_order_mark, replacement}
use Rattle.format.specs.Texts.{starts_with}

-- "Drop one leading EF BB BF."
unfoldable pub drop_bom : List ℕ → List ℕ
drop_bom s = cond (starts_with byte_order_mark s) (drop 3 s) s

-- "Each CR LF pair becomes LF, then each other CR becomes LF": what one byte becomes, before the bytes s
unfoldable pub newline : ℕ → List ℕ → List ℕ
newline b s = cond (eqb b cr) (cond (starts_with (lf ∷ []) s) [] (lf ∷ [])) (b ∷ [])

unfoldable pub newlines : List ℕ → List ℕ
newlines [] = []
newlines (b ∷ s) = newline b s ++ newlines s

-- the bytes from one to another, both included
pub record Range : Type 0 where
  pub low : ℕ
  pub high : ℕ

infixl 70 ◌to◌
abbrev pub ◌to◌ : ℕ → ℕ → Range
a to b = record { low = a; high = b }

unfoldable pub within : Range → ℕ → Bool
within r b = leb r.low b && leb b r.high

-- a row of the table: the first byte of a sequence, and the bytes that follow it
pub record Row : Type 0 where
  pub first : Range
  pub rest : List Range

infixl 60 ◌then◌
abbrev pub ◌then◌ : Range → List Range → Row
f then r = record { first = f; rest = r }

-- The Unicode Standard's table of well-formed UTF-8 byte sequences, its rows in its order
unfoldable pub table : List Row
table =
    (0x00 to 0x7F then [])
    ∷ (0xC2 to 0xDF then (0x80 to 0xBF ∷ []))
    ∷ (0xE0 to 0xE0 then (0xA0 to 0xBF ∷ 0x80 to 0xBF ∷ []))
    ∷ (0xE1 to 0xEC then (0x80 to 0xBF ∷ 0x80 to 0xBF ∷ []))
    ∷ (0xED to 0xED then (0x80 to 0x9F ∷ 0x80 to 0xBF ∷ []))
    ∷ (0xEE to 0xEF then (0x80 to 0xBF ∷ 0x80 to 0xBF ∷ []))
    ∷ (0xF0 to 0xF0 then (0x90 to 0xBF ∷ 0x80 to 0xBF ∷ 0x80 to 0xBF ∷ []))
    ∷ (0xF1 to 0xF3 then (0x80 to 0xBF ∷ 0x80 to 0xBF ∷ 0x80 to 0xBF ∷ []))
    ∷ (0xF4 to 0xF4 then (0x80 to 0x8F ∷ 0x80 to 0xBF ∷ 0x80 to 0xBF ∷ []))
    ∷ []

-- what follows a first byte, by the row that has it; a byte that begins no sequence has no row
unfoldable pub following : List Row → ℕ → Option (List Range)
following [] b = None
following (r ∷ rs) b = cond (within r.first b) (Some r.rest) (following rs b)

-- how many bytes at the text's start are of these ranges, one after the other
unfoldable pub fits : List Range → List ℕ → ℕ
fits [] s = 0
fits (r ∷ rs) [] = 0
fits (r ∷ rs) (b ∷ s) = cond (within r b) (suc (fits rs s)) 0

-- the length of a sequence whose first byte has this row, before the bytes s; 0 where it is not well-formed
unfoldable pub sequence_of : Option (List Range) → List ℕ → ℕ
sequence_of None s = 0
sequence_of (Some rs) s = cond (eqb (fits rs s) (length rs)) (suc (length rs)) 0

-- the length of the well-formed sequence at the text's start; 0 where none stands there
unfoldable pub sequence : List ℕ → ℕ
sequence [] = 0
sequence (b ∷ s) = sequence_of (following table b) s

-- a start of the text that is dealt with at once: how many bytes it has after the first, and what is put out for all of them
pub record Piece : Type 0 where
  pub more : ℕ
  pub out : List ℕ

-- how many of the bytes s go on with a sequence whose first byte has this row
unfoldable pub begun_of : Option (List Range) → List ℕ → ℕ
begun_of None s = 0
begun_of (Some rs) s = fits rs s

-- how many bytes after the first the longest run has that stands at the text's start and could have begun a sequence
unfoldable pub begun : List ℕ → ℕ
begun [] = 0
begun (b ∷ s) = begun_of (following table b) s

-- "One U+FFFD for each longest run that could have begun a sequence and for each stray byte" (request Q-2 of document 02)
unfoldable pub ill_formed : List ℕ → Piece
ill_formed s = record { more = begun s; out = replacement }

-- "Well-formed UTF-8 stays", n being the sequence's length
unfoldable pub kept : ℕ → List ℕ → Piece
kept zero s = ill_formed s
kept (suc n) s = record { more = n; out = take (suc n) s }

-- "Each NUL becomes U+FFFD."
unfoldable pub piece : List ℕ → Piece
piece s = cond (starts_with (nul ∷ []) s) (record { more = 0; out = replacement }) (kept (sequence s) s)

-- the text piece by piece; the number counts the bytes still to pass of the piece before
unfoldable pub repair_from : ℕ → List ℕ → List ℕ
repair_from n [] = []
repair_from (suc n) (b ∷ s) = repair_from n s
repair_from zero (b ∷ s) = (piece (b ∷ s)).out ++ repair_from (piece (b ∷ s)).more s

abbrev pub repair : List ℕ → List ℕ
repair s = repair_from 0 s

-- the conversion of bytes that do not stand at a file's start, so that no EF BB BF is dropped
unfoldable pub to_plain : List ℕ → List ℕ
to_plain s = repair (newlines s)

-- document 01's "plain text" of a raw file
unfoldable pub plain_text : List ℕ → List ℕ
plain_text raw = to_plain (drop_bom raw)

-- does a plain text go on with what stands here: no NUL, no CR, and a well-formed sequence
unfoldable pub plain_start : List ℕ → Bool
plain_start s = not (starts_with (nul ∷ []) s) && not (starts_with (cr ∷ []) s) && ltb 0 (sequence s)

-- how many bytes stand before the first that is not plain; the number counts the bytes still to pass of the sequence before
unfoldable pub plain_from : ℕ → List ℕ → ℕ
plain_from n [] = 0
plain_from (suc n) (b ∷ s) = suc (plain_from n s)
plain_from zero (b ∷ s) = cond (plain_start (b ∷ s)) (suc (plain_from (pred (sequence (b ∷ s))) s)) 0

-- the first place that is not plain: it holds CR, NUL or a byte of no well-formed sequence; the text's length where there is none
abbrev pub first_not_plain : List ℕ → ℕ
first_not_plain s = plain_from 0 s

-- document 01's "plain", of a text or a part of one
abbrev pub Plain : List ℕ → Type 0
Plain s = first_not_plain s ≡ length s
