-- Fields of a line, parted by tabs: numbers in decimal digits, and texts with escapes, in which neither tab nor LF stands. What is quoted is
-- README's, of the request line of `mend`.
use Rattle.std.specs.Prelude.{ℕ, Bool, false, cond, not, ◌&&◌, List, [], ◌∷◌, eqb, ltb, length}
use Rattle.std.specs.Prelude.{Option, None, Some}
use Rattle.std.specs.Option.{option_map_or}
use Rattle.format.specs.Bytes.{ascii, tab, lf, backslash}
use Rattle.format.specs.Texts.{starts_with}
use Rattle.format.specs.Lines.{split_list_at}
use Rattle.format.specs.Numbers.{number, some_digits}

-- the fields of a line
abbrev pub fields : List ℕ → List (List ℕ)
fields = split_list_at tab

-- "A number has 1 to 12 digits and no leading zero."
unfoldable pub field_number : List ℕ → Option ℕ
field_number f =
    cond (some_digits f && not (ltb 12 (length f)) && not (starts_with (ascii "0") f && ltb 1 (length f))) (Some (number f)) None

-- "`\\`, `\t`, `\n` stand for backslash, tab and LF; no other escape is allowed": what a byte stands for after a backslash
unfoldable pub escapes : ℕ → Option ℕ
escapes b =
    cond (eqb b backslash) (Some backslash) (cond (eqb b 0x74) (Some tab) (cond (eqb b 0x6E) (Some lf) None))

-- what a byte gives, after a backslash or not, before what the bytes after it give; none where it is no escape of the table
unfoldable pub giving : (ℕ → Option ℕ) → Bool → ℕ → Option (List ℕ) → Option (List ℕ)
giving table escaped b rest =
    option_map_or (λ text.
    cond escaped (option_map_or (λ c. Some (c ∷ text)) (table b) None) (Some (cond (eqb b backslash) text (b ∷ text)))) rest None

-- a backslash that is not escaped itself opens an escape
unfoldable pub opens : Bool → ℕ → Bool
opens escaped b = not escaped && eqb b backslash

unfoldable pub unescaped_from : (ℕ → Option ℕ) → Bool → List ℕ → Option (List ℕ)
unescaped_from table escaped [] = cond escaped None (Some [])
unescaped_from table escaped (b ∷ f) = giving table escaped b (unescaped_from table (opens escaped b) f)

-- the text that a field stands for
abbrev pub unescaped : List ℕ → Option (List ℕ)
unescaped = unescaped_from escapes false
