-- Numbers and escaped texts of fields as the code holds them: a text byte by byte, each with the place after what gives it.
use Rattle.std.specs.Prelude.{ℕ, ◌+◌, ◌≡◌, Bool, true, false, cond, not, ◌&&◌, List, [], ◌∷◌, eqb, ltb, length}
use Rattle.std.specs.Prelude.{Option, None, Some}
use Rattle.std.specs.Prelude.{Result, Ok, Err}
use Rattle.std.specs.Option.{option_map_or}
use Rattle.format.specs.Bytes.{ascii, backslash, digit}
use Rattle.format.specs.Texts.{is_empty, starts_with, all}
use Rattle.format.specs.Numbers.{number_from}
use Rattle.format.specs.Fields.{escapes}
use Rattle.fields.specs.declared.BadEscape.{BadEscape}
use Rattle.fields.specs.declared.FieldByte.{FieldByte}

-- are there 1 to 12 bytes, the first a zero only where it is alone
unfoldable pub begins_well : List ℕ → Bool
begins_well f = not (is_empty f) && not (ltb 12 (length f)) && not (starts_with (ascii "0") f && ltb 1 (length f))

-- the value of digits after those whose value is n; none where another byte is among them
unfoldable pub digits_from : ℕ → List ℕ → Option ℕ
digits_from n ds = cond (all digit ds) (Some (number_from n ds)) None

-- what stands at a place: the end, a byte that stands for itself, or a backslash and a letter of a table of escapes
abbrev pub Step : Type 0
Step = Result (Option FieldByte) BadEscape

abbrev pub no_escape : Step
no_escape = Err (record {})

abbrev pub byte_before : ℕ → ℕ → Step
byte_before next b = Ok (Some (record { value = b; next = next }))

abbrev pub escaped_at : (ℕ → Option ℕ) → ℕ → List ℕ → Step
escaped_at table at [] = no_escape
escaped_at table at (b ∷ f) = option_map_or (byte_before (at + 2)) (table b) no_escape

unfoldable pub step_in : (ℕ → Option ℕ) → ℕ → List ℕ → Step
step_in table at [] = Ok None
step_in table at (b ∷ f) = cond (eqb b backslash) (escaped_at table at f) (byte_before (at + 1) b)

abbrev pub step_is : ℕ → List ℕ → Step
step_is = step_in escapes

-- the text that a field stands for; no bytes where it stands for none
abbrev pub text_of : Option (List ℕ) → List ℕ
text_of None = []
text_of (Some x) = x

abbrev pub is_good : Option (List ℕ) → Bool
is_good None = false
is_good (Some x) = true

abbrev pub IsGood : Option (List ℕ) → Type 0
IsGood o = is_good o ≡ true
