-- A text split on ASCII whitespace, a token split at its first colon, and what tokens give one after the other.
use Rattle.std.specs.Prelude.{ℕ, suc, ◌+◌, Bool, false, cond, not, ◌||◌, List, [], ◌∷◌, length}
use Rattle.format.specs.Bytes.{white, colon}
use Rattle.format.specs.Texts.{Part, before_first, after_first}

-- does the text begin with a byte of a token
unfoldable pub in_token : List ℕ → Bool
in_token [] = false
in_token (b ∷ s) = not (white b)

-- one byte more at the start of the first token
unfoldable pub on_token : ℕ → ℕ → List Part → List Part
on_token p b [] = record { place = p; bytes = b ∷ [] } ∷ []
on_token p b (t ∷ ts) = record { place = p; bytes = b ∷ t.bytes } ∷ ts

-- the byte b at place p, before the text s with its tokens
unfoldable pub before_tokens : ℕ → ℕ → List ℕ → List Part → List Part
before_tokens p b s ts =
    cond (white b) ts (cond (in_token s) (on_token p b ts) (record { place = p; bytes = b ∷ [] } ∷ ts))

-- the tokens of a text that stands at place p
unfoldable pub tokens : ℕ → List ℕ → List Part
tokens p [] = []
tokens p (b ∷ s) = before_tokens p b s (tokens (suc p) s)

-- what stands before a token's first colon and after it
unfoldable pub name_of : Part → List ℕ
name_of t = before_first colon t.bytes

unfoldable pub value_of : Part → Part
value_of t = record { place = t.place + suc (length (name_of t)); bytes = after_first colon t.bytes }

-- a value, and whether a number that the W3C steps would have stored was above its limit. Such a number is not kept: the file is refused.
pub record Flagged (A : Type 0) : Type 0 where
  pub value : A
  pub over : Bool

abbrev pub unflagged : {A : Type 0} → A → Flagged A
unflagged a = record { value = a; over = false }

-- one token after the other, each turning the value so far into the next one
unfoldable pub folded : {A : Type 0} → (Part → A → Flagged A) → Flagged A → List Part → Flagged A
folded f v [] = v
folded f v (t ∷ ts) = folded f (record { value = (f t v.value).value; over = v.over || (f t v.value).over }) ts
