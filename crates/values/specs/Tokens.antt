-- The next token of a text, as the code finds it.
use Rattle.std.specs.Prelude.{Option, None, Some}
use Rattle.std.specs.Prelude.{ℕ, ◌+◌, ◌-◌, ◌≤◌, ◌<◌, min, ◌≡◌, true, false, cond, ◌||◌, List, [], ◌∷◌, eqb, length, take, drop}
use Rattle.format.specs.Texts.{Part, is_empty}
use Rattle.format.specs.Tokens.{tokens, name_of, value_of}
use Rattle.format.specs.CueSettings.{no_span}
use Rattle.format.specs.declared.settings.Span.{Span}

-- a token from one place up to another, and those after it
pub record TokenHere (s : List ℕ) (i from to : ℕ) : Type 0 where
  pub first : tokens i (drop i s) ≡ record { place = from; bytes = drop from (take to s) } ∷ tokens to (drop to s)
  pub moves : i < to
  pub some : from ≤ to
  pub inside : to ≤ length s

abbrev pub TokenAt : List ℕ → ℕ → Option Span → Type 0
TokenAt s i None = tokens i (drop i s) ≡ []
TokenAt s i (Some t) = TokenHere s i t.from t.to

-- the token from a place up to the end
abbrev pub token_from : List ℕ → ℕ → Part
token_from s from = record { place = from; bytes = drop from s }

-- a token with a name and a value, parted by the colon at c
pub record Named (s : List ℕ) (from c : ℕ) : Type 0 where
  pub after : from < c
  pub inside : c + 1 < length s
  pub both : is_empty (name_of (token_from s from)) || is_empty (value_of (token_from s from)).bytes ≡ false
  pub name : name_of (token_from s from) ≡ take (c - from) (drop from s)
  pub value : value_of (token_from s from) ≡ token_from s (c + 1)

abbrev pub NameAt : List ℕ → ℕ → Option ℕ → Type 0
NameAt s from None = is_empty (name_of (token_from s from)) || is_empty (value_of (token_from s from)).bytes ≡ true
NameAt s from (Some c) = Named s from c

-- bytes from one place to another
abbrev pub span_to : ℕ → ℕ → Span
span_to from to = cond (eqb from to) no_span (record { from = from; to = to })

-- the part of a text from one place up to another, cut to what the text has
abbrev pub part_of : List ℕ → ℕ → ℕ → Part
part_of s from to =
    record {
      place = min from (min to (length s));
      bytes = take (min to (length s) - min from (min to (length s))) (drop (min from (min to (length s))) s);
    }
