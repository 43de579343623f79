-- A token as parts of the text: what each part stands for, and that it is the token at a place.
use Rattle.std.specs.Prelude.{ℕ, ◌+◌, ◌≤◌, ◌<◌, ◌≡◌, Bool, true, false, cond, not, ◌&&◌, ◌||◌, List, [], ◌∷◌, ◌++◌, eqb, ltb, length, get_or, take, drop, Option, None, Some}
use Rattle.format.specs.Bytes.{full_stop, solidus, space, less, greater, digit, white}
use Rattle.format.specs.Texts.{run, past_run, bytes_at}
use Rattle.format.specs.Lines.{split_list_at}
use Rattle.format.specs.CueText.{string_token, start_tag, end_tag, timestamp_tag, blank, collapsed, cue_tokens}
use Rattle.format.specs.CueText as CueText
use Rattle.format.specs.declared.settings.Span.{Span}
use Rattle.tokenizer.specs.Decoding.{decoded}
use Rattle.tokenizer.specs.declared.Token.{Token}
use Rattle.tokenizer.specs.declared.Stepped.{Stepped}

-- a byte of a tag's name, or where full stops are passed of its name and classes
unfoldable pub in_name : Bool → ℕ → Bool
in_name stops c = not (blank c || (stops && eqb c full_stop))

-- a text split at its full stops
abbrev pub split_stops : List ℕ → List (List ℕ)
split_stops = split_list_at full_stop

-- the classes of what stands between a tag's name and its annotation: nothing, or a full stop and the classes
unfoldable pub classes_of : List ℕ → List (List ℕ)
classes_of [] = []
classes_of (b ∷ s) = split_stops s

abbrev pub span_bytes : List ℕ → Span → List ℕ
span_bytes s p = bytes_at s p.from p.to

-- what a token stands for in a text
unfoldable pub token_is : List ℕ → Token → CueText.Token
token_is s (Token.String p) = string_token (decoded (span_bytes s p))
token_is s (Token.Start name classes annotation) =
    start_tag (span_bytes s name) (classes_of (span_bytes s classes)) (collapsed white space (span_bytes s annotation))
token_is s (Token.End p) = end_tag (span_bytes s p)
token_is s (Token.Timestamp p) = timestamp_tag (span_bytes s p)

-- the parts of a token stand one after the other between two places, and what stands before an annotation begins with a full stop
pub record StartIn (s : List ℕ) (from to : ℕ) (name classes annotation : Span) : Type 0 where
  pub first : from ≤ name.from
  pub named : name.from ≤ name.to
  pub between : name.to ≡ classes.from
  pub classed : classes.from ≤ classes.to
  pub beyond : classes.to ≡ annotation.from
  pub annotated : annotation.from ≤ annotation.to
  pub last : annotation.to ≤ to
  pub inside : to ≤ length s
  pub stop : classes.from < classes.to → eqb (get_or s classes.from 0) full_stop ≡ true

pub record SpanIn (s : List ℕ) (from to : ℕ) (p : Span) : Type 0 where
  pub first : from ≤ p.from
  pub ends : p.from ≤ p.to
  pub last : p.to ≤ to
  pub inside : to ≤ length s

abbrev pub PartsIn : List ℕ → ℕ → ℕ → Token → Type 0
PartsIn s from to (Token.String p) = SpanIn s from to p
PartsIn s from to (Token.Start name classes annotation) = StartIn s from to name classes annotation
PartsIn s from to (Token.End p) = SpanIn s from to p
PartsIn s from to (Token.Timestamp p) = SpanIn s from to p

-- the start tag of what stands between `<` and `>`, and the tag
unfoldable pub start_of : List ℕ → List ℕ → CueText.Token
start_of r x =
    start_tag (r ++ run (in_name true) x) (classes_of (run (in_name false) (past_run (in_name true) x)))
    (collapsed white space (past_run (in_name false) (past_run (in_name true) x)))

unfoldable pub tag_of : List ℕ → CueText.Token
tag_of [] = start_of [] []
tag_of (c ∷ x) = cond (eqb c solidus) (end_tag x) (cond (digit c) (timestamp_tag (c ∷ x)) (start_of [] (c ∷ x)))

pub record StartAt (s : List ℕ) (from to : ℕ) (t : Token) : Type 0 where
  pub is : token_is s t ≡ start_of [] (bytes_at s from to)
  pub parts : PartsIn s from to t

pub record TagAt (s : List ℕ) (from to : ℕ) (t : Token) : Type 0 where
  pub is : token_is s t ≡ tag_of (bytes_at s from to)
  pub parts : PartsIn s from to t

-- a start tag's name stands after `<`, and where the text goes on after the tag, `>` stands after its annotation
abbrev pub Marked : List ℕ → ℕ → ℕ → Token → Type 0
Marked s at next (Token.String p) = Unit
Marked s at next (Token.Start name classes annotation) = (at < name.from) × (next < length s → annotation.to < next)
Marked s at next (Token.End p) = Unit
Marked s at next (Token.Timestamp p) = Unit

-- a token is the first of those from one place on, and the others are those from the next place on
pub record TokenAt (s : List ℕ) (at : ℕ) (t : Token) (next : ℕ) : Type 0 where
  pub moves : at < next
  pub inside : next ≤ length s
  pub first : cue_tokens (drop at s) ≡ token_is s t ∷ cue_tokens (drop next s)
  pub parts : PartsIn s at next t
  pub marked : Marked s at next t

abbrev pub StepAt : List ℕ → ℕ → Option Stepped → Type 0
StepAt s at None = length s ≤ at
StepAt s at (Some step) = TokenAt s at step.token step.next

-- the same by the places that the code finds: where a name ends that begins at a place, and where the classes after it do
abbrev pub name_to : List ℕ → ℕ → ℕ → ℕ
name_to s from to = from + length (run (in_name true) (drop from (take to s)))

abbrev pub classes_to : List ℕ → ℕ → ℕ → ℕ
classes_to s n to = n + length (run (in_name false) (drop n (take to s)))

unfoldable pub start_told : List ℕ → ℕ → ℕ → Token
start_told s from to =
    Token.Start (record { from = from; to = name_to s from to }) (record { from = name_to s from to; to = classes_to s (name_to s from to) to })
    (record { from = classes_to s (name_to s from to) to; to = to })

unfoldable pub tag_is : List ℕ → ℕ → ℕ → Token
tag_is s from to =
    cond (ltb from to)
    (cond (eqb (get_or s from 0) solidus) (Token.End (record { from = from + 1; to = to }))
    (cond (digit (get_or s from 0)) (Token.Timestamp (record { from = from; to = to })) (start_told s from to)))
    (start_told s from to)

abbrev pub string_to : List ℕ → ℕ → ℕ
string_to s at = at + length (run (λ b. not (eqb b less)) (drop at s))

abbrev pub tag_to : List ℕ → ℕ → ℕ
tag_to s from = from + length (run (λ b. not (eqb b greater)) (drop from s))

abbrev pub after_tag : List ℕ → ℕ → ℕ
after_tag s to = cond (ltb to (length s)) (to + 1) to

abbrev pub stepped : Token → ℕ → Option Stepped
stepped token next = Some (record { token = token; next = next })

unfoldable pub step_is : List ℕ → ℕ → Option Stepped
step_is s at =
    cond (ltb at (length s))
    (cond (eqb (get_or s at 0) less) (stepped (tag_is s (at + 1) (tag_to s (at + 1))) (after_tag s (tag_to s (at + 1))))
    (stepped (Token.String (record { from = at; to = string_to s at })) (string_to s at)))
    None
