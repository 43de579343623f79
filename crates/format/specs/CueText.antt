-- The WebVTT cue text tokenizer: source document 000, section 6.4, state by state, each with its entries in their order; the escapes are by
-- the escape state of source document 004. A character of several bytes is taken byte by byte: every entry that names a character names one
-- of ASCII, so a visit of the first byte is the visit of the character.
use Rattle.std.specs.Prelude.{ℕ, Bool, false, not, cond, ◌||◌, List, [], ◌∷◌, ◌++◌, eqb}
use Rattle.format.specs.Bytes.{ascii, tab, lf, form_feed, space, ampersand, full_stop, solidus, semicolon, less, greater, digit, alphanumeric, white}
use Rattle.format.specs.Texts.{same, is_empty}

-- a token; a start tag without an annotation has the empty one, as the steps take it
pub data Token : Type 0 where
  string_token : (value : List ℕ) → Token
  start_tag : (name : List ℕ) (classes : List (List ℕ)) (annotation : List ℕ) → Token
  end_tag : (name : List ℕ) → Token
  timestamp_tag : (value : List ℕ) → Token

-- 2 to 4: the tokenizer's state, with what it holds of result, classes and buffer
pub data State : Type 0 where
  in_data : (result : List ℕ) → State
  in_escape : (result buffer : List ℕ) → State
  in_tag : State
  in_start_tag : (result : List ℕ) → State
  in_class : (result : List ℕ) (classes : List (List ℕ)) (buffer : List ℕ) → State
  in_annotation : (result : List ℕ) (classes : List (List ℕ)) (buffer : List ℕ) → State
  in_end_tag : (result : List ℕ) → State
  in_timestamp_tag : (result : List ℕ) → State

-- what a visit to a state comes to: a state for the next character ("jump to the step labeled next"); a token, with this character passed
-- ("advance position to the next character in input, then …"); or a token, with this character still to be read
pub data Visit : Type 0 where
  go_on : State → Visit
  passing : Token → Visit
  before : Token → Visit

-- Data state, at a character and at the end-of-file marker
unfoldable pub data_state : List ℕ → ℕ → Visit
data_state result c =
    cond (eqb c ampersand) (go_on (in_escape result (c ∷ [])))
    (cond (eqb c less) (cond (is_empty result) (go_on in_tag) (before (string_token result))) (go_on (in_data (result ++ c ∷ []))))

abbrev pub data_end : List ℕ → Token
data_end result = string_token result

-- "First, examine the value of buffer": the six escapes, U+200E, U+200F and U+00A0 in UTF-8
unfoldable pub escaped : List ℕ → List ℕ
escaped buffer =
    cond (same buffer (ascii "&amp")) (ampersand ∷ [])
    (cond (same buffer (ascii "&lt")) (less ∷ [])
    (cond (same buffer (ascii "&gt")) (greater ∷ [])
    (cond (same buffer (ascii "&lrm")) (0xE2 ∷ 0x80 ∷ 0x8E ∷ [])
    (cond (same buffer (ascii "&rlm")) (0xE2 ∷ 0x80 ∷ 0x8F ∷ [])
    (cond (same buffer (ascii "&nbsp")) (0xC2 ∷ 0xA0 ∷ []) (buffer ++ semicolon ∷ []))))))

-- Escape state
unfoldable pub escape_state : List ℕ → List ℕ → ℕ → Visit
escape_state result buffer c =
    cond (eqb c ampersand) (go_on (in_escape (result ++ buffer) (c ∷ [])))
    (cond (alphanumeric c) (go_on (in_escape result (buffer ++ c ∷ [])))
    (cond (eqb c semicolon) (go_on (in_data (result ++ escaped buffer)))
    (cond (eqb c less) (before (string_token (result ++ buffer))) (go_on (in_data (result ++ buffer ++ c ∷ []))))))

abbrev pub escape_end : List ℕ → List ℕ → Token
escape_end result buffer = string_token (result ++ buffer)

-- the characters that part a tag's name and classes from its annotation: tab, LF, FF, space
unfoldable pub blank : ℕ → Bool
blank c = eqb c tab || eqb c lf || eqb c form_feed || eqb c space

-- Tag state
abbrev pub tag_end : Token
tag_end = start_tag [] [] []

unfoldable pub tag_state : ℕ → Visit
tag_state c =
    cond (blank c) (go_on (in_annotation [] [] []))
    (cond (eqb c full_stop) (go_on (in_class [] [] []))
    (cond (eqb c solidus) (go_on (in_end_tag []))
    (cond (digit c) (go_on (in_timestamp_tag (c ∷ [])))
    (cond (eqb c greater) (passing tag_end) (go_on (in_start_tag (c ∷ [])))))))

-- what LF leaves in the buffer; tab, FF and space leave nothing
unfoldable pub new_buffer : ℕ → List ℕ
new_buffer c = cond (eqb c lf) (c ∷ []) []

-- Start tag state
abbrev pub start_tag_end : List ℕ → Token
start_tag_end result = start_tag result [] []

unfoldable pub start_tag_state : List ℕ → ℕ → Visit
start_tag_state result c =
    cond (blank c) (go_on (in_annotation result [] (new_buffer c)))
    (cond (eqb c full_stop) (go_on (in_class result [] []))
    (cond (eqb c greater) (passing (start_tag_end result)) (go_on (in_start_tag (result ++ c ∷ [])))))

-- Start tag class state
abbrev pub class_end : List ℕ → List (List ℕ) → List ℕ → Token
class_end result classes buffer = start_tag result (classes ++ buffer ∷ []) []

unfoldable pub class_state : List ℕ → List (List ℕ) → List ℕ → ℕ → Visit
class_state result classes buffer c =
    cond (blank c) (go_on (in_annotation result (classes ++ buffer ∷ []) (new_buffer c)))
    (cond (eqb c full_stop) (go_on (in_class result (classes ++ buffer ∷ []) []))
    (cond (eqb c greater) (passing (class_end result classes buffer)) (go_on (in_class result classes (buffer ++ c ∷ [])))))

-- "replace any sequence of one or more consecutive [such] characters with a single" one, and "remove any leading or trailing": a byte before
-- a text in which that is done, `inside` where the byte before it is not such a one
unfoldable pub parted : ℕ → List ℕ → List ℕ
parted one [] = []
parted one (b ∷ s) = one ∷ b ∷ s

unfoldable pub collapsing : (ℕ → Bool) → ℕ → Bool → ℕ → List ℕ → List ℕ
collapsing separates one inside b s = cond (separates b) (cond inside (parted one s) s) (b ∷ s)

unfoldable pub collapsed_from : (ℕ → Bool) → ℕ → Bool → List ℕ → List ℕ
collapsed_from separates one inside [] = []
collapsed_from separates one inside (b ∷ s) = collapsing separates one inside b (collapsed_from separates one (not (separates b)) s)

unfoldable pub collapsed : (ℕ → Bool) → ℕ → List ℕ → List ℕ
collapsed separates one s = collapsed_from separates one false s

-- Start tag annotation state; a reference in an annotation is not read
abbrev pub annotation_end : List ℕ → List (List ℕ) → List ℕ → Token
annotation_end result classes buffer = start_tag result classes (collapsed white space buffer)

unfoldable pub annotation_state : List ℕ → List (List ℕ) → List ℕ → ℕ → Visit
annotation_state result classes buffer c =
    cond (eqb c greater) (passing (annotation_end result classes buffer)) (go_on (in_annotation result classes (buffer ++ c ∷ [])))

-- End tag state
abbrev pub end_tag_end : List ℕ → Token
end_tag_end result = end_tag result

unfoldable pub end_tag_state : List ℕ → ℕ → Visit
end_tag_state result c = cond (eqb c greater) (passing (end_tag_end result)) (go_on (in_end_tag (result ++ c ∷ [])))

-- Timestamp tag state
abbrev pub timestamp_tag_end : List ℕ → Token
timestamp_tag_end result = timestamp_tag result

unfoldable pub timestamp_tag_state : List ℕ → ℕ → Visit
timestamp_tag_state result c =
    cond (eqb c greater) (passing (timestamp_tag_end result)) (go_on (in_timestamp_tag (result ++ c ∷ [])))

-- 6: "jump to the state given by tokenizer state", at a character
unfoldable pub visit : State → ℕ → Visit
visit (in_data result) c = data_state result c
visit (in_escape result buffer) c = escape_state result buffer c
visit in_tag c = tag_state c
visit (in_start_tag result) c = start_tag_state result c
visit (in_class result classes buffer) c = class_state result classes buffer c
visit (in_annotation result classes buffer) c = annotation_state result classes buffer c
visit (in_end_tag result) c = end_tag_state result c
visit (in_timestamp_tag result) c = timestamp_tag_state result c

-- the same at the end-of-file marker; where a token is only to begin and "position is past the end of input", there is none
unfoldable pub visit_end : State → List Token
visit_end (in_data result) = cond (is_empty result) [] (data_end result ∷ [])
visit_end (in_escape result buffer) = escape_end result buffer ∷ []
visit_end in_tag = tag_end ∷ []
visit_end (in_start_tag result) = start_tag_end result ∷ []
visit_end (in_class result classes buffer) = class_end result classes buffer ∷ []
visit_end (in_annotation result classes buffer) = annotation_end result classes buffer ∷ []
visit_end (in_end_tag result) = end_tag_end result ∷ []
visit_end (in_timestamp_tag result) = timestamp_tag_end result ∷ []

-- 2, 3: the state in which each token begins
abbrev pub begun : State
begun = in_data []

-- the token that a visit returns, if any
unfoldable pub returned : Visit → List Token
returned (go_on st) = []
returned (passing t) = t ∷ []
returned (before t) = t ∷ []

-- the state after a character. Where a visit returns a token before the character, the next token's first visit is to the same character,
-- and leads to the state `again`; so a character has one visit, or these two
unfoldable pub after_visit : Visit → State → State
after_visit (go_on st) again = st
after_visit (passing t) again = begun
after_visit (before t) again = again

unfoldable pub after_character : State → ℕ → State
after_character st c = after_visit (visit st c) (after_visit (visit begun c) begun)

-- 5, and the rules' own 7 and 8: the tokens of a cue text, one tokenizer after the other
unfoldable pub cue_tokens_from : State → List ℕ → List Token
cue_tokens_from st [] = visit_end st
cue_tokens_from st (c ∷ s) = returned (visit st c) ++ cue_tokens_from (after_character st c) s

unfoldable pub cue_tokens : List ℕ → List Token
cue_tokens s = cue_tokens_from begun s
