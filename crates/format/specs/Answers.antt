-- Answers as document 01 numbers them, and what lent memory holds after one.
use Rattle.std.specs.Prelude.{ℕ, ◌+◌, Bool, true, cond, List, [], ◌∷◌, ◌++◌, ltb, length, drop, set}
use Rattle.std.specs.Prelude.{Result, Ok, Err}
use Rattle.format.specs.Limits.{max_file}
use Rattle.format.specs.Texts.{has}

-- accepted, with the values handed back; or refused by number, with what is returned with it
pub data Answer : Type 0 where
  accepted : List ℕ → Answer
  refused : ℕ → List ℕ → Answer

-- the first where the answer accepts, the second where it refuses
unfoldable pub if_accepted {ℓ} : {A : Type ℓ} → Answer → A → A → A
if_accepted (accepted vs) a b = a
if_accepted (refused n vs) a b = b

-- is the answer no refusal, or one by these numbers
unfoldable pub refused_only_by : List ℕ → Answer → Bool
refused_only_by numbers (accepted vs) = true
refused_only_by numbers (refused number vs) = has number numbers

-- the number of a refusal; 0 where the answer accepts
unfoldable pub refusal_number : Answer → ℕ
refusal_number (accepted vs) = 0
refusal_number (refused number vs) = number

-- what is returned with an answer
unfoldable pub returned : Answer → List ℕ
returned (accepted vs) = vs
returned (refused number vs) = vs

-- what a result answers, by what its value and its error answer
abbrev pub answered : {V E : Type 0} → (V → Answer) → (E → Answer) → Result V E → Answer
answered value error (Ok v) = value v
answered value error (Err e) = error e

-- accepted, with the length of a text or a file that was made
abbrev pub length_told : ℕ → Answer
length_told n = accepted (n ∷ [])

-- the next answer where this one accepts
unfoldable pub and_then : Answer → Answer → Answer
and_then answer next = if_accepted answer next answer

-- what reading a value answers: refusal 5 where a number is above its limit, else these values
unfoldable pub limited : Bool → List ℕ → Answer
limited over vs = cond over (refused 5 []) (accepted vs)

-- what making a file answers, in an output room of this length: 1 (file to be made), 10 with the length needed, else its length
unfoldable pub file_answer : List ℕ → ℕ → Answer
file_answer file room =
    cond (ltb max_file (length file)) (refused 1 [])
    (cond (ltb room (length file)) (refused 10 (length file ∷ [])) (accepted (length file ∷ [])))

-- lent room with a text at its start, its bytes beyond that text as they were;
-- or a lent table with rows at its start
unfoldable pub placed {ℓ} : {A : Type ℓ} → List A → List A → List A
placed text room = text ++ drop (length text) room

-- lent words with values from place i on, one after the other; the others as they were
unfoldable pub with_values : ℕ → List ℕ → List ℕ → List ℕ
with_values i [] words = words
with_values i (v ∷ vs) words = with_values (i + 1) vs (set words i v)
