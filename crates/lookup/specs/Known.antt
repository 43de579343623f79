-- Answers of the look-up that are remembered. What a name asks for has a row of words: how many regions there were, the name's part of the text
-- from a place up to another, 1 where a region was found, and its index.
use Rattle.std.specs.Prelude.{Option, None, Some}
use Rattle.std.specs.Prelude.{ℕ, ◌+◌, ◌≤◌, ◌<◌, ◌≡◌, true, cond, List, [], ◌∷◌, eqb, length, take, get_or}
use Rattle.format.specs.Texts.{bytes_at}
use Rattle.format.specs.Writable.{last_of_its_name, names_of}
use Rattle.format.specs.Replacing.{region_asked}
use Rattle.format.specs.declared.settings.Span.{Span}

-- the region that a part of a text asks for by its name, among rows over that text; an empty part asks for none
abbrev pub asked_at : List ℕ → List (List ℕ) → Span → Option ℕ
asked_at s rows name = (region_asked (names_of s rows) (bytes_at s name.from name.to))

abbrev pub known_count : List ℕ → ℕ
known_count k = get_or k 0 0

abbrev pub known_name : List ℕ → Span
known_name k = record { from = get_or k 1 0; to = get_or k 2 0 }

abbrev pub known_index : List ℕ → Option ℕ
known_index k = cond (eqb (get_or k 3 0) 0) None (Some (get_or k 4 0))

abbrev pub found_words : Option ℕ → List ℕ
found_words None = 0 ∷ 0 ∷ []
found_words (Some i) = 1 ∷ i ∷ []

abbrev pub known_words : ℕ → Span → Option ℕ → List ℕ
known_words count name index = count ∷ name.from ∷ name.to ∷ found_words index

-- a row is right: it says what its name asks for among the first regions, as many as there were
pub record Right (s : List ℕ) (rows : List (List ℕ)) (k : List ℕ) : Type 0 where
  pub among : known_count k ≤ length rows
  pub says : asked_at s (take (known_count k) rows) (known_name k) ≡ known_index k

-- every element of a list has a property, d standing for one that is not there
abbrev pub Every : {A : Type 0} → (A → Type 0) → A → List A → Type 0
Every P d l = (i : ℕ) → i < length l → P (get_or l i d)

abbrev pub AllRight : List ℕ → List (List ℕ) → List (List ℕ) → Type 0
AllRight s rows known = Every (Right s rows) [] known

-- a region's index, increased by one, is remembered where the region is the last of its name; 0 says nothing
abbrev pub KnownLast : List (List ℕ) → ℕ → Type 0
KnownLast names w = (i : ℕ) → w ≡ i + 1 → last_of_its_name names i ≡ true

abbrev pub AllLast : List (List ℕ) → List ℕ → Type 0
AllLast names known = Every (KnownLast names) 0 known
