-- Looking up a region by its name (request Q-3 of document 02): "go from the end, stop at the first match and also tell how many records it saw".
-- `Last` says in other words what is found: the later of two regions with one identifier counts.
use Rattle.std.specs.Prelude.{Option, None, Some}
use Rattle.std.specs.Prelude.{ℕ, ◌+◌, ◌<◌, ◌≡◌, false, cond, List, [], ◌∷◌, reverse, length, get_or}
use Rattle.format.specs.Texts.{same}
use Rattle.format.specs.Writable.{names_of}
use Rattle.format.specs.Answers.{Answer, accepted}
use Rattle.format.specs.declared.RegionFound.{RegionFound}

-- one record more was seen
abbrev pub one_more : RegionFound → RegionFound
one_more f = record { index = f.index; seen = f.seen + 1 }

-- "go from the end, stop at the first match": the name x among identifiers from the last to the first
unfoldable pub look_up_back : List ℕ → List (List ℕ) → RegionFound
look_up_back x [] = record { index = None; seen = 0 }
look_up_back x (id ∷ ids) = cond (same id x) (record { index = Some (length ids); seen = 1 }) (one_more (look_up_back x ids))

-- the same among identifiers in the order of their list
unfoldable pub look_up : List ℕ → List (List ℕ) → RegionFound
look_up x ids = look_up_back x (reverse ids)

-- the region at index i has the name x and none after it has; those from i on were seen
pub record LastAt (x : List ℕ) (ids : List (List ℕ)) (i seen : ℕ) : Type 0 where
  pub inside : i < length ids
  pub named : get_or ids i [] ≡ x
  pub none-later : (j : ℕ) → i < j → j < length ids → same (get_or ids j []) x ≡ false
  pub counted : seen + i ≡ length ids

-- no region has the name x; all were seen
pub record NoneNamed (x : List ℕ) (ids : List (List ℕ)) (seen : ℕ) : Type 0 where
  pub none : (j : ℕ) → j < length ids → same (get_or ids j []) x ≡ false
  pub counted : seen ≡ length ids

-- what is found is the last of its name
abbrev pub Last : List ℕ → List (List ℕ) → Option ℕ → ℕ → Type 0
Last x ids None seen = NoneNamed x ids seen
Last x ids (Some i) seen = LastAt x ids i seen

-- nothing is refused; the values are 1 and the index, or 0 and 0 where no region has the name; and how many records were seen
unfoldable pub found_is : RegionFound → Answer
found_is f = accepted (go f.index)
  where
    go : Option ℕ → List ℕ
    go None = 0 ∷ 0 ∷ f.seen ∷ []
    go (Some i) = 1 ∷ i ∷ f.seen ∷ []

-- what looking up a name among rows over a text answers; the name may stand in another text
unfoldable pub looking_up : List ℕ → List (List ℕ) → List ℕ → Answer
looking_up s regions name = found_is (look_up name (names_of s regions))
