-- The choice by a name.
use Rattle.std.specs.Prelude.{ℕ, ◌+◌, cond, List, [], ◌∷◌}
use Rattle.format.specs.Texts.{same}

-- a name's index among names; their number where it is none of them
abbrev pub index_in : List (List ℕ) → List ℕ → ℕ
index_in [] x = 0
index_in (n ∷ ns) x = cond (same x n) 0 (index_in ns x + 1)
