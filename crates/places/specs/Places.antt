-- Lines and their numbers by places.
use Rattle.std.specs.Prelude.{ℕ, ◌≤◌, ◌≡◌, Bool, not, ◌||◌, ◌&&◌, List, [], ◌∷◌, eqb, length, take}
use Rattle.format.specs.Bytes.{lf, cr}
use Rattle.format.specs.Texts.{starts_with}
use Rattle.format.specs.Replacing.{first_line, last_line}
use Rattle.blocks.specs.Collecting.{line_ends}

-- does a raw line end after this byte, before the bytes s
unfoldable pub ends_line : ℕ → List ℕ → Bool
ends_line b s = eqb b lf || (eqb b cr && not (starts_with (lf ∷ []) s))

-- a cue's lines stand from a place up to another
pub record OwnLines (s : List ℕ) (number from to : ℕ) : Type 0 where
  pub some : from ≤ to
  pub inside : to ≤ length s
  pub first : first_line s number ≡ line_ends (take from s)
  pub last : last_line s number ≡ line_ends (take to s)
