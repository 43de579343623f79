-- Bytes stored in a room from a place on. What lies outside the room is only counted.
use Rattle.std.specs.Prelude.{ℕ, ◌+◌, ◌≡◌, Bool, true, false, List, [], ◌∷◌, eqb, length, set}
use Rattle.format.specs.Bytes.{full_stop, space, white}

-- the room that holds these bytes from a place on; a place outside the room stores nothing
unfoldable pub stored : ℕ → List ℕ → List ℕ → List ℕ
stored at [] room = room
stored at (b ∷ x) room = stored (at + 1) x (set room at b)

-- these bytes were stored from a place on, and then the place after them and the room are these
pub record Stores (x : List ℕ) (at : ℕ) (room : List ℕ) (beyond : ℕ) (after : List ℕ) : Type 0 where
  pub place : beyond ≡ at + length x
  pub holds : after ≡ stored at x room

-- the separators that are collapsed, and the one that is left of a run of them: full stops between classes, else ASCII whitespace
abbrev pub separates : Bool → (ℕ → Bool)
separates true = λ b. eqb b full_stop
separates false = white

abbrev pub one : Bool → ℕ
one true = full_stop
one false = space
