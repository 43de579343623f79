-- Putting bytes into an output room from a place on. What lies outside the room is only counted, and the count stops at the first number
-- above the greatest length of a file: the same functions measure a file, in a room of one byte, and write it.
use Rattle.std.specs.Prelude.{ℕ, ◌+◌, ◌≡◌, cond, List, [], ◌∷◌, ltb, set}
use Rattle.format.specs.Limits.{max_file}
use Rattle.std.specs.Prelude.{Result, Ok, Err, length}
use Rattle.std.specs.Borrow.{MutBor}
use Rattle.format.specs.Answers.{Answer, accepted, file_answer, if_accepted, placed}
use Rattle.format.specs.Writing.{out_error}
use Rattle.format.specs.declared.errors.OutError.{OutError}
use Rattle.output.specs.declared.Output.{Output}

-- the place after one byte more
unfoldable pub onward : ℕ → ℕ
onward at = cond (ltb max_file at) at (at + 1)

-- the place after these bytes, and the room that holds them; a place outside the room stores nothing
unfoldable pub place_after : ℕ → List ℕ → ℕ
place_after at [] = at
place_after at (b ∷ x) = place_after (onward at) x

unfoldable pub room_with : ℕ → List ℕ → List ℕ → List ℕ
room_with at [] room = room
room_with at (b ∷ x) room = room_with (onward at) x (set room at b)

-- these bytes were put: the place moved on, the room holds them, and it is the room that was lent
pub record Puts (x : List ℕ) (old new : Output) : Type 0 where
  pub place : new.at ≡ place_after old.at x
  pub holds : new.room.now ≡ room_with old.at x old.room.now
  pub lent : new.room.ghost_name ≡ old.room.ghost_name

-- each call of a function that puts bytes puts these
abbrev pub EachPuts : (MutBor Output → Unit {0} → MutBor Output → Type 0) → List ℕ → Type 0
EachPuts post x = (before after : MutBor Output) → post before tt after → Puts x before.now after.now

-- what making a file answers
unfoldable pub made_is : Result ℕ OutError → Answer
made_is (Ok n) = accepted (n ∷ [])
made_is (Err e) = out_error e

-- a file was made at the start of a room, or refused, and then the room is as it was
pub record Made (file old : List ℕ) (answer : Result ℕ OutError) (new : List ℕ) : Type 0 where
  pub is : made_is answer ≡ file_answer file (length old)
  pub holds : new ≡ if_accepted (file_answer file (length old)) (placed file old) old
