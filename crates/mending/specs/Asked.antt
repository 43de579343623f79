-- What mending a raw file promises, once it is known what is asked for: nothing where the request is bad.
use Rattle.std.specs.Prelude.{ℕ, ◌≡◌, Bool, cond, List, length, take}
use Rattle.std.specs.Prelude.{Option, Some, option_map}
use Rattle.std.specs.Prelude.{Result, Ok}
use Rattle.std.specs.Option.{option_map_or}
use Rattle.format.specs.Answers.{if_accepted, placed}
use Rattle.format.specs.Converting.{converted_room}
use Rattle.format.specs.Replacing.{new_file, Replaced}
use Rattle.format.specs.Requests.{Request, lent_text, lent_row, mending_is, too_long, mending_with}
use Rattle.format.specs.declared.errors.MendError.{MendError}

-- the answer, the scratch room and the output room after it, and demand 3 where there is a file
pub record MendedBy (o : Option Request) (raw : List ℕ) (longer : Bool) (scratch out : List ℕ) (r : Result ℕ MendError) (text left : List ℕ) : Type 0 where
  pub answer : mending_is r ≡ option_map (mending_with raw longer (length scratch) (length out)) o
  pub scratched : text ≡ option_map_or (λ q. cond (too_long raw longer) scratch (converted_room raw scratch)) o scratch
  pub holds :
      left
      ≡ option_map_or (λ q.
      if_accepted (mending_with raw longer (length scratch) (length out) q) (placed (new_file raw q.number (lent_text q) (lent_row q)) out)
      out) o out
  pub replaced :
      (n : ℕ) (q : Request)
      → r ≡ Ok n
      → o ≡ Some q
      → Replaced raw q.number (lent_text q) (lent_row q) (take n left)
