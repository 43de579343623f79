-- What reading a cue text answers after its first checks, and what the room and the table then hold.
use Rattle.std.specs.Prelude.{ℕ, ◌≡◌, cond, List, [], ◌∷◌, ltb, length, Result}
use Rattle.format.specs.CueText.{cue_tokens}
use Rattle.format.specs.Trees.{any_time_over, nodes, node_strings, node_rows, tree_is}
use Rattle.format.specs.Answers.{Answer, accepted, refused, if_accepted, placed}
use Rattle.format.specs.declared.TreeSize.{TreeSize}
use Rattle.format.specs.declared.errors.TreeError.{TreeError}

-- the checks 2 and 6
unfoldable pub sized_answer : List ℕ → ℕ → ℕ → Answer
sized_answer s room table =
    cond (ltb room (length (node_strings (nodes s)))) (refused 2 (length (node_strings (nodes s)) ∷ []))
    (cond (ltb table (length (nodes s))) (refused 6 (length (nodes s) ∷ []))
    (accepted (length (nodes s) ∷ length (node_strings (nodes s)) ∷ [])))

-- check 5 and those after it
unfoldable pub timed_answer : List ℕ → ℕ → ℕ → Answer
timed_answer s room table = cond (any_time_over (cue_tokens s)) (refused 5 []) (sized_answer s room table)

-- the answer, the room and the table go together
pub record Answers (answer : Answer) (s : List ℕ) (r : Result TreeSize TreeError) (room room' : List ℕ) (table table' : List (List ℕ)) : Type 0 where
  pub is : tree_is r ≡ answer
  pub strings : room' ≡ if_accepted answer (placed (node_strings (nodes s)) room) room
  pub rows : table' ≡ if_accepted answer (placed (node_rows 0 (nodes s)) table) table
