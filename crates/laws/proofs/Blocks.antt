-- Blocks: where collecting stops, the lines before and the lines from there on do not look at each other.
use mathlib.Core.Path.{◌≡◌, ap, sym, ◌∙◌}
use mathlib.Core.Bool.{true}
use mathlib.Core.List.{List, [], ◌∷◌, ◌++◌, append_assoc}
use Rattle.format.specs.Blocks.{Line, Collecting, between, stops, collected, ended, next, blocks_from}

-- where collecting stands after lines
unfoldable pub state_after : Collecting → List Line → Collecting
state_after st [] = st
state_after st (l ∷ ls) = state_after (next st l) ls

-- a line before which collecting stops begins as after an empty line
pub blocks-stop : (st : Collecting) (l : Line) (ls : List Line) → stops st l ≡ true → blocks_from st (l ∷ ls) ≡ collected st ++ blocks_from between (l ∷ ls)
unfolding blocks_from ended next stops collected
blocks-stop st l ls e = rw e

-- a file divides where collecting stops
pub cut :
    (st : Collecting) (before : List Line) (l : Line) (bs : List Line)
    → stops (state_after st before) l ≡ true
    → blocks_from st (before ++ l ∷ bs) ≡ blocks_from st before ++ blocks_from between (l ∷ bs)
unfolding blocks_from state_after
cut st [] l bs e = blocks-stop st l bs e
cut st (a ∷ before) l bs e =
    ap (λ r. ended st a ++ r) (cut (next st a) before l bs e) ∙ sym (append_assoc (ended st a) (blocks_from (next st a) before) (blocks_from between (l ∷ bs)))
