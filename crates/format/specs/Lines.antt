-- The lines of a plain text: its parts between LF bytes. A text has always at least one line, the empty text too.
use Rattle.std.specs.Prelude.{ℕ, cond, List, [], ◌∷◌, ◌++◌, eqb}
use Rattle.format.specs.Bytes.{lf}

-- one byte more at the start of the first part
unfoldable pub on_first : ℕ → List (List ℕ) → List (List ℕ)
on_first b [] = (b ∷ []) ∷ []
on_first b (l ∷ ls) = (b ∷ l) ∷ ls

-- the parts of a text between bytes c: c ends a part, any other byte begins the part that follows it
unfoldable pub before : ℕ → ℕ → List (List ℕ) → List (List ℕ)
before c b ls = cond (eqb b c) ([] ∷ ls) (on_first b ls)

unfoldable pub split_list_at : ℕ → List ℕ → List (List ℕ)
split_list_at c [] = [] ∷ []
split_list_at c (b ∷ s) = before c b (split_list_at c s)

abbrev pub split : List ℕ → List (List ℕ)
split = split_list_at lf

-- each line after an LF
unfoldable pub after_line_ends : List (List ℕ) → List ℕ
after_line_ends [] = []
after_line_ends (l ∷ ls) = lf ∷ (l ++ after_line_ends ls)

-- the text that has these lines
unfoldable pub join : List (List ℕ) → List ℕ
join [] = []
join (l ∷ ls) = l ++ after_line_ends ls
