-- The rows of nodes as the second pass reads and stores them: a node is named by a word, 0 for the root and else its index and one.
use Rattle.std.specs.Prelude.{ℕ, ◌+◌, ◌-◌, ◌≤◌, ◌<◌, ◌≡◌, Bool, cond, ◌&&◌, ◌||◌, List, [], ◌++◌, eqb, ltb, length, get_or, set}
use Rattle.std.specs.Prelude.{Option, None, Some, Ok, Err}
use Rattle.format.specs.CueText.{Token}
use Rattle.format.specs.Limits.{max_text}
use Rattle.format.specs.Trees.{Node, kind_word, is_kind, parent_word, node_words, parent_named, node_of_row}
use Rattle.format.specs.declared.kinds.NodeKind.{NodeKind}
use Rattle.nodes.specs.Tokens.{Gift, token_classes, token_value, left_kind}
use Rattle.nodes.specs.declared.inner.tokens.Made.{Made}
use Rattle.strings.specs.Stores.{stored}
use Rattle.node_rows.specs.declared.inner.filling.Filled.{Filled}

-- does a word name no row
unfoldable pub no_row : List (List ℕ) → ℕ → Bool
no_row rows w = eqb w 0 || ltb (length rows) w

-- the node that a word names, without its strings
unfoldable pub node_named : List (List ℕ) → ℕ → Node
node_named rows w = node_of_row [] (get_or rows (w - 1) [])

-- the parent of a node, and its kind; the root's are the root and none
unfoldable pub up_in : List (List ℕ) → ℕ → ℕ
up_in rows w = cond (no_row rows w) 0 (parent_word (node_named rows w).parent)

unfoldable pub kind_in : List (List ℕ) → ℕ → Option NodeKind
kind_in rows w = cond (no_row rows w) None (Some (node_named rows w).kind)

-- the current node, which is of this kind, after an end tag that names that kind
unfoldable pub left_of : List (List ℕ) → ℕ → Option NodeKind → Option NodeKind → ℕ
left_of rows w None named = w
left_of rows w (Some k) named =
    cond (is_kind named k) (up_in rows w)
    (cond (is_kind named NodeKind.Ruby && is_kind (Some k) NodeKind.RubyText) (up_in rows (up_in rows w)) w)

unfoldable pub left_in : List (List ℕ) → ℕ → Option NodeKind → ℕ
left_in rows w named = left_of rows w (kind_in rows w) named

-- a node with these strings, below the node that a word names
abbrev pub node_below : ℕ → Made → List ℕ → List ℕ → Node
node_below current made classes value =
    record { parent = parent_named current; kind = made.kind; classes = classes; value = value; time = made.time }

-- a node was put: its strings into the room, its row into the table
pub record Puts (t : Token) (made : Made) (m : Filled) (room : List ℕ) (rows : List (List ℕ)) (r : Filled) (room' : List ℕ) (rows' : List (List ℕ)) : Type 0 where
  pub count : r.count ≡ m.count + 1
  pub used : r.used ≡ m.used + length (token_classes t) + length (token_value made.kind t)
  pub current : r.current ≡ cond (ltb (kind_word made.kind) 8) (m.count + 1) m.current
  pub strings : room' ≡ stored m.used (token_classes t ++ token_value made.kind t) room
  pub row : rows' ≡ set rows m.count (node_words m.used (node_below m.current made (token_classes t) (token_value made.kind t)))

-- what a token gives was put: a node, or nothing but another current node
abbrev pub Turned : Gift → Token → Filled → List ℕ → List (List ℕ) → Filled → List ℕ → List (List ℕ) → Type 0
Turned (Ok None) t m room rows r room' rows' =
    (r ≡ record { count = m.count; used = m.used; current = left_in rows m.current (left_kind t) })
    × (room' ≡ room)
    × (rows' ≡ rows)
Turned (Ok (Some made)) t m room rows r room' rows' = Puts t made m room rows r room' rows'
Turned (Err over) t m room rows r room' rows' = (r ≡ m) × (room' ≡ room) × (rows' ≡ rows)

-- there is room for what a token gives
abbrev pub Fits : Gift → Token → Filled → List (List ℕ) → Type 0
Fits (Ok None) t m rows = Unit
Fits (Err over) t m rows = Unit
Fits (Ok (Some made)) t m rows = (m.used + length (token_classes t) ≤ max_text) × (m.count < length rows)
