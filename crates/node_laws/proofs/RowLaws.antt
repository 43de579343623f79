-- A node's row means one thing: what is decoded of the rows of a cue text's nodes, with their strings in the room, is those nodes again, each
-- after its parent.
use Prim.Native.Nat.{ℕ, zero, suc, ◌+◌, ◌-◌, ◌≤◌, ◌<◌}
use mathlib.Core.Path.{◌≡◌, refl, sym, ap}
use mathlib.Core.Bool.{true, ◌&&◌}
use mathlib.Core.List.{List, [], ◌∷◌, ◌++◌, map, append_assoc}
use Rattle.std.specs.Prelude.{Option, None, Some}
use native.Mathlib.Omega.{arith}
use lib.ListN.{length, drop, length-append}
use lib.Seq.{take-append_seam, drop-append_seam}
use borrow.Author.Tests.{lt-ltb}
use Rattle.format.specs.Times.{Time}
use Rattle.format.specs.CueText.{Token, string_token, start_tag, end_tag, timestamp_tag, cue_tokens}
use Rattle.format.specs.Rows.{word}
use Rattle.format.specs.Texts.{bytes_at}
use Rattle.format.specs.Trees.{Node, kind_word, kind_named, Open, parent_of, kind_of, attached, tag_time, element, stamped, made, entering, path_after, nodes_from, nodes, node_strings, place_words, parent_word, node_words, node_rows, parent_named, kind_numbered, node_of_row, parent_before, parents_first, TreeStands}
use Rattle.format.specs.declared.kinds.NodeKind.{NodeKind}
use Rattle.nodes.proofs.KindLaws.{kind_numbered_lem}
use Rattle.laws.proofs.Tests.{and_left, and_right, and_both}
use Rattle.node_laws.proofs.TreeLaws.{leaving_keeps}
use Rattle.node_laws.proofs.RoomLaws.{room_bound}

-- the word of a parent and of a kind names it
pub parent_named_lem : (o : Option ℕ) → parent_named (parent_word o) ≡ o
unfolding parent_named parent_word
parent_named_lem None = refl
parent_named_lem (Some i) = refl

-- and a word is the word of the parent that it names
pub named-word : (w : ℕ) → parent_word (parent_named w) ≡ w
unfolding parent_named parent_word
named-word zero = refl
named-word (suc i) = refl

-- a string's place is two words
two_words : (place : ℕ) (x : List ℕ) → place_words place x ≡ word 0 (place_words place x) ∷ word 1 (place_words place x) ∷ []
unfolding place_words
two_words place [] = refl
two_words place (b ∷ x) = refl

-- and between them in the room is the string
string_at :
    (before x rest : List ℕ)
    → bytes_at (before ++ (x ++ rest)) (word 0 (place_words (length before) x)) (word 1 (place_words (length before) x)) ≡ x
unfolding bytes_at place_words
string_at before [] rest = refl
string_at before (b ∷ x) rest =
    let n : length before + length (b ∷ x) - length before ≡ length (b ∷ x) = omega arith in
    rw (n, drop-append_seam before (b ∷ x ++ rest)) (take-append_seam (b ∷ x) rest)

-- a row says its node, wherever the node's strings stand in the room
row-says :
    (before : List ℕ) (n : Node) (rest : List ℕ)
    → node_of_row (before ++ (n.classes ++ n.value ++ rest)) (node_words (length before) n) ≡ n
unfolding node_of_row node_words
row-says before n rest =
    let classes = string_at before n.classes (n.value ++ rest) in
    let value = string_at (before ++ n.classes) n.value rest in
    rw (
      two_words (length before) n.classes,
      two_words (length before + length n.classes) n.value,
      parent_named_lem n.parent,
      kind_numbered_lem n.kind,
      append_assoc n.classes n.value rest,
      classes,
      ← (append_assoc before n.classes (n.value ++ rest)),
      ← (length-append before n.classes),
      value,
    ) refl

-- the rows of nodes say these nodes
rows_say : (before : List ℕ) (ns : List Node) → map (node_of_row (before ++ node_strings ns)) (node_rows (length before) ns) ≡ ns
unfolding node_rows node_strings
rows_say before [] = refl
rows_say before (n ∷ ns) =
    let own = n.classes ++ n.value in
    let e : length (before ++ own) ≡ length before + length n.classes + length n.value =
    omega (arith, length-append before own, length-append n.classes n.value) in
    let more = rw (append_assoc before own (node_strings ns), e) at (rows_say (before ++ own) ns) in
    rw (row-says before n (node_strings ns)) (ap (λ ms. n ∷ ms) more)

-- there are as many rows as nodes
pub length-rows : (place : ℕ) (ns : List Node) → length (node_rows place ns) ≡ length ns
unfolding node_rows
length-rows place [] = refl
length-rows place (n ∷ ns) = ap suc (length-rows (place + length n.classes + length n.value) ns)

-- the open nodes are before this index
data Before (index : ℕ) : List Open → Type 0 where
  root : Before index []
  below : {o : Open} {path : List Open} → o.index < index → Before index path → Before index (o ∷ path)

-- what is before an index is before any later one, and so are the nodes that are open where the current one is left
later : {i : ℕ} (j : ℕ) {path : List Open} → i ≤ j → Before i path → Before j path
later j h root = root
later j h (below {o = o} l b) = below {o = o} (omega arith) (later j h b)

drop-before : {i : ℕ} (path : List Open) → Before i path → Before i (drop 1 path)
drop-before [] root = root
drop-before (o ∷ path) (below h b) = b

-- so the current node may be the parent of the node with this index
current-first : {i : ℕ} {path : List Open} → Before i path → parent_before i (parent_of path) && true ≡ true
unfolding parent_before parent_of
current-first root = refl
current-first {i} (below {o = o} h b) = rw (lt-ltb o.index i h)

-- parents come first in two lists of nodes, the second after the first
first_append :
    (i : ℕ) (xs ys : List Node) → parents_first i xs ≡ true → parents_first (i + length xs) ys ≡ true → parents_first i (xs ++ ys) ≡ true
unfolding parents_first
first_append i [] ys p q = let e : i + 0 ≡ i = omega arith in rw e at q
first_append i (n ∷ xs) ys p q =
    let e : i + suc (length xs) ≡ suc i + length xs = omega arith in
    and_both (parent_before i n.parent) (parents_first (suc i) (xs ++ ys)) (and_left (parent_before i n.parent) (parents_first (suc i) xs) p)
    (first_append (suc i) xs ys (and_right (parent_before i n.parent) (parents_first (suc i) xs) p) (rw e at q))

-- what a token gives has the current node as its parent, and the nodes that are then open are before the next node
record Turn (path : List Open) (index : ℕ) (t : Token) : Type 0 where
  first : parents_first index (made path t) ≡ true
  then : Before (index + length (made path t)) (path_after path index t)

-- by what the token gives: a start tag's node, which becomes the current one, or a timestamp's
element_turn :
    (path : List Open) (index : ℕ) (name : List ℕ) (classes : List (List ℕ)) (annotation : List ℕ) (o : Option NodeKind)
    → o ≡ attached (kind_of path) name
    → Before index path
    → Turn path index (start_tag name classes annotation)
unfolding made element path_after entering parents_first
element_turn path index name classes annotation None e b =
    record { first = rw (sym e) refl; then = rw (sym e) (later (index + 0) (omega arith) b) }
element_turn path index name classes annotation (Some k) e b =
    record {
      first = rw (sym e) (current-first b);
      then = rw (sym e) (below {o = record { index = index; kind = k }} (omega arith) (later (index + 1) (omega arith) b));
    }

stamp_turn :
    (path : List Open) (index : ℕ) (value : List ℕ) (o : Option Time)
    → o ≡ tag_time value
    → Before index path
    → Turn path index (timestamp_tag value)
unfolding made stamped path_after parents_first
stamp_turn path index value None e b = record { first = rw (sym e) refl; then = rw (sym e) (later (index + 0) (omega arith) b) }
stamp_turn path index value (Some t) e b =
    record { first = rw (sym e) (current-first b); then = rw (sym e) (later (index + 1) (omega arith) b) }

turn : (path : List Open) (index : ℕ) (t : Token) → Before index path → Turn path index t
unfolding made path_after parents_first
turn path index (string_token value) b = record { first = current-first b; then = later (index + 1) (omega arith) b }
turn path index (start_tag name classes annotation) b = element_turn path index name classes annotation (attached (kind_of path) name) refl b
turn path index (end_tag name) b =
    record { first = refl; then = later (index + 0) (omega arith) (leaving_keeps (Before index) drop-before (kind_named name) path b) }
turn path index (timestamp_tag value) b = stamp_turn path index value (tag_time value) refl b

-- "each after its parent"
parents_first_lem : (path : List Open) (index : ℕ) (ts : List Token) → Before index path → parents_first index (nodes_from path index ts) ≡ true
unfolding nodes_from parents_first
parents_first_lem path index [] b = refl
parents_first_lem path index (t ∷ ts) b =
    let now = turn path index t b in
    let next = index + length (made path t) in
    first_append index (made path t) (nodes_from (path_after path index t) next ts) now.first (parents_first_lem (path_after path index t) next ts now.then)

-- the rows and the strings of every text's nodes are such a tree
pub tree_stands : (s : List ℕ) → TreeStands s (node_strings (nodes s)) (node_rows 0 (nodes s))
unfolding nodes
tree_stands s =
    let says = rows_say [] (nodes s) in
    record { same = says; parents = rw says (parents_first_lem [] 0 (cue_tokens s) root); bound = room_bound s }
