-- A cue text's nodes: source document 000, section 6.4, "WebVTT cue text parsing rules", as document 01's flat list in order of appearance;
-- how their strings stand in the lent room and their rows in the lent table, and what such a row says; and what reading a cue text answers.
use Rattle.std.specs.Prelude.{ℕ, zero, suc, ◌+◌, ◌≤◌, ◌≡◌, Bool, true, false, cond, not, ◌&&◌, ◌||◌, List, [], ◌∷◌, ◌++◌, map, eqb, ltb, length, drop}
use Rattle.std.specs.Prelude.{Option, None, Some, Result}
use Rattle.format.specs.Bytes.{ascii, full_stop}
use Rattle.format.specs.Limits.{max_text}
use Rattle.format.specs.Texts.{same, is_empty, bytes_at}
use Rattle.format.specs.Plain.{first_not_plain}
use Rattle.format.specs.Times.{value, Time, only_time, milliseconds, over_hours}
use Rattle.format.specs.CueText.{Token, string_token, start_tag, end_tag, timestamp_tag, parted, cue_tokens}
use Rattle.format.specs.Rows.{word}
use Rattle.format.specs.Answers.{Answer, accepted, refused, if_accepted, placed, answered}
use Rattle.format.specs.declared.kinds.NodeKind.{NodeKind}
use Rattle.format.specs.declared.TreeSize.{TreeSize}
use Rattle.format.specs.declared.errors.TreeError.{TreeError}

-- a node: the index of its parent, none where that is the root; its classes in one string; its value, of a string, a voice or a language; a
-- timestamp's milliseconds
pub record Node : Type 0 where
  pub parent : Option ℕ
  pub kind : NodeKind
  pub classes : List ℕ
  pub value : List ℕ
  pub time : ℕ

-- the word of a kind in a node's row
abbrev pub kind_word : NodeKind → ℕ
kind_word NodeKind.Class = 0
kind_word NodeKind.Italic = 1
kind_word NodeKind.Bold = 2
kind_word NodeKind.Underline = 3
kind_word NodeKind.Ruby = 4
kind_word NodeKind.RubyText = 5
kind_word NodeKind.Voice = 6
kind_word NodeKind.Language = 7
kind_word NodeKind.String = 8
kind_word NodeKind.Timestamp = 9

-- the kind of node that goes with a tag's name
unfoldable pub kind_named : List ℕ → Option NodeKind
kind_named name =
    cond (same name (ascii "c")) (Some NodeKind.Class)
    (cond (same name (ascii "i")) (Some NodeKind.Italic)
    (cond (same name (ascii "b")) (Some NodeKind.Bold)
    (cond (same name (ascii "u")) (Some NodeKind.Underline)
    (cond (same name (ascii "ruby")) (Some NodeKind.Ruby)
    (cond (same name (ascii "rt")) (Some NodeKind.RubyText)
    (cond (same name (ascii "v")) (Some NodeKind.Voice) (cond (same name (ascii "lang")) (Some NodeKind.Language) None)))))))

unfoldable pub is_kind : Option NodeKind → NodeKind → Bool
is_kind None k = false
is_kind (Some j) k = eqb (kind_word j) (kind_word k)

-- the nodes that are open, current first: the index and the kind of each
pub record Open : Type 0 where
  pub index : ℕ
  pub kind : NodeKind

unfoldable pub parent_of : List Open → Option ℕ
parent_of [] = None
parent_of (o ∷ path) = Some o.index

unfoldable pub kind_of : List Open → Option NodeKind
kind_of [] = None
kind_of (o ∷ path) = Some o.kind

-- 9, a start tag: the kind of node that is attached to a current node of this kind; "`rt` opens only directly inside ruby", and any other
-- name is ignored
unfoldable pub attached : Option NodeKind → List ℕ → Option NodeKind
attached current name = cond (is_kind (kind_named name) NodeKind.RubyText && not (is_kind current NodeKind.Ruby)) None (kind_named name)

-- 9, an end tag: the nodes that stay open. The current node is left where the name is its own; `</ruby>` in a ruby text leaves both
unfoldable pub leaving : Option NodeKind → List Open → List Open
leaving named [] = []
leaving named (o ∷ path) =
    cond (is_kind named o.kind) path
    (cond (is_kind named NodeKind.Ruby && is_kind (Some o.kind) NodeKind.RubyText) (drop 1 path) (o ∷ path))

-- "Classes of a node stand in one string parted by full stops, empty ones left out."
unfoldable pub class_string : List (List ℕ) → List ℕ
class_string [] = []
class_string (c ∷ cs) = cond (is_empty c) (class_string cs) (c ++ parted full_stop (class_string cs))

-- the time of a timestamp tag, if it is one
unfoldable pub tag_time : List ℕ → Option Time
tag_time text = value (only_time text)

-- the value of a node that a start tag attaches: a voice and a language have the annotation, the others none
unfoldable pub value_for : NodeKind → List ℕ → List ℕ
value_for k annotation = cond (is_kind (Some k) NodeKind.Voice || is_kind (Some k) NodeKind.Language) annotation []

-- the nodes that a token gives: one, or none where it is ignored
unfoldable pub element : Option ℕ → List ℕ → List ℕ → Option NodeKind → List Node
element parent classes annotation None = []
element parent classes annotation (Some k) =
    record { parent = parent; kind = k; classes = classes; value = value_for k annotation; time = 0 } ∷ []

unfoldable pub stamped : Option ℕ → Option Time → List Node
stamped parent None = []
stamped parent (Some t) = record { parent = parent; kind = NodeKind.Timestamp; classes = []; value = []; time = milliseconds t } ∷ []

unfoldable pub made : List Open → Token → List Node
made path (string_token value) = record { parent = parent_of path; kind = NodeKind.String; classes = []; value = value; time = 0 } ∷ []
made path (start_tag name classes annotation) = element (parent_of path) (class_string classes) annotation (attached (kind_of path) name)
made path (end_tag name) = []
made path (timestamp_tag value) = stamped (parent_of path) (tag_time value)

-- the nodes that are open after a token, the node that it gives having this index: "let current be the newly created node object"
unfoldable pub entering : ℕ → Option NodeKind → List Open → List Open
entering index None path = path
entering index (Some k) path = record { index = index; kind = k } ∷ path

unfoldable pub path_after : List Open → ℕ → Token → List Open
path_after path index (string_token value) = path
path_after path index (start_tag name classes annotation) = entering index (attached (kind_of path) name) path
path_after path index (end_tag name) = leaving (kind_named name) path
path_after path index (timestamp_tag value) = path

-- 7 to 10: the nodes of tokens, the first having this index
unfoldable pub nodes_from : List Open → ℕ → List Token → List Node
nodes_from path index [] = []
nodes_from path index (t ∷ ts) = made path t ++ nodes_from (path_after path index t) (index + length (made path t)) ts

-- the nodes of a cue text
unfoldable pub nodes : List ℕ → List Node
nodes s = nodes_from [] 0 (cue_tokens s)

-- refusal 5: "hours are at most 99,999 … but only where … the whole timestamp tag, reads"
unfoldable pub time_over : Option Time → Bool
time_over None = false
time_over (Some t) = over_hours t

unfoldable pub token_over : Token → Bool
token_over (string_token value) = false
token_over (start_tag name classes annotation) = false
token_over (end_tag name) = false
token_over (timestamp_tag value) = time_over (tag_time value)

unfoldable pub any_time_over : List Token → Bool
any_time_over [] = false
any_time_over (t ∷ ts) = token_over t || any_time_over ts

-- the strings of nodes in the room, one after the other: "node by node (classes, then value)"
unfoldable pub node_strings : List Node → List ℕ
node_strings [] = []
node_strings (n ∷ ns) = n.classes ++ n.value ++ node_strings ns

-- where a string stands in the room, as two words; an empty one is 0, 0
unfoldable pub place_words : ℕ → List ℕ → List ℕ
place_words place [] = 0 ∷ 0 ∷ []
place_words place (b ∷ s) = place ∷ (place + length (b ∷ s)) ∷ []

-- 0 for the root, else the index and one
unfoldable pub parent_word : Option ℕ → ℕ
parent_word None = 0
parent_word (Some i) = suc i

-- the row of a node whose strings stand at a place: parent, kind, classes from and to, value from and to, milliseconds
unfoldable pub node_words : ℕ → Node → List ℕ
node_words place n =
    parent_word n.parent
    ∷ kind_word n.kind
    ∷ place_words place n.classes ++ place_words (place + length n.classes) n.value ++ n.time ∷ []

unfoldable pub node_rows : ℕ → List Node → List (List ℕ)
node_rows place [] = []
node_rows place (n ∷ ns) = node_words place n ∷ node_rows (place + length n.classes + length n.value) ns

-- the parent that a word names: none for 0, else the index one below
unfoldable pub parent_named : ℕ → Option ℕ
parent_named zero = None
parent_named (suc i) = Some i

-- the kind of a word, 0 to 9: the inverse of kind_word
unfoldable pub kind_numbered : ℕ → NodeKind
kind_numbered n =
    cond (eqb n 0) NodeKind.Class
    (cond (eqb n 1) NodeKind.Italic
    (cond (eqb n 2) NodeKind.Bold
    (cond (eqb n 3) NodeKind.Underline
    (cond (eqb n 4) NodeKind.Ruby
    (cond (eqb n 5) NodeKind.RubyText (cond (eqb n 6) NodeKind.Voice (cond (eqb n 7) NodeKind.Language (cond (eqb n 8) NodeKind.String NodeKind.Timestamp))))))))

-- what a node's row says, its strings being in this room: the one decoding of such a row
unfoldable pub node_of_row : List ℕ → List ℕ → Node
node_of_row room w =
    record {
      parent = parent_named (word 0 w);
      kind = kind_numbered (word 1 w);
      classes = bytes_at room (word 2 w) (word 3 w);
      value = bytes_at room (word 4 w) (word 5 w);
      time = word 6 w;
    }

-- is this parent the root, or a node before this index
unfoldable pub parent_before : ℕ → Option ℕ → Bool
parent_before index None = true
parent_before index (Some i) = ltb i index

-- is each node's parent the root or a node before it, the first node here having this index
unfoldable pub parents_first : ℕ → List Node → Bool
parents_first index [] = true
parents_first index (n ∷ ns) = parent_before index n.parent && parents_first (suc index) ns

-- What holds of every accepted tree, whose strings fill this room and whose rows are these
pub record TreeStands (s room : List ℕ) (rows : List (List ℕ)) : Type 0 where
  -- the rows say the text's nodes: the room's bytes between a node's words are its classes and its value, its parent's word names its parent
  pub same : map (node_of_row room) rows ≡ nodes s
  -- "each after its parent"
  pub parents : parents_first 0 (map (node_of_row room) rows) ≡ true
  -- the strings are never longer than the text
  pub bound : length room ≤ length s

-- the number and the values of each case: the counts of nodes and of the room's bytes; refusal 2 with the length, 6 with the count
unfoldable pub tree_error : TreeError → Answer
tree_error TreeError.TooLong = refused 1 []
tree_error (TreeError.NotPlainAt i) = refused 3 (i ∷ [])
tree_error TreeError.OverLimit = refused 5 []
tree_error (TreeError.RoomTooShort n) = refused 2 (n ∷ [])
tree_error (TreeError.TableTooShort n) = refused 6 (n ∷ [])

unfoldable pub tree_size_told : TreeSize → Answer
tree_size_told n = accepted (n.count ∷ n.used ∷ [])

unfoldable pub tree_is : Result TreeSize TreeError → Answer
tree_is = answered tree_size_told tree_error

-- what reading a cue text answers, with a room of this length and a table of this many rows: the checks 1, 3, 5, 2, 6 in this order
unfoldable pub treeing : List ℕ → ℕ → ℕ → Answer
treeing s room table =
    cond (ltb max_text (length s)) (refused 1 [])
    (cond (ltb (first_not_plain s) (length s)) (refused 3 (first_not_plain s ∷ []))
    (cond (any_time_over (cue_tokens s)) (refused 5 [])
    (cond (ltb room (length (node_strings (nodes s)))) (refused 2 (length (node_strings (nodes s)) ∷ []))
    (cond (ltb table (length (nodes s))) (refused 6 (length (nodes s) ∷ []))
    (accepted (length (nodes s) ∷ length (node_strings (nodes s)) ∷ []))))))

-- the room and the table after it
unfoldable pub tree_room : List ℕ → List ℕ → ℕ → List ℕ
tree_room s room table = if_accepted (treeing s (length room) table) (placed (node_strings (nodes s)) room) room

unfoldable pub tree_table : List ℕ → ℕ → List (List ℕ) → List (List ℕ)
tree_table s room table = if_accepted (treeing s room (length table)) (placed (node_rows 0 (nodes s)) table) table
