-- Laws of the answer of reading a cue text: which check gives it, that a refusal leaves the room and the table as they were, and that the
-- rows and the strings of an accepted text stand in them.
use Prim.Native.Nat.{ℕ, ◌≤◌, ◌<◌}
use mathlib.Core.Path.{◌≡◌, refl, sym, ap, ◌∙◌}
use mathlib.Core.Bool.{true, false}
use mathlib.Core.List.{List, [], ◌∷◌}
use lib.Dec.{ltb}
use lib.ListN.{length, take}
use borrow.Author.Tests.{lt-ltb, le-ltb, ltb-true, ltb-false}
use Rattle.format.specs.Limits.{max_text}
use Rattle.format.specs.Plain.{first_not_plain}
use Rattle.format.specs.CueText.{cue_tokens}
use Rattle.format.specs.Trees.{any_time_over, nodes, node_strings, node_rows, tree_size_told, tree_is, treeing, tree_room, tree_table, TreeStands}
use Rattle.format.specs.Answers.{Answer, accepted, refused, if_accepted, placed}
use Rattle.format.specs.Converting.{plainness_is, testing}
use Rattle.format.specs.declared.TreeSize.{TreeSize}
use Rattle.format.specs.declared.errors.TreeError.{TreeError}
use Rattle.std.specs.Prelude.{None, Some, Result, Ok}
use Rattle.laws.proofs.Answers.{after_test, front, not_plain, all_plain}
use Rattle.node_laws.proofs.RowLaws.{length-rows, tree_stands}
use Rattle.node_sizes.specs.Needs.{Sized}
use Rattle.markup.specs.Answering.{sized_answer, timed_answer, Answers}

pub refuses :
    {answer : Answer} {s : List ℕ} {r : Result TreeSize TreeError} {n : ℕ} {vs room : List ℕ} {table : List (List ℕ)}
    → tree_is r ≡ refused n vs
    → answer ≡ refused n vs
    → Answers answer s r room room table table
unfolding if_accepted
refuses e a = record { is = e ∙ sym a; strings = rw a refl; rows = rw a refl }

pub accepts :
    {answer : Answer} {s : List ℕ} {r : Result TreeSize TreeError} {vs room room' : List ℕ} {table table' : List (List ℕ)}
    → tree_is r ≡ accepted vs
    → answer ≡ accepted vs
    → room' ≡ placed (node_strings (nodes s)) room
    → table' ≡ placed (node_rows 0 (nodes s)) table
    → Answers answer s r room room' table table'
unfolding if_accepted
accepts e a x y = record { is = e ∙ sym a; strings = rw a x; rows = rw a y }

-- the answer of a check that does not refuse is the next one's
pub same_answer :
    {a b : Answer} {s : List ℕ} {r : Result TreeSize TreeError} {room room' : List ℕ} {table table' : List (List ℕ)}
    → a ≡ b
    → Answers b s r room room' table table'
    → Answers a s r room room' table table'
same_answer e x = rw e x

module _ (s : List ℕ) (n : TreeSize) (room table : ℕ) (z : Sized s n) where
  pub room-short : room < n.used → sized_answer s room table ≡ refused 2 (n.used ∷ [])
  unfolding sized_answer
  room-short h = rw (sym z.measured, lt-ltb room n.used h)

  pub table-short : n.used ≤ room → table < n.count → sized_answer s room table ≡ refused 6 (n.count ∷ [])
  unfolding sized_answer
  table-short h l = rw (sym z.measured, sym z.counted, le-ltb room n.used h, lt-ltb table n.count l)

  pub long_enough : n.used ≤ room → n.count ≤ table → sized_answer s room table ≡ accepted (n.count ∷ n.used ∷ [])
  unfolding sized_answer
  long_enough h l = rw (sym z.measured, sym z.counted, le-ltb room n.used h, le-ltb table n.count l)

module _ (s : List ℕ) (room table : ℕ) where
  pub over-answer : any_time_over (cue_tokens s) ≡ true → timed_answer s room table ≡ refused 5 []
  unfolding timed_answer
  over-answer y = rw y

  pub within-answer : any_time_over (cue_tokens s) ≡ false → timed_answer s room table ≡ sized_answer s room table
  unfolding timed_answer
  within-answer n = rw n

  pub long-answer : max_text < length s → treeing s room table ≡ refused 1 []
  unfolding treeing
  long-answer h = rw (lt-ltb max_text (length s) h)

  module _ (h : length s ≤ max_text) where
    pub not-plain-answer : first_not_plain s < length s → treeing s room table ≡ refused 3 (first_not_plain s ∷ [])
    unfolding treeing
    not-plain-answer l = rw (le-ltb max_text (length s) h, lt-ltb (first_not_plain s) (length s) l)

    pub plain-answer : length s ≤ first_not_plain s → treeing s room table ≡ timed_answer s room table
    unfolding treeing timed_answer sized_answer
    plain-answer l = rw (le-ltb max_text (length s) h, le-ltb (first_not_plain s) (length s) l)

-- an accepting answer has the counts of the nodes and of their strings' bytes
accepted-counts :
    (s : List ℕ) (room table : ℕ) (vs : List ℕ)
    → treeing s room table ≡ accepted vs
    → accepted (length (nodes s) ∷ length (node_strings (nodes s)) ∷ []) ≡ accepted vs
unfolding treeing
accepted-counts s room table vs e =
    let short = (after_test (ltb max_text (length s)) 1 [] vs _ e).1 in
    let plain = (after_test (ltb (first_not_plain s) (length s)) 3 (first_not_plain s ∷ []) vs _ short).1 in
    let within = (after_test (any_time_over (cue_tokens s)) 5 [] vs _ plain).1 in
    let fits = (after_test (ltb room (length (node_strings (nodes s)))) 2 (length (node_strings (nodes s)) ∷ []) vs _ within).1 in
    (after_test (ltb table (length (nodes s))) 6 (length (nodes s) ∷ []) vs _ fits).1

-- the room and the table of the whole
module _ {s : List ℕ} {r : Result TreeSize TreeError} {room room' : List ℕ} {table table' : List (List ℕ)}
    (a : Answers (treeing s (length room) (length table)) s r room room' table table') where
  pub room-is : room' ≡ tree_room s room (length table)
  unfolding tree_room
  room-is = a.strings

  pub table_is : table' ≡ tree_table s (length room) table
  unfolding tree_table
  table_is = a.rows

  -- an accepting answer says how much of the room and of the table is the tree
  pub stands : (size : TreeSize) → r ≡ Ok size → TreeStands s (take size.used room') (take size.count table')
  unfolding tree_is tree_size_told if_accepted
  stands size q =
      let count = size.count in
      let used = size.used in
      let e : treeing s (length room) (length table) ≡ accepted (count ∷ used ∷ []) = sym a.is ∙ ap tree_is q in
      let counts = accepted-counts s (length room) (length table) (count ∷ used ∷ []) e in
      let c : count ≡ length (node_rows 0 (nodes s)) = cc (length-rows 0 (nodes s)) in
      let u : used ≡ length (node_strings (nodes s)) = cc in
      rw (
        front (node_strings (nodes s)) room room' used (rw e at a.strings) u,
        front (node_rows 0 (nodes s)) table table' count (rw e at a.rows) c,
      ) (tree_stands s)

  pub all_four :
      (tree_is r ≡ treeing s (length room) (length table))
      × ((room' ≡ tree_room s room (length table))
      × ((table' ≡ tree_table s (length room) table)
      × ((size : TreeSize) → r ≡ Ok size → TreeStands s (take size.used room') (take size.count table'))))
  all_four = (a.is, (room-is, (table_is, stands)))

-- what the test of a text tells, as orders
pub plain-told : (s : List ℕ) → plainness_is None ≡ testing s → length s ≤ first_not_plain s
plain-told s e = ltb-false (first_not_plain s) (length s) (all_plain s e)

pub not-plain-told : (s : List ℕ) (i : ℕ) → plainness_is (Some i) ≡ testing s → (first_not_plain s < length s) × (i ≡ first_not_plain s)
not-plain-told s i e =
    let told = not_plain s i e in
    (ltb-true (first_not_plain s) (length s) told.0, sym told.1)
