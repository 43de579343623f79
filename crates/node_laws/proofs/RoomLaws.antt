-- The strings of a cue text's nodes are never longer than the text, and its tokens never more than its bytes.
use Prim.Native.Nat.{ℕ, zero, suc, ◌+◌, ◌≤◌}
use mathlib.Core.Path.{◌≡◌, ap}
use mathlib.Core.Bool.{Bool, true, false, ◌||◌}
use mathlib.Core.List.{List, [], ◌∷◌, ◌++◌}
use Rattle.std.specs.Prelude.{Option, None, Some, Ok, Err}
use native.Mathlib.Omega.{arith}
use lib.Dec.{eqb}
use lib.ListN.{length, drop, length-append, length-drop}
use borrow.Author.Tests.{eqb-true}
use Rattle.format.specs.Bytes.{less, solidus, digit, white, space}
use Rattle.format.specs.Texts.{is_empty, run, past_run}
use Rattle.format.specs.Times.{Time}
use Rattle.format.specs.CueText.{Token, string_token, start_tag, end_tag, timestamp_tag, visit_end, cue_tokens_from, cue_tokens}
use Rattle.format.specs.Trees.{is_kind, Open, kind_of, attached, class_string, tag_time, value_for, element, stamped, made, path_after, nodes_from, nodes, node_strings}
use Rattle.format.specs.declared.kinds.NodeKind.{NodeKind}
use Rattle.laws.proofs.Tests.{by-test}
use Rattle.laws.proofs.Runs.{run_length, past_run-drop}
use Rattle.tokenizer.specs.Tags.{in_name, classes_of, start_of, tag_of}
use Rattle.tokenizer.proofs.Strings.{not_less, string_token_lem}
use Rattle.tokenizer.proofs.Tags.{not_greater, tag_token}
use Rattle.strings.specs.Stores.{separates, one}
use Rattle.strings.proofs.TextLaws.{decoded-length, collapsed-length, class_string_lem}
use Rattle.nodes.specs.Tokens.{Gift, made_is, token_classes, token_value}
use Rattle.node_laws.specs.Sizes.{top_kind, kinds_after, made_count, made_length, count_from, length_from}
use Rattle.node_laws.proofs.TreeLaws.{node_strings_append}

-- the bytes that a token's strings have at the most
unfoldable size : Token → ℕ
size (string_token value) = length value
size (start_tag name classes annotation) = length (class_string classes) + length annotation
size (end_tag name) = 0
size (timestamp_tag value) = 0

unfoldable sizes : List Token → ℕ
sizes [] = 0
sizes (t ∷ ts) = size t + sizes ts

-- a run and what stands after it are the text
run-parts : (p : ℕ → Bool) (s : List ℕ) → length (run p s) + length (past_run p s) ≡ length s
run-parts p s = rw (past_run-drop p s) (omega (arith, length-drop (length (run p s)) s, run_length p s))

classes-size : (k : List ℕ) → length (class_string (classes_of k)) ≤ length k
unfolding classes_of class_string
classes-size [] = omega arith
classes-size (b ∷ k) = rw (class_string_lem k) (omega (arith, collapsed-length (separates true) (one true) k))

start-size : (x : List ℕ) → size (start_of [] x) ≤ length x
unfolding start_of size
start-size x =
    let rest = past_run (in_name true) x in
    let beyond = past_run (in_name false) rest in
    omega (
      arith,
      run-parts (in_name true) x,
      run-parts (in_name false) rest,
      classes-size (run (in_name false) rest),
      collapsed-length white space beyond,
    )

tag_size : (x : List ℕ) → size (tag_of x) ≤ length x
unfolding tag_of size
tag_size [] = start-size []
tag_size (c ∷ x) =
    by-test (eqb c solidus)
    (λ y. rw y (omega arith))
    (λ n. by-test (digit c) (λ y. rw (n, y) (omega arith)) (λ m. rw (n, m) (start-size (c ∷ x))))

drop-one : (s : List ℕ) → length (drop 1 s) ≤ length s
drop-one [] = omega arith
drop-one (b ∷ s) = omega arith

past_first : (c : ℕ) (s : List ℕ) → eqb c less ≡ false → past_run not_less (c ∷ s) ≡ past_run not_less s
unfolding past_run
past_first c s n = rw n

-- by the text's length: each token takes a byte at least
abbrev Bounded : List ℕ → Type 0
Bounded s = (sizes (cue_tokens s) ≤ length s) × (length (cue_tokens s) ≤ length s)

bound-none : Bounded []
unfolding sizes cue_tokens cue_tokens_from visit_end is_empty
bound-none = (omega arith, omega arith)

bound_tag : (s : List ℕ) → Bounded (drop 1 (past_run not_greater s)) → Bounded (less ∷ s)
unfolding sizes
bound_tag s more =
    let short = drop-one (past_run not_greater s) in
    let parts = run-parts not_greater s in
    let tag = tag_size (run not_greater s) in
    rw (tag_token s) (omega arith, omega arith)

bound-string : (c : ℕ) (s : List ℕ) → eqb c less ≡ false → Bounded (past_run not_less s) → Bounded (c ∷ s)
unfolding sizes size
bound-string c s n more =
    let x = run not_less (c ∷ s) in
    let past : past_run not_less (c ∷ s) ≡ past_run not_less s = past_first c s n in
    let parts = run-parts not_less (c ∷ s) in
    let fewer = run-parts not_less s in
    let short = decoded-length x in
    let same = ap length past in
    rw (string_token_lem c s n, past) (omega arith, omega arith)

shorter : (n : ℕ) → ((s : List ℕ) → length s ≤ n → Bounded s) → (s : List ℕ) → length s ≤ suc n → Bounded s
shorter n more [] h = bound-none
shorter n more (c ∷ s) h =
    by-test (eqb c less)
    (λ y.
    let e = eqb-true c less y in
    let short = drop-one (past_run not_greater s) in
    let parts = run-parts not_greater s in
    rw e (bound_tag s (more (drop 1 (past_run not_greater s)) (omega arith))))
    (λ m. let parts = run-parts not_less s in bound-string c s m (more (past_run not_less s) (omega arith)))

bound_empty : (s : List ℕ) → length s ≤ 0 → Bounded s
bound_empty [] h = bound-none
bound_empty (c ∷ s) h = absurd (omega arith)

bound : (n : ℕ) (s : List ℕ) → length s ≤ n → Bounded s
bound zero = bound_empty
bound (suc n) = shorter n (bound n)

pub tokens-bound : (s : List ℕ) → length (cue_tokens s) ≤ length s
tokens-bound s = (bound (length s) s (omega arith)).1

sizes_bound : (s : List ℕ) → sizes (cue_tokens s) ≤ length s
sizes_bound s = (bound (length s) s (omega arith)).0

-- what nodes hold of their token
element-size :
    (parent : Option ℕ) (classes annotation : List ℕ) (o : Option NodeKind)
    → length (node_strings (element parent classes annotation o)) ≤ length classes + length annotation
unfolding element node_strings value_for
element-size parent classes annotation None = omega arith
element-size parent classes annotation (Some k) =
    by-test (is_kind (Some k) NodeKind.Voice || is_kind (Some k) NodeKind.Language)
    (λ y. rw y (omega (arith, length-append (classes ++ annotation) [], length-append classes annotation)))
    (λ n. rw n (omega (arith, length-append (classes ++ []) [], length-append classes [])))

stamped-size : (parent : Option ℕ) (o : Option Time) → length (node_strings (stamped parent o)) ≤ 0
unfolding stamped node_strings
stamped-size parent None = omega arith
stamped-size parent (Some t) = omega arith

made-size : (path : List Open) (t : Token) → length (node_strings (made path t)) ≤ size t
unfolding made size node_strings
made-size path (string_token value) = omega (arith, length-append value [])
made-size path (start_tag name classes annotation) = element-size _ (class_string classes) annotation (attached (kind_of path) name)
made-size path (end_tag name) = omega arith
made-size path (timestamp_tag value) = stamped-size _ (tag_time value)

nodes-size : (path : List Open) (index : ℕ) (ts : List Token) → length (node_strings (nodes_from path index ts)) ≤ sizes ts
unfolding nodes_from sizes node_strings
nodes-size path index [] = omega arith
nodes-size path index (t ∷ ts) =
    let ms = made path t in
    let rest = nodes_from (path_after path index t) (index + length ms) ts in
    let more = nodes-size (path_after path index t) (index + length ms) ts in
    rw (node_strings_append ms rest) (omega (arith, length-append (node_strings ms) (node_strings rest), made-size path t))

-- "the room used is never more than the cue text's length"
pub room_bound : (s : List ℕ) → length (node_strings (nodes s)) ≤ length s
unfolding nodes
room_bound s = omega (arith, nodes-size [] 0 (cue_tokens s), sizes_bound s)

-- the same of what is counted by kinds
length-size : (m : Gift) (t : Token) → made_length m t ≤ size t
unfolding made_length size token_classes token_value value_for
length-size (Ok None) t = omega arith
length-size (Err over) t = omega arith
length-size (Ok (Some m)) (string_token value) = omega arith
length-size (Ok (Some m)) (start_tag name classes annotation) = by-test (is_kind (Some m.kind) NodeKind.Voice || is_kind (Some m.kind) NodeKind.Language) (λ y. rw y (omega arith)) (λ n. rw n (omega arith))
length-size (Ok (Some m)) (end_tag name) = omega arith
length-size (Ok (Some m)) (timestamp_tag value) = omega arith

lengths-size : (ks : List NodeKind) (ts : List Token) → length_from ks ts ≤ sizes ts
unfolding length_from sizes
lengths-size ks [] = omega arith
lengths-size ks (t ∷ ts) = omega (arith, length-size (made_is (top_kind ks) t) t, lengths-size (kinds_after ks t) ts)

count-one : (m : Gift) → made_count m ≤ 1
unfolding made_count
count-one (Ok None) = omega arith
count-one (Err over) = omega arith
count-one (Ok (Some m)) = omega arith

counts-size : (ks : List NodeKind) (ts : List Token) → count_from ks ts ≤ length ts
unfolding count_from
counts-size ks [] = omega arith
counts-size ks (t ∷ ts) = omega (arith, count-one (made_is (top_kind ks) t), counts-size (kinds_after ks t) ts)

pub length-bound : (s : List ℕ) → length_from [] (cue_tokens s) ≤ length s
length-bound s = omega (arith, lengths-size [] (cue_tokens s), sizes_bound s)

pub count-bound : (s : List ℕ) → count_from [] (cue_tokens s) ≤ length s
count-bound s = omega (arith, counts-size [] (cue_tokens s), tokens-bound s)
