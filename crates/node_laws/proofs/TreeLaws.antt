-- What a token gives, as the definitions have it and as the code holds it: the same nodes, the same strings, the same open nodes.
use Prim.Native.Nat.{ℕ, ◌+◌, ◌<◌}
use mathlib.Core.Path.{◌≡◌, refl, sym, ap, ◌∙◌}
use mathlib.Core.Bool.{Bool, true, false, cond, not, ◌&&◌, false≢true}
use mathlib.Core.List.{List, [], ◌∷◌, ◌++◌, append-nil, append_assoc}
use Rattle.std.specs.Prelude.{Option, None, Some, Ok, Err}
use native.Mathlib.Omega.{arith}
use lib.Dec.{ltb}
use lib.ListN.{length, drop, length-append}
use borrow.Author.Tests.{lt-ltb}
use Rattle.format.specs.Bytes.{ascii}
use Rattle.format.specs.Texts.{same}
use Rattle.format.specs.Times.{Time, milliseconds, over_hours}
use Rattle.format.specs.CueText.{Token, string_token, start_tag, end_tag, timestamp_tag}
use Rattle.format.specs.Trees.{Node, kind_word, kind_named, is_kind, Open, parent_of, kind_of, attached, leaving, tag_time, value_for, element, stamped, made, entering, path_after, nodes_from, time_over, token_over, any_time_over, node_strings}
use Rattle.format.specs.declared.kinds.NodeKind.{NodeKind}
use Rattle.format.specs.declared.errors.OverLimit.{OverLimit}
use Rattle.laws.proofs.Tests.{by-test, or_first, or_second}
use Rattle.nodes.specs.Tokens.{Gift, node, element_made, stamp_made, made_is, token_classes, token_value, left_kind}
use Rattle.node_laws.specs.Sizes.{kinds_of, top_kind, leaving_kinds, after_made, kinds_after, made_count, made_length, count_from, length_from}

-- a kind that a tag names has children
data Element : Option NodeKind → Type 0 where
  nothing : Element None
  one : {k : NodeKind} → kind_word k < 8 → Element (Some k)

either : (t : Bool) (a b : Option NodeKind) → Element a → Element b → Element (cond t a b)
either true a b p q = p
either false a b p q = q

named-element : (name : List ℕ) → Element (kind_named name)
unfolding kind_named
named-element name =
    either (same name (ascii "c")) _ _ (one (omega arith))
    (either (same name (ascii "i")) _ _ (one (omega arith))
    (either (same name (ascii "b")) _ _ (one (omega arith))
    (either (same name (ascii "u")) _ _ (one (omega arith))
    (either (same name (ascii "ruby")) _ _ (one (omega arith))
    (either (same name (ascii "rt")) _ _ (one (omega arith))
    (either (same name (ascii "v")) _ _ (one (omega arith)) (either (same name (ascii "lang")) _ _ (one (omega arith)) nothing)))))))

attached-element : (o : Option NodeKind) (name : List ℕ) → Element (attached o name)
unfolding attached
attached-element o name = either (is_kind (kind_named name) NodeKind.RubyText && not (is_kind o NodeKind.Ruby)) None (kind_named name) nothing (named-element name)

pub top_kind_lem : (path : List Open) → top_kind (kinds_of path) ≡ kind_of path
unfolding top_kind kinds_of kind_of
top_kind_lem [] = refl
top_kind_lem (o ∷ path) = refl

drop-kinds : (path : List Open) → kinds_of (drop 1 path) ≡ drop 1 (kinds_of path)
unfolding kinds_of
drop-kinds [] = refl
drop-kinds (o ∷ path) = refl

-- what goes on to hold where the current node is left holds of the nodes that an end tag leaves open
module _ (P : List Open → Type 0) (left : (path : List Open) → P path → P (drop 1 path)) where
  keeps_either : (t : Bool) (a b : List Open) → P a → P b → P (cond t a b)
  keeps_either true a b p q = p
  keeps_either false a b p q = q

  pub leaving_keeps : (o : Option NodeKind) (path : List Open) → P path → P (leaving o path)
  unfolding leaving
  leaving_keeps o [] p = p
  leaving_keeps o (q ∷ path) p =
      let rest = left (q ∷ path) p in
      keeps_either (is_kind o q.kind) path _ rest
      (keeps_either (is_kind o NodeKind.Ruby && is_kind (Some q.kind) NodeKind.RubyText) (drop 1 path) (q ∷ path) (left path rest) p)

-- an end tag leaves open nodes by their kinds alone
pub leaving_kinds_lem : (o : Option NodeKind) (path : List Open) → kinds_of (leaving o path) ≡ leaving_kinds o (kinds_of path)
unfolding leaving leaving_kinds kinds_of
leaving_kinds_lem o [] = refl
leaving_kinds_lem o (p ∷ path) =
    by-test (is_kind o p.kind)
    (λ y. rw y)
    (λ n.
    by-test (is_kind o NodeKind.Ruby && is_kind (Some p.kind) NodeKind.RubyText) (λ y. rw (n, y) (drop-kinds path)) (λ m. rw (n, m) refl))

leaving-none : (path : List Open) → leaving None path ≡ path
unfolding leaving is_kind
leaving-none [] = refl
leaving-none (o ∷ path) = refl

-- what a token gives below these open nodes, its node having this index
pub data Gives (path : List Open) (index : ℕ) (t : Token) : Gift → Type 0 where
  ignored : made path t ≡ [] → token_over t ≡ false → path_after path index t ≡ leaving (left_kind t) path → Gives path index t (Ok None)
  above : {over : OverLimit} → token_over t ≡ true → Gives path index t (Err over)
  attaches :
      {k : NodeKind} {time : ℕ}
      → made path t
      ≡ record { parent = parent_of path; kind = k; classes = token_classes t; value = token_value k t; time = time } ∷ []
      → token_over t ≡ false
      → path_after path index t ≡ cond (ltb (kind_word k) 8) (record { index = index; kind = k } ∷ path) path
      → Gives path index t (node k time)

element-gives :
    (path : List Open) (index : ℕ) (name : List ℕ) (classes : List (List ℕ)) (annotation : List ℕ) {o : Option NodeKind}
    → o ≡ attached (kind_of path) name
    → Element o
    → Gives path index (start_tag name classes annotation) (Ok (element_made o))
unfolding element_made made element entering path_after token_over left_kind token_classes token_value value_for is_kind
element-gives path index name classes annotation e nothing = ignored (rw (sym e) refl) refl (rw (sym e, leaving-none path) refl)
element-gives path index name classes annotation e (one {k} h) =
    attaches {k = k} {time = 0} (rw (sym e) refl) refl (rw (sym e, lt-ltb (kind_word k) 8 h) refl)

stamp_gives : (path : List Open) (index : ℕ) (value : List ℕ) (o : Option Time) → o ≡ tag_time value → Gives path index (timestamp_tag value) (stamp_made o)
unfolding stamp_made made stamped path_after token_over time_over left_kind token_classes token_value
stamp_gives path index value None e = ignored (rw (sym e) refl) (rw (sym e) refl) (sym (leaving-none path))
stamp_gives path index value (Some t) e =
    by-test (over_hours t)
    (λ y. rw y (above (rw (sym e) y)))
    (λ n. rw n (attaches {k = NodeKind.Timestamp} {time = milliseconds t} (rw (sym e) refl) (rw (sym e) n) refl))

pub gives : (path : List Open) (index : ℕ) (t : Token) → Gives path index t (made_is (kind_of path) t)
unfolding made_is made path_after token_over left_kind token_classes token_value
gives path index (string_token value) = attaches {k = NodeKind.String} {time = 0} refl refl refl
gives path index (start_tag name classes annotation) =
    element-gives path index name classes annotation refl (attached-element (kind_of path) name)
gives path index (end_tag name) = ignored refl refl refl
gives path index (timestamp_tag value) = stamp_gives path index value (tag_time value) refl

pub node_strings_append : (xs ys : List Node) → node_strings (xs ++ ys) ≡ node_strings xs ++ node_strings ys
unfolding node_strings
node_strings_append [] ys = refl
node_strings_append (n ∷ xs) ys =
    rw (node_strings_append xs ys, append_assoc (n.classes ++ n.value) (node_strings xs) (node_strings ys))

-- the same in counts, lengths and kinds
pub record Turn (path : List Open) (index : ℕ) (t : Token) (m : Gift) : Type 0 where
  pub count : length (made path t) ≡ made_count m
  pub used : length (node_strings (made path t)) ≡ made_length m t
  pub kinds : kinds_of (path_after path index t) ≡ after_made m (left_kind t) (kinds_of path)

given : (path : List Open) (index : ℕ) (t : Token) {m : Gift} → token_over t ≡ false → Gives path index t m → Turn path index t m
unfolding made_count made_length after_made node_strings kinds_of
given path index t f (ignored e o b) =
    record {
      count = rw e refl;
      used = rw e refl;
      kinds = rw b (leaving_kinds_lem (left_kind t) path);
    }
given path index t f (above y) = absurd (false≢true (sym f ∙ y))
given path index t f (attaches {k = k} {time = time} e o b) =
    record {
      count = rw e refl;
      used = rw (e, append-nil (token_classes t ++ token_value k t)) (length-append (token_classes t) (token_value k t));
      kinds = rw b (by-test (ltb (kind_word k) 8) (λ y. rw y refl) (λ n. rw n refl));
    }

pub turns : (path : List Open) (index : ℕ) (t : Token) → token_over t ≡ false → Turn path index t (made_is (top_kind (kinds_of path)) t)
turns path index t f = rw (top_kind_lem path) (given path index t f (gives path index t))

-- how many nodes tokens give, and how long their strings are
pub counted :
    (path : List Open) (index : ℕ) (ts : List Token)
    → any_time_over ts ≡ false
    → (length (nodes_from path index ts) ≡ count_from (kinds_of path) ts)
    × (length (node_strings (nodes_from path index ts)) ≡ length_from (kinds_of path) ts)
unfolding nodes_from count_from length_from any_time_over node_strings kinds_after
counted path index [] f = (refl, refl)
counted path index (t ∷ ts) f =
    let turn = turns path index t (or_first (token_over t) (any_time_over ts) f) in
    let ms = made path t in
    let rest = nodes_from (path_after path index t) (index + length ms) ts in
    let more = counted (path_after path index t) (index + length ms) ts (or_second (token_over t) (any_time_over ts) f) in
    let count : length rest ≡ count_from (kinds_after (kinds_of path) t) ts = more.0 ∙ ap (λ ks. count_from ks ts) turn.kinds in
    let used : length (node_strings rest) ≡ length_from (kinds_after (kinds_of path) t) ts =
    more.1 ∙ ap (λ ks. length_from ks ts) turn.kinds in (
      omega (arith, length-append ms rest, turn.count),
      ap length (node_strings_append ms rest) ∙ omega (arith, length-append (node_strings ms) (node_strings rest), turn.used),
    )
