-- What a token does to the open nodes and the sums, by what it gives.
use Prim.Native.Nat.{ℕ, ◌+◌}
use mathlib.Core.Path.{◌≡◌, refl, ap, ◌∙◌}
use mathlib.Core.Bool.{Bool, true, false, cond, ◌&&◌}
use mathlib.Core.List.{List, [], ◌∷◌, map}
use Rattle.std.specs.Prelude.{Option, None, Some, Ok, Err}
use native.Mathlib.Omega.{arith}
use lib.Dec.{ltb}
use lib.ListN.{length, drop}
use Rattle.format.specs.Times.{Time, over_hours}
use Rattle.format.specs.CueText.{string_token, start_tag, end_tag, timestamp_tag}
use Rattle.format.specs.CueText as CueText
use Rattle.format.specs.Trees.{kind_word, kind_numbered, is_kind, time_over, token_over, tag_time}
use Rattle.format.specs.declared.kinds.NodeKind.{NodeKind}
use Rattle.format.specs.declared.errors.OverLimit.{OverLimit}
use Rattle.laws.proofs.Tests.{by-test}
use Rattle.tokenizer.specs.Tags.{token_is}
use Rattle.tokenizer.specs.declared.Token.{Token}
use Rattle.nodes.specs.declared.inner.tokens.Made.{Made}
use Rattle.nodes.specs.Tokens.{Gift, stamp_made, made_is, token_classes, token_value, left_kind}
use Rattle.stack.specs.Kinds.{top_of}
use Rattle.node_laws.specs.Sizes.{top_kind, leaving_kinds, after_made, kinds_after, made_count, made_length}
use Rattle.node_sizes.specs.Turns.{opened, made_below, Passed}
use Rattle.node_sizes.specs.declared.inner.measuring.Measured.{Measured}

-- what an end tag leaves, by the top kind
module _ (named : Option NodeKind) where
  pub leaves_none : (ks : List NodeKind) → top_kind ks ≡ None → leaving_kinds named ks ≡ ks
  unfolding leaving_kinds top_kind
  leaves_none [] e = refl
  leaves_none (k ∷ ks) e = let z : ◌≡◌ {A = ℕ} 0 1 = cc in absurd (omega arith)

  pub leaves_top :
      (ks : List NodeKind) (k : NodeKind)
      → top_kind ks ≡ Some k
      → leaving_kinds named ks
      ≡ cond (is_kind named k) (drop 1 ks) (cond (is_kind named NodeKind.Ruby && is_kind (Some k) NodeKind.RubyText) (drop 1 (drop 1 ks)) ks)
  unfolding leaving_kinds top_kind
  leaves_top [] k e = let z : ◌≡◌ {A = ℕ} 0 1 = cc in absurd (omega arith)
  leaves_top (j ∷ ks) k e = let f : j ≡ k = cc in rw f refl

-- the kind of the top word, and of no word
pub top_opened : (ws : List ℕ) (w : ℕ) → top_of ws ≡ Some w → top_kind (map kind_numbered ws) ≡ Some (kind_numbered w)
unfolding top_of top_kind
top_opened [] w e = let z : ◌≡◌ {A = ℕ} 0 1 = cc in absurd (omega arith)
top_opened (v ∷ ws) w e = let same : v ≡ w = cc in rw same

pub top_none : (ws : List ℕ) → top_of ws ≡ None → top_kind (map kind_numbered ws) ≡ None
unfolding top_of top_kind
top_none [] e = refl
top_none (v ∷ ws) e = let z : ◌≡◌ {A = ℕ} 0 1 = cc in absurd (omega arith)

pub map-drop : (ws : List ℕ) → map kind_numbered (drop 1 ws) ≡ drop 1 (map kind_numbered ws)
map-drop [] = refl
map-drop (w ∷ ws) = refl

-- a time above its limit, told by what its token gives
unfoldable is_over : Gift → Bool
is_over (Ok m) = false
is_over (Err over) = true

stamp_over : (o : Option Time) → time_over o ≡ is_over (stamp_made o)
unfolding is_over stamp_made time_over
stamp_over None = refl
stamp_over (Some t) = by-test (over_hours t) (λ y. rw y refl) (λ n. rw n refl)

over-is : (current : Option NodeKind) (t : CueText.Token) → token_over t ≡ is_over (made_is current t)
unfolding is_over token_over made_is
over-is current (string_token value) = refl
over-is current (start_tag name classes annotation) = refl
over-is current (end_tag name) = refl
over-is current (timestamp_tag value) = stamp_over (tag_time value)

module _ (s : List ℕ) (t : Token) (m : Measured) where
  over-made : {made : Gift} → made_below s t m ≡ made → token_over (token_is s t) ≡ is_over made
  over-made e = over-is (top_kind (opened m.stack)) (token_is s t) ∙ ap is_over e

  pub is_over_lem : {over : OverLimit} → made_below s t m ≡ Err over → token_over (token_is s t) ≡ true
  unfolding is_over
  is_over_lem e = over-made e

  module _ (r : Measured) (long : length r.stack.words.now ≡ length m.stack.words.now) where
    pub passed_none :
        made_below s t m ≡ Ok None
        → opened r.stack ≡ leaving_kinds (left_kind (token_is s t)) (opened m.stack)
        → r.count ≡ m.count
        → r.used ≡ m.used
        → Passed s t m r
    unfolding is_over kinds_after after_made made_count made_length
    passed_none e l c u =
        record {
          within = over-made e;
          path = rw e l;
          long = long;
          count = rw e (omega arith);
          used = rw e (omega arith);
        }

    pub passed_node :
        (made : Made)
        → made_below s t m ≡ Ok (Some made)
        → opened r.stack ≡ cond (ltb (kind_word made.kind) 8) (made.kind ∷ opened m.stack) (opened m.stack)
        → r.count ≡ m.count + 1
        → r.used ≡ m.used + length (token_classes (token_is s t)) + length (token_value made.kind (token_is s t))
        → Passed s t m r
    unfolding is_over kinds_after after_made made_count made_length
    passed_node made e n c u =
        record {
          within = over-made e;
          path = rw e n;
          long = long;
          count = rw e c;
          used = rw e (omega arith);
        }

  -- the strings of the node
  pub node_length :
      (made : Made)
      → made_below s t m ≡ Ok (Some made)
      → made_length (made_below s t m) (token_is s t) ≡ length (token_classes (token_is s t)) + length (token_value made.kind (token_is s t))
  unfolding made_length
  node_length made e = rw e refl
