-- What the first pass over a cue text knows at a place: the sums so far with those of what is left are those of the text, and the open nodes
-- are at most a third as many as the bytes passed.
use Prim.Native.Nat.{ℕ, ◌+◌, ◌*◌, ◌-◌, ◌≤◌, ◌<◌}
use mathlib.Core.Path.{◌≡◌, refl, sym, ap, ◌∙◌}
use mathlib.Core.Bool.{true, false, ◌&&◌, ◌||◌}
use mathlib.Core.List.{List, [], ◌∷◌, map}
use Rattle.std.specs.Prelude.{Option, None, Some, Ok, Err}
use native.Mathlib.Omega.{arith}
use lib.Dec.{ltb}
use lib.ListN.{length, drop, length-drop, length-map, drop_of_length-le}
use borrow.Author.Tests.{ltb-true, ltb-false}
use Rattle.format.specs.Limits.{max_text}
use Rattle.format.specs.Times.{Time, over_hours}
use Rattle.format.specs.CueText.{cue_tokens_from, cue_tokens, visit_end}
use Rattle.format.specs.Texts.{is_empty, same, bytes_at}
use Rattle.format.specs.Trees.{kind_word, kind_numbered, kind_named, is_kind, attached, tag_time, token_over, any_time_over, nodes}
use Rattle.format.specs.declared.kinds.NodeKind.{NodeKind}
use Rattle.format.specs.declared.errors.OverLimit.{OverLimit}
use Rattle.laws.proofs.Tests.{by-test}
use Rattle.tokenizer.specs.Tags.{span_bytes, token_is, PartsIn, Marked, TokenAt}
use Rattle.tokenizer.specs.declared.Token.{Token}
use Rattle.tokenizer.proofs.Spans.{wider}
use Rattle.format.specs.declared.settings.Span.{Span}
use Rattle.nodes.specs.Tokens.{Gift, element_made, stamp_made, made_is, left_kind}
use Rattle.nodes.specs.declared.inner.tokens.Made.{Made}
use Rattle.stack.specs.Kinds.{kinds}
use Rattle.node_laws.specs.Sizes.{kinds_of, top_kind, leaving_kinds, after_made, kinds_after, made_count, made_length, count_from, length_from}
use Rattle.node_sizes.specs.Needs.{Sized}
use Rattle.node_sizes.specs.Turns.{opened, made_below, Ready, Passed}
use Rattle.node_sizes.specs.declared.inner.measuring.Measured.{Measured}
use Rattle.node_laws.proofs.TreeLaws.{counted}
use Rattle.node_laws.proofs.RoomLaws.{length-bound, count-bound}

-- a token gives nothing, a time above its limit, or a node: never two of them
none_node : {P : Type 0} {m : Made} → ◌≡◌ {A = Gift} (Ok None) (Ok (Some m)) → P
none_node {m = m} e = let z : ◌≡◌ {A = ℕ} 0 1 = cc in absurd (omega arith)

over_node : {P : Type 0} {over : OverLimit} {m : Made} → ◌≡◌ {A = Gift} (Err over) (Ok (Some m)) → P
over_node {over = over} {m = m} e = let z : ◌≡◌ {A = ℕ} 0 1 = cc in absurd (omega arith)

node_kind : {a m : Made} → ◌≡◌ {A = Gift} (Ok (Some a)) (Ok (Some m)) → kind_word a.kind ≡ kind_word m.kind
node_kind {a} {m} e = let same : a ≡ m = cc in ap (λ k. kind_word k.kind) same

-- only a start tag with a name opens a node with children
stamp_leaf : {P : Type 0} (o : Option Time) (m : Made) → stamp_made o ≡ Ok (Some m) → kind_word m.kind < 8 → P
unfolding stamp_made
stamp_leaf None m e h = none_node e
stamp_leaf (Some t) m e h =
    by-test (over_hours t)
    (λ y. over_node (rw y at e))
    (λ n. let k = node_kind (rw n at e) in absurd (omega arith))

nameless : (current : Option NodeKind) → element_made (attached current []) ≡ None
unfolding element_made attached kind_named is_kind same
nameless current = refl

no_bytes : (s : List ℕ) (from to : ℕ) → to ≤ from → bytes_at s from to ≡ []
unfolding bytes_at
no_bytes s from to h = let e : to - from ≡ 0 = omega arith in rw e refl

named :
    (s : List ℕ) (current : Option NodeKind) (name : Span) (m : Made)
    → ◌≡◌ {A = Gift} (Ok (element_made (attached current (span_bytes s name)))) (Ok (Some m))
    → name.from < name.to
named s current name m e =
    by-test (ltb name.from name.to)
    (λ y. ltb-true name.from name.to y)
    (λ n.
    let none = no_bytes s name.from name.to (ltb-false name.from name.to n) in
    none_node (ap Ok (sym (nameless current) ∙ ap (λ b. element_made (attached current b)) (sym none)) ∙ e))

-- so `<`, a name and, where the text goes on, `>` stand between the two places
opens :
    (s : List ℕ) (at next : ℕ) (t : Token) (current : Option NodeKind) (m : Made)
    → PartsIn s at next t
    → Marked s at next t
    → made_is current (token_is s t) ≡ Ok (Some m)
    → kind_word m.kind < 8
    → next < length s
    → at + 3 ≤ next
unfolding made_is token_is
opens s at next (Token.String p) current m parts marked e h l = let k = node_kind e in absurd (omega arith)
opens s at next (Token.Start name classes annotation) current m parts marked e h l =
    omega (
      arith,
      named s current name m e,
      marked.0,
      marked.1 l,
      parts.between,
      parts.classed,
      parts.beyond,
      parts.annotated,
    )
opens s at next (Token.End p) current m parts marked e h l = none_node e
opens s at next (Token.Timestamp p) current m parts marked e h l = stamp_leaf (tag_time (span_bytes s p)) m e h

left-length : (named : Option NodeKind) (ks : List NodeKind) → length (leaving_kinds named ks) ≤ length ks
unfolding leaving_kinds
left-length named [] = omega arith
left-length named (k ∷ ks) =
    by-test (is_kind named k)
    (λ y. rw y (omega arith))
    (λ n. by-test (is_kind named NodeKind.Ruby && is_kind (Some k) NodeKind.RubyText) (λ y. rw (n, y) (omega (arith, length-drop 1 ks))) (λ m. rw (n, m) (omega arith)))

module _ (s : List ℕ) (at : ℕ) (t : Token) (next : ℕ) (f : TokenAt s at t next) (ks : List NodeKind) (h : 3 * length ks ≤ at) (l : next < length s) where
  depth_made : (left : Option NodeKind) (m : Gift) → made_is (top_kind ks) (token_is s t) ≡ m → 3 * length (after_made m left ks) ≤ next
  unfolding after_made
  depth_made left (Ok None) e = omega (arith, f.moves, left-length left ks)
  depth_made left (Err over) e = omega (arith, f.moves)
  depth_made left (Ok (Some m)) e =
      by-test (ltb (kind_word m.kind) 8)
      (λ y. rw y (omega (arith, opens s at next t (top_kind ks) m f.parts f.marked e (ltb-true (kind_word m.kind) 8 y) l)))
      (λ n. rw n (omega (arith, f.moves)))

  depth : 3 * length (kinds_after ks (token_is s t)) ≤ next
  unfolding kinds_after
  depth = depth_made (left_kind (token_is s t)) (made_is (top_kind ks) (token_is s t)) refl

-- what is known at a place of the text; there are so many lent words
pub record Reached (s : List ℕ) (lent at : ℕ) (m : Measured) : Type 0 where
  pub inside : at ≤ length s
  pub long : length m.stack.words.now ≡ lent
  pub count : m.count + count_from (opened m.stack) (cue_tokens (drop at s)) ≡ count_from [] (cue_tokens s)
  pub used : m.used + length_from (opened m.stack) (cue_tokens (drop at s)) ≡ length_from [] (cue_tokens s)
  pub over : any_time_over (cue_tokens (drop at s)) ≡ any_time_over (cue_tokens s)
  pub deep : at < length s → 3 * length (opened m.stack) ≤ at

pub reached_start :
    (s : List ℕ) (lent : ℕ) (m : Measured)
    → kinds m.stack ≡ []
    → length m.stack.words.now ≡ lent
    → m.count ≡ 0
    → m.used ≡ 0
    → Reached s lent 0 m
reached_start s lent m e l c u =
    let none : opened m.stack ≡ [] = ap (map kind_numbered) e in
    record {
      inside = omega arith;
      long = l;
      count = rw none (omega arith);
      used = rw none (omega arith);
      over = refl;
      deep = λ h. rw none (omega arith);
    }

module _ (s : List ℕ) (lent at : ℕ) (m : Measured) (reached : Reached s lent at m) where
  abbrev ks : List NodeKind
  ks = opened m.stack

  rest : length s ≤ at → cue_tokens (drop at s) ≡ []
  unfolding cue_tokens cue_tokens_from visit_end is_empty
  rest h = rw (drop_of_length-le s h) refl

  -- no token is left
  pub reached_end : length s ≤ at → Sized s (record { count = m.count; used = m.used })
  unfolding count_from length_from any_time_over nodes kinds_of
  reached_end h =
      let none = rest h in
      let within : any_time_over (cue_tokens s) ≡ false = sym reached.over ∙ ap any_time_over none in
      let sums = counted [] 0 (cue_tokens s) within in
      record {
        within = within;
        counted = omega (arith, reached.count, ap (count_from ks) none, sums.0);
        measured = omega (arith, reached.used, ap (length_from ks) none, sums.1);
      }

  module _ (t : Token) (next : ℕ) (f : TokenAt s at t next) where
    count-first :
        count_from ks (cue_tokens (drop at s)) ≡ made_count (made_below s t m) + count_from (kinds_after ks (token_is s t)) (cue_tokens (drop next s))
    unfolding count_from
    count-first = ap (count_from ks) f.first

    length-first :
        length_from ks (cue_tokens (drop at s))
        ≡ made_length (made_below s t m) (token_is s t) + length_from (kinds_after ks (token_is s t)) (cue_tokens (drop next s))
    unfolding length_from
    length-first = ap (length_from ks) f.first

    over_first : (token_over (token_is s t) || any_time_over (cue_tokens (drop next s))) ≡ any_time_over (cue_tokens s)
    unfolding any_time_over
    over_first = ap any_time_over (sym f.first) ∙ reached.over

    pub reached_over : token_over (token_is s t) ≡ true → any_time_over (cue_tokens s) ≡ true
    reached_over y = sym (rw y at over_first)

    pub ready : length s ≤ max_text → length s ≤ 63 * lent → Ready s t m
    ready short room =
        let far : at < length s = omega (arith, f.moves, f.inside) in
        record {
          parts = wider s t 0 at next (length s) (omega arith) f.inside (omega arith) f.parts;
          short = short;
          room = omega (arith, reached.deep far, reached.long, length-map (kinds m.stack) kind_numbered);
          count = omega (arith, reached.count, count-bound s);
          used = omega (arith, reached.used, length-first, length-bound s);
        }

    pub reached_next : (r : Measured) → Passed s t m r → Reached s lent next r
    reached_next r p =
        let tokens = cue_tokens (drop next s) in
        record {
          inside = f.inside;
          long = p.long ∙ reached.long;
          count = omega (arith, p.count, reached.count, count-first, ap (λ k. count_from k tokens) p.path);
          used = omega (arith, p.used, reached.used, length-first, ap (λ k. length_from k tokens) p.path);
          over = rw p.within at over_first;
          deep = λ l. rw p.path (depth s at t next f ks (reached.deep (omega (arith, f.moves))) l);
        }
