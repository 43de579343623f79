-- How many nodes tokens give and how long their strings are, told by the kinds of the open nodes alone.
use Rattle.std.specs.Prelude.{ℕ, ◌+◌, cond, ◌&&◌, List, [], ◌∷◌, ltb, length, drop}
use Rattle.std.specs.Prelude.{Option, None, Some, Ok, Err}
use Rattle.format.specs.CueText.{Token}
use Rattle.format.specs.Trees.{Open, kind_word, is_kind}
use Rattle.format.specs.declared.kinds.NodeKind.{NodeKind}
use Rattle.nodes.specs.Tokens.{Gift, made_is, token_classes, token_value, left_kind}

-- the kinds of the open nodes, current first
unfoldable pub kinds_of : List Open → List NodeKind
kinds_of [] = []
kinds_of (o ∷ path) = o.kind ∷ kinds_of path

unfoldable pub top_kind : List NodeKind → Option NodeKind
top_kind [] = None
top_kind (k ∷ ks) = Some k

-- the kinds that stay open after an end tag that names this kind
unfoldable pub leaving_kinds : Option NodeKind → List NodeKind → List NodeKind
leaving_kinds named [] = []
leaving_kinds named (k ∷ ks) =
    cond (is_kind named k) ks (cond (is_kind named NodeKind.Ruby && is_kind (Some k) NodeKind.RubyText) (drop 1 ks) (k ∷ ks))

-- the kinds that are open after a token that gives this; the kinds whose word is below 8 have children
unfoldable pub after_made : Gift → Option NodeKind → List NodeKind → List NodeKind
after_made (Ok None) left ks = leaving_kinds left ks
after_made (Ok (Some m)) left ks = cond (ltb (kind_word m.kind) 8) (m.kind ∷ ks) ks
after_made (Err over) left ks = ks

unfoldable pub kinds_after : List NodeKind → Token → List NodeKind
kinds_after ks t = after_made (made_is (top_kind ks) t) (left_kind t) ks

unfoldable pub made_count : Gift → ℕ
made_count (Ok None) = 0
made_count (Ok (Some m)) = 1
made_count (Err over) = 0

unfoldable pub made_length : Gift → Token → ℕ
made_length (Ok None) t = 0
made_length (Ok (Some m)) t = length (token_classes t) + length (token_value m.kind t)
made_length (Err over) t = 0

unfoldable pub count_from : List NodeKind → List Token → ℕ
count_from ks [] = 0
count_from ks (t ∷ ts) = made_count (made_is (top_kind ks) t) + count_from (kinds_after ks t) ts

unfoldable pub length_from : List NodeKind → List Token → ℕ
length_from ks [] = 0
length_from ks (t ∷ ts) = made_length (made_is (top_kind ks) t) t + length_from (kinds_after ks t) ts
