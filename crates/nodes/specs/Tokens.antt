-- What a token gives, as the code holds it: a node or none, its strings, and which node it leaves.
use Rattle.std.specs.Prelude.{ℕ, cond, not, ◌&&◌, List, []}
use Rattle.std.specs.Prelude.{Option, None, Some, Result, Ok, Err}
use Rattle.format.specs.Times.{Time, milliseconds, over_hours}
use Rattle.format.specs.CueText.{Token, string_token, start_tag, end_tag, timestamp_tag}
use Rattle.format.specs.Trees.{kind_named, is_kind, attached, class_string, tag_time, value_for}
use Rattle.format.specs.declared.kinds.NodeKind.{NodeKind}
use Rattle.format.specs.declared.errors.OverLimit.{OverLimit}
use Rattle.nodes.specs.declared.inner.tokens.Made.{Made}

-- what a token gives: a node, nothing, or a timestamp above its limit
abbrev pub Gift : Type 0
Gift = Result (Option Made) OverLimit

abbrev pub node : NodeKind → ℕ → Gift
node kind time = Ok (Some (record { kind = kind; time = time }))

-- the kind that a tag that names this kind attaches to a current node of this kind: `attached`, of the named kind
unfoldable pub attached_kind : Option NodeKind → Option NodeKind → Option NodeKind
attached_kind current named = cond (is_kind named NodeKind.RubyText && not (is_kind current NodeKind.Ruby)) None named

unfoldable pub element_made : Option NodeKind → Option Made
element_made None = None
element_made (Some k) = Some (record { kind = k; time = 0 })

unfoldable pub stamp_made : Option Time → Gift
stamp_made None = Ok None
stamp_made (Some t) = cond (over_hours t) (Err (record {})) (node NodeKind.Timestamp (milliseconds t))

unfoldable pub made_is : Option NodeKind → Token → Gift
made_is current (string_token value) = node NodeKind.String 0
made_is current (start_tag name classes annotation) = Ok (element_made (attached current name))
made_is current (end_tag name) = Ok None
made_is current (timestamp_tag value) = stamp_made (tag_time value)

-- the strings of the node, which is of this kind
unfoldable pub token_classes : Token → List ℕ
token_classes (string_token value) = []
token_classes (start_tag name classes annotation) = class_string classes
token_classes (end_tag name) = []
token_classes (timestamp_tag value) = []

unfoldable pub token_value : NodeKind → Token → List ℕ
token_value kind (string_token value) = value
token_value kind (start_tag name classes annotation) = value_for kind annotation
token_value kind (end_tag name) = []
token_value kind (timestamp_tag value) = []

-- the kind that an end tag names; any other token names none
unfoldable pub left_kind : Token → Option NodeKind
left_kind (string_token value) = None
left_kind (start_tag name classes annotation) = None
left_kind (end_tag name) = kind_named name
left_kind (timestamp_tag value) = None
