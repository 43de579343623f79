-- What one token does to the open nodes and the sums of the first pass over a cue text.
use Rattle.std.specs.Prelude.{ℕ, ◌+◌, ◌*◌, ◌≤◌, ◌<◌, ◌≡◌, true, false, List, map, length}
use Rattle.std.specs.Prelude.{Result, Ok, Err}
use Rattle.format.specs.Limits.{max_text}
use Rattle.format.specs.Trees.{kind_numbered, token_over}
use Rattle.format.specs.declared.kinds.NodeKind.{NodeKind}
use Rattle.format.specs.declared.errors.OverLimit.{OverLimit}
use Rattle.tokenizer.specs.Tags.{token_is, PartsIn}
use Rattle.tokenizer.specs.declared.Token.{Token}
use Rattle.nodes.specs.Tokens.{Gift, made_is}
use Rattle.stack.specs.Kinds.{kinds}
use Rattle.stack.specs.declared.inner.kinds.Stack.{Stack}
use Rattle.node_laws.specs.Sizes.{top_kind, kinds_after, made_count, made_length}
use Rattle.node_sizes.specs.declared.inner.measuring.Measured.{Measured}

-- the kinds of the open nodes, whose words are on the stack
abbrev pub opened : Stack → List NodeKind
opened s = map kind_numbered (kinds s)

-- what a token gives below the open nodes
abbrev pub made_below : List ℕ → Token → Measured → Gift
made_below s t m = made_is (top_kind (opened m.stack)) (token_is s t)

-- the words have room for one node more, and no sum gets too large
pub record Ready (s : List ℕ) (t : Token) (m : Measured) : Type 0 where
  pub parts : PartsIn s 0 (length s) t
  pub short : length s ≤ max_text
  pub room : length (kinds m.stack) < 21 * length m.stack.words.now
  pub count : m.count ≤ max_text
  pub used : m.used + made_length (made_below s t m) (token_is s t) ≤ max_text

-- the token was passed
pub record Passed (s : List ℕ) (t : Token) (m r : Measured) : Type 0 where
  pub within : token_over (token_is s t) ≡ false
  pub path : opened r.stack ≡ kinds_after (opened m.stack) (token_is s t)
  pub long : length r.stack.words.now ≡ length m.stack.words.now
  pub count : r.count ≡ m.count + made_count (made_below s t m)
  pub used : r.used ≡ m.used + made_length (made_below s t m) (token_is s t)

-- the token was passed, or its time is above its limit
abbrev pub TurnIs : List ℕ → Token → Measured → Result Unit OverLimit → Measured → Type 0
TurnIs s t m (Ok done) r = Passed s t m r
TurnIs s t m (Err over) r = token_over (token_is s t) ≡ true
