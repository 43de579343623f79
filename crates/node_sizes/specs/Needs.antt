-- What the first pass over a cue text tells: a time above its limit, or the counts of nodes and of their strings' bytes.
use Rattle.std.specs.Prelude.{ℕ, ◌≡◌, true, false, List, length, Result, Ok, Err}
use Rattle.format.specs.CueText.{cue_tokens}
use Rattle.format.specs.Trees.{nodes, node_strings, any_time_over}
use Rattle.format.specs.declared.TreeSize.{TreeSize}
use Rattle.format.specs.declared.errors.OverLimit.{OverLimit}

pub record Sized (s : List ℕ) (n : TreeSize) : Type 0 where
  pub within : any_time_over (cue_tokens s) ≡ false
  pub counted : n.count ≡ length (nodes s)
  pub measured : n.used ≡ length (node_strings (nodes s))

abbrev pub NeedIs : List ℕ → Result TreeSize OverLimit → Type 0
NeedIs s (Ok n) = Sized s n
NeedIs s (Err over) = any_time_over (cue_tokens s) ≡ true
