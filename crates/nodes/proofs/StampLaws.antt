-- A timestamp tag's time, told by the answer of reading it.
use mathlib.Core.Path.{◌≡◌, refl, ap, ◌∙◌}
use mathlib.Core.List.{List}
use Prim.Native.Nat.{ℕ}
use lib.ListN.{length}
use Rattle.std.specs.Prelude.{None, Ok, Err}
use Rattle.format.specs.Times.{Result as Told, failed, got, value, Time, only_time, over_hours}
use Rattle.format.specs.Trees.{tag_time}
use Rattle.format.specs.declared.kinds.NodeKind.TheVariants as NodeKind
use Rattle.laws.proofs.Tests.{by-test}
use Rattle.values.specs.Times.{stamp_is}
use Rattle.format.specs.declared.times.Stamp.{Stamp}
use Rattle.nodes.specs.Tokens.{Gift, node, stamp_made}

-- what a tag's time gives, by the answer
abbrev pub given : Stamp → Gift
given (Stamp.Bad f at) = Ok None
given (Stamp.Over next) = Err (record {})
given (Stamp.At ms next) = node NodeKind.Timestamp ms

given_is : (n : ℕ) (r : Told Time) → given (stamp_is n r) ≡ stamp_made (value r)
unfolding stamp_made value
given_is n (failed f rest) = refl
given_is n (got t rest) = by-test (over_hours t) (λ y. rw y) (λ m. rw m)

pub stamp_given : (s : List ℕ) (r : Stamp) → r ≡ stamp_is (length s) (only_time s) → given r ≡ stamp_made (tag_time s)
unfolding tag_time
stamp_given s r e = ap given e ∙ given_is (length s) (only_time s)
