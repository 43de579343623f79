use Prim.Native.Nat.{◌-◌, ◌≤◌}
use mathlib.Core.Path.{◌≡◌}
use Rattle.std.specs.Prelude.{option_map}
use lib.ListN as Lists
use lib.ListN.{drop}
use Rattle.format.specs.Fields.{unescaped}
use Rattle.fields.proofs.EscapeLaws.{length_after}
use Rattle.fields.proofs.length.Given as goal

-- the bytes counted, and those from `at` on, are the text
abbrev pub invariant-loop-byte : goal.invariant-loop-byte
invariant-loop-byte l = (l.at ≤ Lists.length l.field) × (l.n ≤ l.at) × (length_after l.n (unescaped (drop l.at l.field)) ≡ option_map Lists.length (unescaped l.field))

abbrev pub decreases-loop-byte : goal.decreases-loop-byte
decreases-loop-byte l = Lists.length l.field - l.at
