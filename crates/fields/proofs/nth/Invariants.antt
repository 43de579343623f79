use Prim.Native.Nat.{◌-◌, ◌≤◌}
use mathlib.Core.Path.{◌≡◌}
use mathlib.Core.List.{[]}
use lib.ListN.{length, get_or}
use Rattle.format.specs.Bytes.{tab}
use Rattle.format.specs.Fields.{fields}
use Rattle.laws.proofs.Parted.{parts_from}
use Rattle.fields.proofs.nth.Given as goal

-- the fields from `at` on, after those that are still to be passed, begin with the one asked for
abbrev pub invariant-loop : goal.invariant-loop
invariant-loop l = (l.at ≤ length l.line) × (get_or (parts_from tab l.line l.at) (l.k - l.counter) [] ≡ get_or (fields l.line) l.k [])
