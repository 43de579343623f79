use Prim.Native.Nat.{◌≤◌, ◌-◌}
use mathlib.Core.Path.{◌≡◌}
use lib.ListN.{length, drop}
use Rattle.laws.proofs.Changes.{stepped}
use Rattle.format.specs.Tokens.{tokens}
use Rattle.format.specs.RegionSettings.{region_settings}
use Rattle.values.specs.Tokens.{token_from}
use Rattle.regions.specs.Changes.{step_is, taken_is}
use Rattle.regions.proofs.read_region.Given as goal

-- `regions::read_region` meets its contract: the region so far, with the tokens that are left, gives the whole.
abbrev pub invariant-loop-at : goal.invariant-loop-at
invariant-loop-at l =
    (l.i ≤ length l.s) × (stepped step_is l.taken (tokens l.i (drop l.i l.s)) ≡ taken_is (region_settings (token_from l.s l.from)))

abbrev pub decreases-loop-at : goal.decreases-loop-at
decreases-loop-at l = length l.s - l.i
