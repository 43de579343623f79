use Prim.Native.Nat.{◌≤◌, ◌-◌}
use mathlib.Core.Path.{◌≡◌}
use lib.ListN.{length, drop}
use Rattle.format.specs.Tokens.{tokens}
use Rattle.cue_settings.specs.Overs.{any_token_over}
use Rattle.cue_settings.proofs.overs.any_token_over.Given as goal

-- `cue_settings::overs::any_token_over` meets its contract.
-- what the tokens that are left give is what all of them give
abbrev pub invariant-loop-at : goal.invariant-loop-at
invariant-loop-at l = (l.i ≤ length l.s) × (any_token_over (tokens l.i (drop l.i l.s)) ≡ any_token_over (tokens l.from (drop l.from l.s)))

abbrev pub decreases-loop-at : goal.decreases-loop-at
decreases-loop-at l = length l.s - l.i
