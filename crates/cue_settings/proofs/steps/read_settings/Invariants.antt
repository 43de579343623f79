use Prim.Native.Nat.{◌≤◌, ◌-◌}
use mathlib.Core.Path.{◌≡◌}
use lib.ListN.{length, drop}
use Rattle.laws.proofs.Changes.{stepped}
use Rattle.format.specs.Tokens.{tokens}
use Rattle.format.specs.CueSettings.{cue_settings}
use Rattle.cue_settings.specs.Steps.{step_is, taken_is}
use Rattle.cue_settings.proofs.steps.read_settings.Given as goal

-- `cue_settings::steps::read_settings` meets its contract: the settings so far, with the tokens that are left, give the whole.
abbrev pub invariant-loop-at : goal.invariant-loop-at
invariant-loop-at l =
    (l.i ≤ length l.s) × (stepped step_is l.taken (tokens l.i (drop l.i l.s)) ≡ taken_is (cue_settings (record { place = l.from; bytes = drop l.from l.s })))

abbrev pub decreases-loop-at : goal.decreases-loop-at
decreases-loop-at l = length l.s - l.i
