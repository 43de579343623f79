use Prim.Native.Nat.{◌-◌}
use mathlib.Core.Path.{sym, ◌∙◌}
use native.Mathlib.Omega.{arith}
use borrow.Author.Tests.{eq-eqb, ne_eqb}
use lib.ListN.{length, get_or}
use Rattle.format.specs.Bytes.{percent}
use Rattle.format.specs.Texts.{ends_with}
use Rattle.laws.proofs.Runs.{ends_with-last}
use Rattle.values.proofs.NumberLaws.{none_empty_lem}
use Rattle.cue_settings.proofs.steps.ends_with_percent.Goals as goal

-- `cue_settings::steps::ends_with_percent` meets its contract.
pub returns-in-37 : goal.returns-in-37
returns-in-37 c =
    let s = c.args.s.now in
    sym (ends_with-last percent s (omega arith) ∙ eq-eqb (get_or s (length s - 1) 0) percent (omega arith))

pub returns-in_default : goal.returns-in_default
unfolding ends_with
returns-in_default c = rw (none_empty_lem c.args.s.now (omega arith))

pub returns-in_default-2 : goal.returns-in_default-2
returns-in_default-2 c =
    let s = c.args.s.now in
    sym (ends_with-last percent s (omega arith) ∙ ne_eqb (get_or s (length s - 1) 0) percent (λ e. absurd (omega (arith, e))))
