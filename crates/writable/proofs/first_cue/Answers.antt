use mathlib.Core.Path.{refl, sym, ◌∙◌}
use native.Mathlib.Omega.{arith}
use Rattle.format.specs.Writable.{names_of, cue_fails}
use Rattle.lookup.proofs.KnownLaws.{last_none}
use Rattle.writable.proofs.FaultLaws.{first-stop, first_next, first_end_lem}
use Rattle.writable.proofs.first_cue.Goals as goal

pub loop-index-init : goal.loop-index-init
loop-index-init c = let a = c.args in (refl, refl, last_none (names_of a.text.now a.regions.now) 256)

pub slice_bounds-cue_test-end : goal.slice_bounds-cue_test-end
slice_bounds-cue_test-end c = sym c.loop-index.invariant.1

pub cue_test-requires : goal.cue_test-requires
cue_test-requires c = record { known_len = c.loop-index.invariant.1; all_last = c.loop-index.invariant.2 }

pub returns-in-Some : goal.returns-in-Some
returns-in-Some c =
    let a = c.args in
    first-stop 2 (cue_fails a.text.now a.regions.now) a.cues.now c.loop-index.index c.in-Some.test c.loop-index.invariant.0 (omega arith) (sym c.in-Some.is ∙ c.cue_test.ensures.answer)

pub loop-index-preserved : goal.loop-index-preserved
loop-index-preserved c =
    let a = c.args in
    let next = first_next 2 (cue_fails a.text.now a.regions.now) a.cues.now c.loop-index.index c.loop-index.invariant.0 (omega arith) (sym c.in_default.is ∙ c.cue_test.ensures.answer) in
    (next, c.cue_test.auto.known ∙ c.loop-index.invariant.1, c.cue_test.ensures.known)

pub returns : goal.returns
returns c =
    let a = c.args in
    first_end_lem 2 (cue_fails a.text.now a.regions.now) a.cues.now c.loop-index.index c.loop-index.invariant.0 (omega arith)
