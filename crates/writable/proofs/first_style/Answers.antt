use mathlib.Core.Path.{sym, ◌∙◌}
use native.Mathlib.Omega.{arith}
use Rattle.format.specs.Writable.{style_fails}
use Rattle.writable.proofs.FaultLaws.{first-stop, first_next, first_end_lem}
use Rattle.writable.proofs.first_style.Goals as goal

pub returns-in-Some : goal.returns-in-Some
returns-in-Some c =
    let a = c.args in
    first-stop 0 (style_fails a.text.now) a.styles.now c.loop-index.index c.in-Some.test c.loop-index.invariant (omega arith) (sym c.in-Some.is ∙ c.style_test.ensures)

pub loop-index-preserved : goal.loop-index-preserved
loop-index-preserved c =
    let a = c.args in
    first_next 0 (style_fails a.text.now) a.styles.now c.loop-index.index c.loop-index.invariant (omega arith) (sym c.in_default.is ∙ c.style_test.ensures)

pub returns : goal.returns
returns c =
    let a = c.args in
    first_end_lem 0 (style_fails a.text.now) a.styles.now c.loop-index.index c.loop-index.invariant (omega arith)
