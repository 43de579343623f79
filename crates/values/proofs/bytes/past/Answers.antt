use mathlib.Core.Path.{sym, ap, ◌∙◌}
use native.Mathlib.Omega.{arith}
use lib.ListN.{length}
use Rattle.laws.proofs.Runs.{run-stop, run-next, run_end}
use Rattle.values.specs.Runs.{passes}
use Rattle.values.proofs.bytes.past.Goals as goal

pub returns-then-not-goes_on : goal.returns-then-not-goes_on
returns-then-not-goes_on c =
    let args = c.args in
    let out = sym c.goes_on.ensures ∙ c.if-not-goes_on.true in
    omega (arith, ap length (run-stop (passes args.kind) args.s.now c.loop-i.i (omega arith) out))

pub loop-i-preserved : goal.loop-i-preserved
loop-i-preserved c =
    let args = c.args in
    let fits = sym c.goes_on.ensures ∙ c.if-not-goes_on.false in
    omega (arith, ap length (run-next (passes args.kind) args.s.now c.loop-i.i (omega arith) fits))

pub returns : goal.returns
returns c =
    let args = c.args in
    omega (arith, ap length (run_end (passes args.kind) args.s.now c.loop-i.i (omega arith)))
