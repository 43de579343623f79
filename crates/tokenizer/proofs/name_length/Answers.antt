use Rattle.std.proofs.Common.{arith, sym, ap, ◌∙◌, length}
use Rattle.laws.proofs.Runs.{run-stop, run-next, run_end}
use Rattle.tokenizer.specs.Tags.{in_name}
use Rattle.tokenizer.proofs.name_length.Goals as goal

pub returns-then-not-goes_on-clause-is : goal.returns-then-not-goes_on-clause-is
returns-then-not-goes_on-clause-is c =
    let out = sym c.goes_on.ensures ∙ c.if-not-goes_on.true in
    omega (arith, ap length (run-stop (in_name c.args.stops) c.args.s.now c.loop-i.i (omega arith) out))

pub loop-i-preserved : goal.loop-i-preserved
loop-i-preserved c =
    let fits = sym c.goes_on.ensures ∙ c.if-not-goes_on.false in
    omega (arith, ap length (run-next (in_name c.args.stops) c.args.s.now c.loop-i.i (omega arith) fits))

pub returns-clause-is : goal.returns-clause-is
returns-clause-is c = omega (arith, ap length (run_end (in_name c.args.stops) c.args.s.now c.loop-i.i (omega arith)))
