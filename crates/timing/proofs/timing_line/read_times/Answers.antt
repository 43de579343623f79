use native.Mathlib.Omega.{arith}
use Rattle.timing.proofs.LineLaws.{usual_is}
use Rattle.timing.proofs.timing_line.read_times.Goals as goal

pub overflow_add-result : goal.overflow_add-result
overflow_add-result c = omega (arith, c.in-Some.ensures.inside)

pub returns-in-Some : goal.returns-in-Some
returns-in-Some c =
    let args = c.args in
    usual_is args.s.now args.from c.in-Some.times.start c.in-Some.times.end c.in-Some.ensures
