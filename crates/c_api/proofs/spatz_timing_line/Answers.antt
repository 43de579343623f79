use mathlib.Core.Path.{ap, ◌∙◌}
use native.Mathlib.Omega.{arith}
use Rattle.format.specs.TellingTimes.{timing_line_told}
use Rattle.values.proofs.CutLaws.{part-rest}
use Rattle.c_api.proofs.spatz_timing_line.Goals as goal

pub returns : goal.returns
returns c =
    let s = c.args.line.now in
    let told = c.line_of.ensures.answer ∙ ap timing_line_told (part-rest s 0 (omega arith)) in
    rw (← told)
    (record {
      number = c.tell.ensures.number;
      values = c.tell.ensures.values;
    })
