use native.Mathlib.Omega.{arith}
use mathlib.Core.Path.{sym}
use native.Mathlib.Numerals.{add-one}
use lib.Seq.{take-suc}
use Rattle.output.proofs.PutLaws.{puts_none, puts_as, ◌then◌}
use Rattle.output.proofs.Output.each_byte.Goals as goal

pub loop-b-init : goal.loop-b-init
loop-b-init c = puts_none c.args.self.now

pub loop-b-preserved : goal.loop-b-preserved
loop-b-preserved c =
    let s = c.args.s.now in
    let i = c.loop-b.b-index in
    rw (add-one i) (puts_as (sym (take-suc s i 0 (omega arith))) (c.loop-b.invariant then c.byte.ensures))
