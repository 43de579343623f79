use native.Mathlib.Omega.{arith}
use lib.Seq.{take_all}
use Rattle.output.proofs.PutLaws.{puts_none, byte_then, ◌then◌}
use Rattle.writer.specs.Blocks.{blocks}
use Rattle.writer.proofs.BlockLaws.{next-block}
use Rattle.writer.proofs.put_blocks.Goals as goal

pub loop-row-init : goal.loop-row-init
unfolding blocks
loop-row-init g c = λ form each. puts_none _

pub loop-row-preserved : goal.loop-row-preserved
loop-row-preserved g c = λ form each.
    let row = c.row-item.result in
    rw (next-block form c.args.rows.now c.loop-row.row-index row (omega arith) c.row-item.is)
    (c.loop-row.invariant form each then byte_then c.byte.ensures (each row _ _ c.put.ensures then c.byte-in-loop-row.ensures))

pub returns : goal.returns
returns g c = λ form each. rw (take_all c.loop-row.row-index c.args.rows.now (omega arith)) at (c.loop-row.invariant form each)
