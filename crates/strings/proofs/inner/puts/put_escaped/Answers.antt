use Rattle.std.proofs.Common.{arith, sym}
use Rattle.strings.proofs.StoreLaws.{stores_as, ◌then◌}
use Rattle.strings.proofs.inner.puts.put_escaped.Goals as goal

pub put_part-requires : goal.put_part-requires
put_part-requires c = (omega (arith, c.in-Some.ensures.1), omega arith)

pub returns : goal.returns
returns c = stores_as (sym c.in_default.ensures) (c.put_part-n.ensures then c.put.ensures)
