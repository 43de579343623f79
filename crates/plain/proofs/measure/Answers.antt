use mathlib.Core.Path.{ap}
use native.Mathlib.Omega.{arith}
use lib.ListN.{length}
use Rattle.laws.proofs.PlainText.{to_plain-length}
use Rattle.plain.specs.Pieces.{Stands}
use Rattle.plain.proofs.PieceLaws.{piece_stands, at_stays, at_end, stands_size}
use Rattle.plain.proofs.measure.Goals as goal
use Rattle.plain.proofs.measure.Goals.{After-piece_at-p}

pub overflow_add-n : goal.overflow_add-n
overflow_add-n c =
    omega (arith, to_plain-length c.args.s.now)

pub loop-i-preserved-then-stays : goal.loop-i-preserved-then-stays
loop-i-preserved-then-stays c =
    let s = c.args.s.now in
    omega (arith, ap length (at_stays s c.loop-i.i (omega arith) (c.stays.ensures c.if-stays.true)))

stands : (c : After-piece_at-p) → Stands c.args.s.now c.loop-i.i c.piece_at-p.result
stands c = piece_stands c.args.s.now c.loop-i.i (omega arith) c.piece_at-p.result c.piece_at-p.ensures

pub overflow_add-i-else-stays : goal.overflow_add-i-else-stays
overflow_add-i-else-stays c =
    omega (arith, (stands (goal.at.overflow_add-i-else-stays c).After-piece_at-p).inside, c.taken-i.ensures)

pub overflow_add-n-else-stays : goal.overflow_add-n-else-stays
overflow_add-n-else-stays c =
    let args = c.args in
    omega (
      arith,
      stands_size args.s.now c.loop-i.i c.piece_at-p.result (stands (goal.at.overflow_add-n-else-stays c).After-piece_at-p),
      c.size-n.ensures,
      to_plain-length args.s.now,
    )

pub loop-i-smaller : goal.loop-i-smaller
loop-i-smaller c =
    let found = stands (goal.at.loop-i-smaller c).After-piece_at-p in
    omega (arith, found.some, found.inside, c.taken-i.ensures)

pub loop-i-preserved : goal.loop-i-preserved
loop-i-preserved c =
    let found = stands (goal.at.loop-i-preserved c).After-piece_at-p in
    rw c.taken-i.ensures
    (omega (arith, stands_size c.args.s.now c.loop-i.i c.piece_at-p.result found, found.inside, c.size-n.ensures))

pub returns : goal.returns
returns c =
    omega (arith, ap length (at_end c.args.s.now c.loop-i.i c.loop-i-test.false))
