use native.Mathlib.Omega.{arith}
use lib.Dec.{leb}
use lib.ListN.{length}
use borrow.Author.Tests.{leb-true, leb-false}
use Rattle.laws.proofs.Tests.{by-test}
use Rattle.places.proofs.PlaceLaws.{end_from_start, end-lf, end-cr, end-next, end-end}
use Rattle.places.proofs.lines.raw_end.Goals as goal
use Rattle.places.proofs.lines.raw_end.Goals.{then-raw-i-eq10-via-then-raw-i-eq10, then-raw-i-eq10-via-else-raw-i-eq10+then-raw-i-eq13}

pub loop-i-init : goal.loop-i-init
loop-i-init c =
    let args = c.args in
    rw c.raw_start-start.ensures (end_from_start args.raw.now args.from args.n)

pub returns-then-raw-i-eq10 : goal.returns-then-raw-i-eq10
returns-then-raw-i-eq10 c =
    let raw = c.args.raw.now in
    elim c.then-raw-i-eq10.branch [
      | then-raw-i-eq10-via-then-raw-i-eq10 w ↦ omega (arith, end-lf raw c.loop-i.i (omega arith) w.if-raw-i-eq10.true)
      | then-raw-i-eq10-via-else-raw-i-eq10+then-raw-i-eq13 w ↦ omega (arith, end-cr raw c.loop-i.i (omega arith) w.if-raw-i-eq13.true)
    ]

pub loop-i-preserved : goal.loop-i-preserved
loop-i-preserved c =
    omega (arith, end-next c.args.raw.now c.loop-i.i (omega arith) c.if-raw-i-eq10.false c.if-raw-i-eq13.false)

pub returns : goal.returns
returns c =
    let raw = c.args.raw.now in
    let start = c.raw_start-start.result in
    let goes_on = end_from_start raw c.args.from c.args.n in
    by-test (leb start (length raw))
    (λ y. let l = leb-true start (length raw) y in omega (arith, end-end raw c.loop-i.i (omega arith)))
    (λ n. let l = leb-false start (length raw) n in
    omega (arith, end-end raw start (omega arith), rw (← c.raw_start-start.ensures) at goes_on))
