use Prim.Native.Nat.{◌-◌}
use mathlib.Core.Path.{sym, ◌∙◌}
use mathlib.Core.Bool.{true, false}
use native.Mathlib.Omega.{arith}
use lib.Dec.{leb}
use lib.ListN.{length, drop}
use borrow.Author.Tests.{leb-true, leb-false}
use Rattle.laws.proofs.Tests.{by-test}
use Rattle.places.proofs.PlaceLaws.{start-zero, start-next, start-end}
use Rattle.places.proofs.lines.raw_start.Goals as goal
use Rattle.places.proofs.lines.raw_start.Goals.{else-ends_line, then-ends_line}

pub returns-then-left-eq0 : goal.returns-then-left-eq0
returns-then-left-eq0 c =
    omega (arith, start-zero (drop c.loop-i.i c.args.raw.now) c.loop-i.left c.if-left-eq0.true)

pub loop-i-preserved : goal.loop-i-preserved
loop-i-preserved c =
    let ends = c.ends_line.ensures in
    let next = start-next c.args.raw.now c.loop-i.i (omega arith) c.loop-i.left (c.loop-i.left - 1) (omega arith) in
    elim c.if-ends_line.branch [
      | then-ends_line w ↦ rw w.left-is (omega (arith, next true (sym ends ∙ w.if-ends_line.true)))
      | else-ends_line w ↦ rw w.left-is (omega (arith, next false (sym ends ∙ w.if-ends_line.false)))
    ]

pub returns : goal.returns
returns c =
    let args = c.args in
    let raw = args.raw.now in
    by-test (leb args.from (length raw))
    (λ y. let l = leb-true args.from (length raw) y in omega (arith, start-end raw c.loop-i.i c.loop-i.left (omega arith)))
    (λ n. let l = leb-false args.from (length raw) n in omega (arith, start-end raw args.from args.n (omega arith)))
