use Prim.Native.Nat.{◌+◌, ◌-◌, ◌<◌}
use mathlib.Core.Path.{◌≡◌, sym, ap, ◌∙◌}
use mathlib.Core.Bool.{true, false}
use native.Mathlib.Omega.{arith}
use lib.ListN.{get_or, take}
use borrow.Author.Tests.{eq-eqb, ne_eqb}
use Rattle.format.specs.Bytes.{lf}
use Rattle.blocks.specs.Collecting.{line_ends}
use Rattle.blocks.proofs.LineLaws.{ends_next}
use Rattle.replace.proofs.CheckLaws.{some-before, first_gap, gap_is}
use Rattle.replace.proofs.gap_before.Goals as goal
use Rattle.replace.proofs.gap_before.Goals.{After-loop-i, In-loop-i, Start}

-- a line end stands before the place
some : (c : Start) → 0 < c.args.place
some c = some-before c.args.s.now c.args.place c.requires.1

-- at a byte that is no line end, as many stand before it as before the place
same :
    (c : In-loop-i)
    → let args = c.args in line_ends (take c.loop-i.i args.s.now) ≡ line_ends (take args.place args.s.now)
same c =
    let s = c.args.s.now in
    omega (arith, ends_next s c.loop-i.i (omega arith) false (ne_eqb (get_or s c.loop-i.i 0) lf c.loop-i-test.true))

more : (c : In-loop-i) → 0 < c.loop-i.i
more c = some-before c.args.s.now c.loop-i.i (omega (arith, same c, c.requires.1))

-- at a line end, as many as the number of the line before
number :
    (c : After-loop-i)
    → let args = c.args in line_ends (take args.place args.s.now) - 1 ≡ line_ends (take c.loop-i.i args.s.now)
number c =
    let s = c.args.s.now in
    omega (arith, ends_next s c.loop-i.i (omega arith) true (eq-eqb (get_or s c.loop-i.i 0) lf c.loop-i-test.false))

pub overflow_sub-i : goal.overflow_sub-i
overflow_sub-i c = omega (arith, some (goal.at.overflow_sub-i c).Start)

pub loop-i-init : goal.loop-i-init
loop-i-init c =
    let p = some (goal.at.loop-i-init c).Start in
    let e : c.args.place - 1 + 1 ≡ c.args.place = omega arith in
    (omega arith, ap (λ k. line_ends (take k c.args.s.now)) e)

pub overflow_sub-i-in-loop-i : goal.overflow_sub-i-in-loop-i
overflow_sub-i-in-loop-i c = omega (arith, more (goal.at.overflow_sub-i-in-loop-i c).In-loop-i)

pub loop-i-smaller : goal.loop-i-smaller
loop-i-smaller c = omega (arith, more (goal.at.loop-i-smaller c).In-loop-i)

pub loop-i-preserved : goal.loop-i-preserved
loop-i-preserved c =
    let p = more (goal.at.loop-i-preserved c).In-loop-i in
    let e : c.loop-i.i - 1 + 1 ≡ c.loop-i.i = omega arith in
    (omega arith, ap (λ k. line_ends (take k c.args.s.now)) e ∙ same (goal.at.loop-i-preserved c).In-loop-i)

pub returns-then-i-eq0 : goal.returns-then-i-eq0
unfolding line_ends
returns-then-i-eq0 c =
    let e = c.if-i-eq0.true in
    sym (rw (number (goal.at.returns-then-i-eq0 c).After-loop-i, e) (first_gap c.args.s.now (omega arith) (rw e at c.loop-i-test.false)))

pub returns-else-i-eq0 : goal.returns-else-i-eq0
returns-else-i-eq0 c =
    sym (rw (number (goal.at.returns-else-i-eq0 c).After-loop-i) (gap_is c.args.s.now (c.loop-i.i - 1) c.loop-i.i (omega arith) (omega arith) c.loop-i-test.false))
