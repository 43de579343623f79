use Prim.Native.Nat.{◌<◌}
use mathlib.Core.Path.{◌≡◌, sym, ◌∙◌}
use mathlib.Core.Bool.{false}
use native.Mathlib.Omega.{arith}
use lib.Dec.{eqb}
use lib.ListN.{length}
use borrow.Author.Tests.{eq-eqb, ne_eqb}
use Rattle.laws.proofs.Runs.{run_length}
use Rattle.blocks.specs.Collecting.{in_line, first_end, header_end}
use Rattle.blocks.proofs.past_header.Goals as goal
use Rattle.blocks.proofs.past_header.Goals.{Else-end-s}

pub returns-then-end-s : goal.returns-then-end-s
unfolding header_end
returns-then-end-s c =
    let s = c.args.s.now in
    let e : first_end s ≡ length s = sym c.past-end.ensures ∙ c.if-end-s.true in
    c.past-end.ensures ∙ rw (eq-eqb (first_end s) (length s) e)

-- a line follows the first
inside : (c : Else-end-s) → c.past-end.result < length c.args.s.now
inside c = omega (arith, run_length in_line c.args.s.now, c.past-end.ensures, c.if-end-s.false)

pub overflow_add-end : goal.overflow_add-end
overflow_add-end c = omega (arith, inside (goal.at.overflow_add-end c).Else-end-s)

pub collect-stop-requires : goal.collect-stop-requires
collect-stop-requires c = omega (arith, inside (goal.at.collect-stop-requires c).Else-end-s)

pub returns : goal.returns
unfolding header_end
returns c =
    let s = c.args.s.now in
    let n : eqb (first_end s) (length s) ≡ false = rw c.past-end.ensures at (ne_eqb c.past-end.result (length s) c.if-end-s.false) in
    rw (n, ← c.past-end.ensures, c.collect-stop.ensures)
