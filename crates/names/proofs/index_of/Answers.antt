use Prim.Native.Nat.{◌+◌}
use mathlib.Core.Path.{◌≡◌, sym}
use mathlib.Core.Bool.{cond}
use native.Mathlib.Omega.{arith}
use Rattle.format.specs.Bytes.{lf}
use Rattle.laws.proofs.Parted.{parts_from, PartHere, part-here}
use Rattle.names.specs.Names.{index_in}
use Rattle.names.proofs.NameLaws.{index-here, index-start, index-end}
use Rattle.names.proofs.index_of.Goals as goal
use Rattle.names.proofs.index_of.Goals.{After-past-end, After-same_bytes}

-- the line that stands at `at`
line_at :
    (c : After-past-end)
    → let s = c.args.table.now in PartHere lf s c.loop-at.at c.past-end.result
line_at c =
    part-here lf c.args.table.now c.loop-at.at c.past-end.result (omega arith)
    c.past-end.ensures

pub loop-at-init : goal.loop-at-init
loop-at-init c =
    let args = c.args in
    (omega arith, omega arith, index-start args.table.now args.name.now)

pub slice_bounds-same_bytes-count : goal.slice_bounds-same_bytes-count
slice_bounds-same_bytes-count c = omega (arith, (line_at (goal.at.slice_bounds-same_bytes-count c).After-past-end).from)

pub slice_bounds-same_bytes-start : goal.slice_bounds-same_bytes-start
slice_bounds-same_bytes-start c = omega (arith, (line_at (goal.at.slice_bounds-same_bytes-start c).After-past-end).from)

pub slice_bounds-same_bytes-end : goal.slice_bounds-same_bytes-end
slice_bounds-same_bytes-end c = (line_at (goal.at.slice_bounds-same_bytes-end c).After-past-end).inside

-- a name's index from `at` on, by the test
here :
    (c : After-same_bytes)
    → (from_line_at : let s = c.args.table.now in PartHere lf s c.loop-at.at c.past-end.result)
    → let args = c.args in
    index_in (parts_from lf args.table.now c.loop-at.at) args.name.now
    ≡ cond c.same_bytes.result 0 (index_in (parts_from lf args.table.now (c.past-end.result + 1)) args.name.now + 1)
here c from_line_at =
    let args = c.args in
    index-here args.table.now args.name.now c.loop-at.at c.past-end.result c.same_bytes.result
    from_line_at (sym c.same_bytes.ensures)

pub returns-then-same_bytes : goal.returns-then-same_bytes
returns-then-same_bytes c = omega (arith, rw c.if-same_bytes.true at (here (goal.at.returns-then-same_bytes c).After-same_bytes (line_at (goal.at.returns-then-same_bytes c).After-past-end)))

pub overflow_add-at : goal.overflow_add-at
overflow_add-at c = omega (arith, (line_at (goal.at.overflow_add-at c).After-past-end).inside)

pub loop-at-smaller : goal.loop-at-smaller
loop-at-smaller c = omega (arith, (line_at (goal.at.loop-at-smaller c).After-past-end).from, (line_at (goal.at.loop-at-smaller c).After-past-end).inside)

pub loop-at-preserved : goal.loop-at-preserved
loop-at-preserved c =
    let line = line_at (goal.at.loop-at-preserved c).After-past-end in
    (omega (arith, line.inside), omega (arith, line.from), omega (arith, rw c.if-same_bytes.false at (here (goal.at.loop-at-preserved c).After-same_bytes (line_at (goal.at.loop-at-preserved c).After-past-end))))

pub returns : goal.returns
returns c =
    let args = c.args in
    omega (arith, index-end args.table.now args.name.now c.loop-at.at (omega arith))
