use Prim.Native.Nat.{◌+◌}
use native.Mathlib.Omega.{arith}
use Rattle.format.specs.Bytes.{digit}
use Rattle.laws.proofs.Runs.{RunAt, run_at}
use Rattle.values.proofs.StepLaws.{place_is}
use Rattle.values.proofs.TimeLaws.{field_end, field_other, field_wrong, field_good}
use Rattle.values.proofs.times.read_field.Goals as goal
use Rattle.values.proofs.times.read_field.Goals.{After-past-end}

pub returns-then-at-s : goal.returns-then-at-s
returns-then-at-s c =
    let args = c.args in
    let s = args.s.now in
    rw (field_end s args.at args.c args.n c.if-at-s.true, c.missing_step.ensures, place_is s args.at (omega arith))

pub returns-then-s-at : goal.returns-then-s-at
returns-then-s-at c =
    let args = c.args in
    let s = args.s.now in
    rw (field_other s args.at args.c args.n (omega arith) c.if-s-at.true, c.missing_step-then-s-at.ensures, place_is s args.at (omega arith))

-- the digits that were found
ran : (c : After-past-end) → let args = c.args in RunAt digit args.s.now (args.at + 1) c.past-end.result
ran c =
    let args = c.args in
    run_at digit args.s.now (args.at + 1) c.past-end.result (omega arith) c.past-end.ensures

pub returns-then-end-from : goal.returns-then-end-from
returns-then-end-from c =
    let args = c.args in
    let s = args.s.now in
    let run = ran (goal.at.returns-then-end-from c).After-past-end in
    rw (
      field_wrong s args.at args.c args.n c.past-end.result (omega arith) c.if-s-at.false run c.if-end-from.true,
      place_is s c.past-end.result run.inside,
    )

pub slice_bounds-number_of-end : goal.slice_bounds-number_of-end
slice_bounds-number_of-end c = (ran (goal.at.slice_bounds-number_of-end c).After-past-end).inside

pub returns : goal.returns
returns c =
    let args = c.args in
    let s = args.s.now in
    let run = ran (goal.at.returns c).After-past-end in
    let good = field_good s args.at args.c args.n c.past-end.result (omega arith) c.if-s-at.false run c.if-end-from.false in
    rw good (rw (place_is s c.past-end.result run.inside, c.number_of.ensures))
