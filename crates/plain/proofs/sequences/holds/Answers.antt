use mathlib.Core.Path.{sym, ◌∙◌}
use Prim.Native.Nat.{◌+◌}
use native.Mathlib.Omega.{arith}
use lib.ListN.{get_or}
use borrow.Author.Tests.{le-leb, lt-leb}
use Rattle.format.specs.Plain.{◌to◌, within}
use Rattle.plain.proofs.SequenceLaws.{holds_in, holds-end}
use Rattle.plain.proofs.sequences.holds.Goals as goal

pub returns-then-low-b : goal.returns-then-low-b
unfolding within
returns-then-low-b c =
    let args = c.args in
    let b = get_or args.s.now (args.at + args.k) 0 in
    sym (holds_in args.s.now (args.at + args.k) (args.low to args.high) (omega arith) ∙ rw (le-leb args.low b c.if-low-b.true))

pub returns-else-low-b : goal.returns-else-low-b
unfolding within
returns-else-low-b c =
    let args = c.args in
    let out = lt-leb args.low (get_or args.s.now (args.at + args.k) 0) c.if-low-b.false in
    rw out (sym (holds_in args.s.now (args.at + args.k) (args.low to args.high) (omega arith) ∙ rw out))

pub returns : goal.returns
returns c =
    let args = c.args in
    sym (holds-end args.s.now (args.at + args.k) (args.low to args.high) (omega arith))
