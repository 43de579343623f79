use native.Mathlib.Omega.{arith}
use lib.ListN.{drop, length-drop}
use Rattle.timing.proofs.UsualLaws.{rest, usual_read}
use Rattle.timing.proofs.usual.usual_times.Goals as goal

pub returns : goal.returns
returns c =
    let args = c.args in
    let s = args.s.now in
    let x = drop args.at s in
    let whole = rest s args.at in
    usual_read s args.at c.in_ok-start.start c.in_ok-end.end (omega arith) (omega (arith, length-drop args.at s))
    (rw whole at c.in_ok-start.ensures)
    (rw (whole, rest x 12) at c.if-not-arrow_here.ensures)
    (rw (whole, rest x 17) at c.in_ok-end.ensures)
    (rw (whole, rest x 29) at c.if-not-no_digit.ensures)
