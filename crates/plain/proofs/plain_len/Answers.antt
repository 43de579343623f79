use Prim.Native.Nat.{◌+◌, ◌≤◌, ◌<◌}
use mathlib.Core.Path.{◌≡◌, sym, ◌∙◌}
use native.Mathlib.Omega.{arith}
use lib.ListN.{length, drop}
use Rattle.format.specs.Plain.{first_not_plain}
use Rattle.plain.proofs.PieceLaws.{plain_at_stays, plain_at_piece, plain_at_no_piece, plain_at_end}
use Rattle.plain.proofs.plain_len.Goals as goal
use Rattle.plain.proofs.plain_len.Goals.{In-Keep}

pub loop-i-preserved-then-stays : goal.loop-i-preserved-then-stays
loop-i-preserved-then-stays c =
    let s = c.args.s.now in
    omega (arith, plain_at_stays s c.loop-i.i (omega arith) (c.stays.ensures c.if-stays.true))

-- a sequence stands at i: the text goes on after it
passed :
    (c : In-Keep)
    → let s = c.args.s.now in
    let n = c.in-Keep.n in
    (0 < n) × (c.loop-i.i + n ≤ length s) × (first_not_plain (drop c.loop-i.i s) ≡ n + first_not_plain (drop (c.loop-i.i + n) s))
passed c = plain_at_piece c.args.s.now c.loop-i.i (omega arith) c.in-Keep.n (sym c.piece_at.ensures ∙ c.in-Keep.is)

pub overflow_add-i-in-Keep : goal.overflow_add-i-in-Keep
overflow_add-i-in-Keep c = omega (arith, passed (goal.at.overflow_add-i-in-Keep c).In-Keep)

pub loop-i-smaller : goal.loop-i-smaller
loop-i-smaller c = omega (arith, passed (goal.at.loop-i-smaller c).In-Keep)

pub loop-i-preserved : goal.loop-i-preserved
loop-i-preserved c = omega (arith, passed (goal.at.loop-i-preserved c).In-Keep)

pub returns-in_default : goal.returns-in_default
returns-in_default c =
    omega (
      arith,
      plain_at_no_piece c.args.s.now c.loop-i.i (omega arith)
          (λ n e. c.in_default.not-Keep n (c.piece_at.ensures ∙ e)),
    )

pub returns : goal.returns
returns c =
    omega (arith, plain_at_end c.args.s.now c.loop-i.i c.loop-i-test.false)
