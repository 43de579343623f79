use Prim.Native.Nat.{◌-◌}
use native.Mathlib.Omega.{arith}
use lib.Count.{leading_le}
use Rattle.plain.proofs.LeadTable.{lead_ascii, lead_low, lead_high, lead_whole}
use Rattle.plain.proofs.sequences.lead_of.Goals as goal

-- `plain::sequences::lead_of` meets its contract, by the test over all first bytes.
pub returns-then-ones-eq0 : goal.returns-then-ones-eq0
returns-then-ones-eq0 c = (omega arith, lead_ascii c.args.b (omega arith) c.if-ones-eq0.true)

pub returns-then-b-lt194 : goal.returns-then-b-lt194
returns-then-b-lt194 c = (omega arith, lead_low c.args.b (omega arith) c.if-ones-eq0.false c.if-b-lt194.true)

pub returns-then-b-gt244 : goal.returns-then-b-gt244
returns-then-b-gt244 c =
    let b = c.args.b in
    (omega arith, lead_high b (omega arith) c.if-ones-eq0.false c.if-b-lt194.false c.if-b-gt244.true)

pub overflow_cast-result : goal.overflow_cast-result
overflow_cast-result c = omega (arith, leading_le 8 (255 - c.args.b))

pub returns : goal.returns
returns c =
    let b = c.args.b in
    rw (c.low.ensures, c.high.ensures)
    (lead_whole b (omega arith) c.if-ones-eq0.false c.if-b-lt194.false c.if-b-gt244.false)
