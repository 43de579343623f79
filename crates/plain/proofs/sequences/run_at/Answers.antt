use mathlib.Core.Path.{◌≡◌, sym, ◌∙◌}
use mathlib.Core.Bool.{Bool, true, false, cond}
use Prim.Native.Nat.{◌+◌}
use native.Mathlib.Omega.{arith}
use lib.ListN.{drop}
use borrow.Author.Tests.{not-true, not-false}
use Rattle.format.specs.Plain.{◌to◌}
use Rattle.plain.specs.declared.pieces.Piece.TheVariants.{Keep, Replace}
use Rattle.plain.specs.Lead.{starts_in}
use Rattle.plain.specs.Pieces.{run_of}
use Rattle.plain.proofs.SequenceLaws.{run_none, run-one, run-first, run_two, run-second, run_three, run_four}
use Rattle.plain.proofs.sequences.run_at.Goals as goal
use Rattle.plain.proofs.sequences.run_at.Goals.{After-holds-3, Else-not-holds, Else-not-holds-2}

pub returns-then-first-eq0 : goal.returns-then-first-eq0
returns-then-first-eq0 c =
    let args = c.args in
    let lead = c.lead_of-first.result in
    let row = c.lead_of-first.ensures.1 in
    run_none args.s.now args.at (omega arith) lead.low lead.high lead.len row c.if-first-eq0.true

pub returns-then-first-eq1 : goal.returns-then-first-eq1
returns-then-first-eq1 c =
    let args = c.args in
    let lead = c.lead_of-first.result in
    let row = c.lead_of-first.ensures.1 in
    run-one args.s.now args.at (omega arith) lead.low lead.high lead.len row c.if-first-eq1.true

pub returns-then-not-holds : goal.returns-then-not-holds
returns-then-not-holds c =
    let args = c.args in
    let lead = c.lead_of-first.result in
    let row = c.lead_of-first.ensures.1 in
    run-first args.s.now args.at (omega arith) lead.low lead.high lead.len row (omega arith)
    (sym c.holds.ensures ∙ not-true c.holds.result c.if-not-holds.true-raw)

-- the second byte can follow
second :
    (c : Else-not-holds)
    → let args = c.args in
    starts_in (c.lead_of-first.result.low to c.lead_of-first.result.high) (drop (args.at + 1) args.s.now) ≡ true
second c = sym c.holds.ensures ∙ not-false c.holds.result c.if-not-holds.false-raw

pub returns-then-first-eq2 : goal.returns-then-first-eq2
returns-then-first-eq2 c =
    let args = c.args in
    let lead = c.lead_of-first.result in
    let row = c.lead_of-first.ensures.1 in
    run_two args.s.now args.at (omega arith) lead.low lead.high (second (goal.at.returns-then-first-eq2 c).Else-not-holds) lead.len row c.if-first-eq2.true

pub returns-then-not-holds-2 : goal.returns-then-not-holds-2
returns-then-not-holds-2 c =
    let args = c.args in
    let lead = c.lead_of-first.result in
    let row = c.lead_of-first.ensures.1 in
    run-second args.s.now args.at (omega arith) lead.low lead.high (second (goal.at.returns-then-not-holds-2 c).Else-not-holds) lead.len row (omega arith)
    (sym c.holds-2.ensures ∙ not-true c.holds-2.result c.if-not-holds-2.true-raw)

-- the third byte can follow
third :
    (c : Else-not-holds-2)
    → let args = c.args in
    starts_in (0x80 to 0xBF) (drop (args.at + 2) args.s.now) ≡ true
third c = sym c.holds-2.ensures ∙ not-false c.holds-2.result c.if-not-holds-2.false-raw

pub returns-then-first-eq3 : goal.returns-then-first-eq3
returns-then-first-eq3 c =
    let args = c.args in
    let lead = c.lead_of-first.result in
    let row = c.lead_of-first.ensures.1 in
    run_three args.s.now args.at (omega arith) lead.low lead.high (second (goal.at.returns-then-first-eq3 c).Else-not-holds) (third (goal.at.returns-then-first-eq3 c).Else-not-holds-2) lead.len row c.if-first-eq3.true

-- both ways out after the last test
ending :
    (c : After-holds-3)
    (from_second : starts_in (c.lead_of-first.result.low to c.lead_of-first.result.high) (drop (c.args.at + 1) c.args.s.now) ≡ true)
    (from_third : starts_in (0x80 to 0xBF) (drop (c.args.at + 2) c.args.s.now) ≡ true)
    (t : Bool)
    → c.holds-3.result ≡ t
    → let args = c.args in
    cond t (Keep 4) (Replace 3) ≡ run_of (drop args.at args.s.now)
ending c from_second from_third t e =
    let args = c.args in
    let lead = c.lead_of-first.result in
    let row = c.lead_of-first.ensures.1 in
    run_four args.s.now args.at (omega arith) lead.low lead.high from_second from_third lead.len row (omega arith) t
    (sym c.holds-3.ensures ∙ e)

pub returns-then-not-holds-3 : goal.returns-then-not-holds-3
returns-then-not-holds-3 c = ending (goal.at.returns-then-not-holds-3 c).After-holds-3 (second (goal.at.returns-then-not-holds-3 c).Else-not-holds) (third (goal.at.returns-then-not-holds-3 c).Else-not-holds-2) false (not-true c.holds-3.result c.if-not-holds-3.true-raw)

pub returns : goal.returns
returns c = ending (goal.at.returns c).After-holds-3 (second (goal.at.returns c).Else-not-holds) (third (goal.at.returns c).Else-not-holds-2) true (not-false c.holds-3.result c.if-not-holds-3.false-raw)
