use mathlib.Core.Path.{◌≡◌, sym, ap, ◌∙◌}
use native.Mathlib.Omega.{arith}
use Prim.Native.Nat.{◌≤◌}
use lib.ListN.{length, drop}
use Rattle.format.specs.Bytes.{white}
use Rattle.format.specs.Times.{got}
use Rattle.format.specs.TimingLines.{arrow, arrow_and_end}
use Rattle.laws.proofs.Runs.{RunAt, run_at}
use Rattle.values.specs.Times.{stamp_is}
use Rattle.values.proofs.StepLaws.{stamp_unread}
use Rattle.timing.proofs.LineLaws.{no_arrow_lem, arrow_read, end_none, end_is}
use Rattle.timing.proofs.timing_line.read_end.Goals as goal
use Rattle.timing.proofs.timing_line.read_end.Goals.{After-past, After-past-in-At, In-At}

-- the whitespace before the arrow
whites : (c : After-past) → let args = c.args in RunAt white args.s.now args.at c.past.result
whites c = let args = c.args in run_at white args.s.now args.at c.past.result (omega arith) c.past.ensures

pub arrow_end-requires : goal.arrow_end-requires
arrow_end-requires c = (whites (goal.at.arrow_end-requires c).After-past).inside

-- the arrow, and the whitespace after it
arrowed :
    (c : In-At) (from_whites : let args = c.args in RunAt white args.s.now args.at c.past.result)
    → let s = c.args.s.now in
    (c.in-At.next ≤ length s) × (arrow (drop c.past.result s) ≡ got tt (drop c.in-At.next s))
arrowed c from_whites =
    arrow_read c.args.s.now c.past.result from_whites.inside c.in-At.next
    (sym c.in-At.is ∙ c.arrow_end.ensures)

beyond :
    (c : After-past-in-At) (from_arrowed : let s = c.args.s.now in
    (c.in-At.next ≤ length s) × (arrow (drop c.past.result s) ≡ got tt (drop c.in-At.next s)))
    → RunAt white c.args.s.now c.in-At.next c.past-in-At.result
beyond c from_arrowed =
    run_at white c.args.s.now c.in-At.next c.past-in-At.result
    from_arrowed.0 c.past-in-At.ensures

pub returns-in-Bad : goal.returns-in-Bad
returns-in-Bad c =
    let args = c.args in
    let s = args.s.now in
    let w = c.past.result in
    let fault = c.in-Bad.fault in
    let place = c.in-Bad.place in
    let unread = no_arrow_lem s w (whites (goal.at.returns-in-Bad c).After-past).inside fault place (sym c.in-Bad.is ∙ c.arrow_end.ensures) in
    stamp_unread (arrow (drop w s)) (arrow_and_end (drop args.at s)) (length s) fault place unread (end_none s args.at w (whites (goal.at.returns-in-Bad c).After-past) fault unread.rest unread.is)

pub returns-in-At : goal.returns-in-At
returns-in-At c =
    let args = c.args in
    let s = args.s.now in
    let end = end_is s args.at c.past.result (whites (goal.at.returns-in-At c).After-past) c.in-At.next c.past-in-At.result (arrowed (goal.at.returns-in-At c).In-At (whites (goal.at.returns-in-At c).After-past)).1 (beyond (goal.at.returns-in-At c).After-past-in-At (arrowed (goal.at.returns-in-At c).In-At (whites (goal.at.returns-in-At c).After-past))) in
    c.read_timestamp.ensures ∙ ap (stamp_is (length s)) (sym end)
