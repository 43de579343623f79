use mathlib.Core.Path.{◌≡◌, sym, ap, ◌∙◌}
use native.Mathlib.Omega.{arith}
use mathlib.Core.Bool.{true, false, true≢false}
use Rattle.format.specs.Bytes.{white}
use Rattle.format.specs.Times.{Time, timestamp, milliseconds, over_hours}
use Rattle.laws.proofs.Runs.{RunAt, run_at}
use Rattle.laws.proofs.TimeSteps.{time_steps}
use Rattle.values.proofs.StepLaws.{StampRead, stamp_bad, stamp_over, stamp_at}
use Rattle.timing.specs.TimingLines.{both_is}
use Rattle.timing.proofs.LineLaws.{times_none, times_are}
use Rattle.timing.proofs.timing_line.read_any_times.Goals as goal
use Rattle.timing.proofs.timing_line.read_any_times.Goals.{After-past, In-At, In-Over}

-- the whitespace before the start time
whites : (c : After-past) → let args = c.args in RunAt white args.s.now args.from c.past.result
whites c = let args = c.args in run_at white args.s.now args.from c.past.result (omega arith) c.past.ensures

-- a start time above the limit, and one that is not
over :
    (c : In-Over) (from_whites : let args = c.args in RunAt white args.s.now args.from c.past.result)
    → (t : Time) × StampRead timestamp c.args.s.now c.past.result c.in-Over.next t × (over_hours t ≡ true)
over c from_whites =
    stamp_over _ timestamp time_steps c.args.s.now c.past.result from_whites.inside c.in-Over.next
    (sym c.in-Over.is ∙ c.read_timestamp.ensures)

read :
    (c : In-At) (from_whites : let args = c.args in RunAt white args.s.now args.from c.past.result)
    → (t : Time) × StampRead timestamp c.args.s.now c.past.result c.in-At.next t × (over_hours t ≡ false) × (milliseconds t ≡ c.in-At.ms)
read c from_whites =
    stamp_at _ timestamp time_steps c.args.s.now c.past.result from_whites.inside c.in-At.ms
    c.in-At.next (sym c.in-At.is ∙ c.read_timestamp.ensures)

pub read_end-requires : goal.read_end-requires
read_end-requires c = (over (goal.at.read_end-requires c).In-Over (whites (goal.at.read_end-requires c).After-past)).1.inside

pub read_end-requires-in-At : goal.read_end-requires-in-At
read_end-requires-in-At c = (read (goal.at.read_end-requires-in-At c).In-At (whites (goal.at.read_end-requires-in-At c).After-past)).1.inside

pub returns-in-Bad : goal.returns-in-Bad
returns-in-Bad c =
    let args = c.args in
    let s = args.s.now in
    let fault = c.in-Bad.fault in
    let place = c.in-Bad.at in
    times_none s args.from c.past.result (whites (goal.at.returns-in-Bad c).After-past) fault place
    (stamp_bad _ timestamp time_steps s c.past.result (whites (goal.at.returns-in-Bad c).After-past).inside fault place (sym c.in-Bad.is ∙ c.read_timestamp.ensures))

pub returns-in-Over : goal.returns-in-Over
returns-in-Over c =
    let args = c.args in
    let t = over (goal.at.returns-in-Over c).In-Over (whites (goal.at.returns-in-Over c).After-past) in
    c.both_times.ensures
    ∙ ap (both_is true 0) c.read_end.ensures
    ∙ times_are args.s.now args.from c.past.result (whites (goal.at.returns-in-Over c).After-past) c.in-Over.next t.0 t.1 true 0 t.2 (λ e. absurd (true≢false e))

pub returns-in-At : goal.returns-in-At
returns-in-At c =
    let args = c.args in
    let t = read (goal.at.returns-in-At c).In-At (whites (goal.at.returns-in-At c).After-past) in
    c.both_times-in-At.ensures
    ∙ ap (both_is false c.in-At.ms) c.read_end-in-At.ensures
    ∙ times_are args.s.now args.from c.past.result (whites (goal.at.returns-in-At c).After-past) c.in-At.next t.0 t.1 false c.in-At.ms t.2 (λ e. t.3)
