use mathlib.Core.Path.{◌≡◌, sym, ap, ◌∙◌}
use mathlib.Core.Bool.{cond}
use Rattle.format.specs.CueSettings.{cue_settings}
use Rattle.values.specs.Tokens.{token_from}
use Rattle.timing.specs.TimingLines.{line_from, timed_line_is, line_kind}
use Rattle.timing.specs.declared.timing_line.LineKind.TheVariants as LineKind
use Rattle.timing.proofs.LineLaws.{line_is, times_inside, kind_with}
use Rattle.values.proofs.CutLaws.{part-rest}
use Rattle.timing.proofs.timing_line.read_kind.Goals as goal
use Rattle.timing.proofs.timing_line.read_kind.Goals.{After-any_over}

-- where the settings begin, and what they are
over :
    (c : After-any_over)
    → (cue_settings (token_from c.args.s.now c.in-Good.next)).over ≡ c.any_over.result
over c =
    let s = c.args.s.now in
    let n = c.in-Good.next in
    let inside = times_inside s c.args.from c.requires _ _ n (sym c.in-Good.is ∙ c.read_times.ensures) in
    sym (c.any_over.ensures ∙ ap (λ p. (cue_settings p).over) (part-rest s n inside.1))

-- the line's kind, by them
kind :
    (c : After-any_over)
    → line_kind (timed_line_is (token_from c.args.s.now c.args.from))
    ≡ cond (cue_settings (token_from c.args.s.now c.in-Good.next)).over LineKind.Over LineKind.Good
kind c =
    let whole = ap (λ t. line_kind (line_from c.args.s.now c.args.from t)) c.read_times.ensures ∙ ap line_kind (line_is c.args.s.now c.args.from c.requires) in
    sym (rw c.in-Good.is at whole) ∙ kind_with c.args.s.now c.args.from c.in-Good.start c.in-Good.end c.in-Good.next

pub returns-then-any_over : goal.returns-then-any_over
returns-then-any_over c =
    sym (rw (over (goal.at.returns-then-any_over c).After-any_over, c.if-any_over.true) at (kind (goal.at.returns-then-any_over c).After-any_over))

pub returns-in-Bad : goal.returns-in-Bad
returns-in-Bad c =
    rw c.in-Bad.is at (ap (λ t. line_kind (line_from c.args.s.now c.args.from t)) c.read_times.ensures ∙ ap line_kind (line_is c.args.s.now c.args.from c.requires))

pub returns-in-Over : goal.returns-in-Over
returns-in-Over c =
    rw c.in-Over.is at (ap (λ t. line_kind (line_from c.args.s.now c.args.from t)) c.read_times.ensures ∙ ap line_kind (line_is c.args.s.now c.args.from c.requires))

pub returns-else-any_over : goal.returns-else-any_over
returns-else-any_over c =
    sym (rw (over (goal.at.returns-else-any_over c).After-any_over, c.if-any_over.false) at (kind (goal.at.returns-else-any_over c).After-any_over))
