use Prim.Native.Nat.{ℕ, ◌≤◌}
use lib.ListN.{length}
use mathlib.Core.Path.{◌≡◌, sym, ◌∙◌}
use mathlib.Core.Bool.{Bool, true, false, ◌&&◌}
use mathlib.Core.Logic.{◌⊎◌, inl, inr}
use native.Mathlib.Omega.{arith}
use lib.Dec.{eqb}
use borrow.Author.Tests.{ne_eqb}
use Rattle.laws.proofs.Tests.{and-false}
use Rattle.blocks.specs.Collecting.{lines_from, collect_from}
use Rattle.blocks.proofs.LineLaws.{stops_at_arrow, stops_at_empty, end_inside, takes, stops_at_end, more_none}
use Rattle.blocks.proofs.collecting.collect.Goals as goal
use Rattle.blocks.proofs.collecting.collect.Goals.{Else-end-stop}

pub loop-stop-init : goal.loop-stop-init
loop-stop-init c =
    let a = c.args in
    record { inside = omega arith; few = omega arith; gives = more_none (collect_from a.known a.from (lines_from a.s.now a.from)) }

pub returns-then-stop-eq0 : goal.returns-then-stop-eq0
returns-then-stop-eq0 c =
    let st = c.loop-stop.stop in
    stops_at_arrow c.args.s.now st.head st.to st.at c.arrow_or_end-mark.result st.lines c.has_arrow-arrow.result c.arrow_or_end-mark.ensures c.has_arrow-arrow.ensures
    c.if-stop-eq0.true c.if-arrow.true
    ∙ c.loop-stop.invariant.gives

pub line_end-end-requires : goal.line_end-end-requires
line_end-end-requires c none = c.arrow_or_end-mark.ensures.ends (sym c.has_arrow-arrow.ensures ∙ none)

pub returns-then-end-stop : goal.returns-then-end-stop
returns-then-end-stop c =
    let st = c.loop-stop.stop in
    stops_at_empty c.args.s.now st.head st.to st.at c.arrow_or_end-mark.result st.lines c.has_arrow-arrow.result c.arrow_or_end-mark.ensures c.has_arrow-arrow.ensures
    c.line_end-end.result c.line_end-end.ensures c.if-end-stop.true
    ∙ c.loop-stop.invariant.gives

-- where an arrow stands, it can be the timing line's
no_stop : (left : ℕ) (arrow : Bool) → ((arrow ≡ true) × (left ≡ 0 → ⊥)) ⊎ (arrow ≡ false) → eqb left 0 && arrow ≡ false
no_stop left arrow (inl e) = rw (ne_eqb left 0 e.1)
no_stop left arrow (inr e) = and-false (eqb left 0) arrow e

pub returns-then-end-s : goal.returns-then-end-s
returns-then-end-s c =
    let st = c.loop-stop.stop in
    rw c.after-stop.ensures
    (stops_at_end c.args.s.now st.head st.to st.at c.arrow_or_end-mark.result st.lines c.has_arrow-arrow.result c.arrow_or_end-mark.ensures c.has_arrow-arrow.ensures
    c.line_end-end.result c.line_end-end.ensures c.if-end-stop.false (no_stop st.head.left c.has_arrow-arrow.result c.else-arrow.either) c.if-end-s.true
    ∙ c.loop-stop.invariant.gives)

inside : (c : Else-end-stop) → c.line_end-end.result ≤ length c.args.s.now
inside c =
    let st = c.loop-stop.stop in
    end_inside c.args.s.now st.head st.to st.at c.arrow_or_end-mark.result st.lines c.has_arrow-arrow.result c.arrow_or_end-mark.ensures c.has_arrow-arrow.ensures
    c.line_end-end.result c.line_end-end.ensures

pub overflow_add-stop-in-loop-stop : goal.overflow_add-stop-in-loop-stop
overflow_add-stop-in-loop-stop c = omega (arith, inside (goal.at.overflow_add-stop-in-loop-stop c).Else-end-stop)

pub loop-stop-preserved : goal.loop-stop-preserved
loop-stop-preserved c =
    let st = c.loop-stop.stop in
    let in_text = inside (goal.at.loop-stop-preserved c).Else-end-stop in
    record {
      inside = omega arith;
      few = omega (arith, c.arrow_or_end-mark.ensures.begins);
      gives = rw c.after-stop.ensures
          (takes c.args.s.now st.head st.to st.at c.arrow_or_end-mark.result st.lines c.has_arrow-arrow.result c.arrow_or_end-mark.ensures c.has_arrow-arrow.ensures
          c.line_end-end.result c.line_end-end.ensures c.if-end-stop.false (no_stop st.head.left c.has_arrow-arrow.result c.else-arrow.either)
          ∙ c.loop-stop.invariant.gives);
    }
