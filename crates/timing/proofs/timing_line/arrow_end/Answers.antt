use mathlib.Core.Path.{◌≡◌, sym, ◌∙◌}
use native.Mathlib.Omega.{arith}
use Prim.Native.Nat.{ℕ, ◌+◌, ◌<◌}
use mathlib.Core.Bool.{true, false≢true}
use mathlib.Core.List.{List, [], ◌∷◌}
use lib.Dec.{ltb}
use lib.ListN.{length, drop, drop_of_length-le}
use borrow.Author.Tests.{not-true, not-false, ltb-true, ltb-false}
use Rattle.format.specs.Bytes.{hyphen, greater}
use Rattle.format.specs.Texts.{starts_with}
use Rattle.laws.proofs.Tests.{by-test}
use Rattle.values.proofs.StepLaws.{place_is}
use Rattle.timing.proofs.LineLaws.{arrow-first, arrow-second, arrow_third, arrow-here}
use Rattle.timing.proofs.timing_line.arrow_end.Goals as goal
use Rattle.timing.proofs.timing_line.arrow_end.Goals.{After-is_at, Else-not-is_at, Else-not-is_at-2}

-- `timing::timing_line::arrow_end` meets its contract.
-- a character stands at a place only within the text
within : (c : ℕ) (s : List ℕ) (at : ℕ) → starts_with (c ∷ []) (drop at s) ≡ true → at < length s
unfolding starts_with
within c s at e =
    by-test (ltb at (length s))
    (λ y. ltb-true at (length s) y)
    (λ n. absurd (false≢true (rw (drop_of_length-le s (ltb-false at (length s) n)) at e)))

-- what the three tests found
first : (c : After-is_at) → let args = c.args in c.is_at.result ≡ starts_with (hyphen ∷ []) (drop args.at args.s.now)
first c = c.is_at.ensures

here : (c : Else-not-is_at) (from_first : let args = c.args in c.is_at.result ≡ starts_with (hyphen ∷ []) (drop args.at args.s.now)) → let args = c.args in starts_with (hyphen ∷ []) (drop args.at args.s.now) ≡ true
here c from_first = sym from_first ∙ not-false _ c.if-not-is_at.false-raw

second : (c : Else-not-is_at-2) → let args = c.args in starts_with (hyphen ∷ []) (drop (args.at + 1) args.s.now) ≡ true
second c = sym c.is_at-2.ensures ∙ not-false _ c.if-not-is_at-2.false-raw

pub returns-then-not-is_at : goal.returns-then-not-is_at
returns-then-not-is_at c =
    let args = c.args in
    let s = args.s.now in
    let missing = arrow-first s args.at (sym (first (goal.at.returns-then-not-is_at c).After-is_at) ∙ not-true _ c.if-not-is_at.true-raw) in
    c.no_arrow.ensures ∙ rw (missing, place_is s args.at (omega arith))

pub returns-then-not-is_at-2 : goal.returns-then-not-is_at-2
returns-then-not-is_at-2 c =
    let args = c.args in
    let s = args.s.now in
    let missing = arrow-second s args.at (here (goal.at.returns-then-not-is_at-2 c).Else-not-is_at (first (goal.at.returns-then-not-is_at-2 c).After-is_at)) (sym c.is_at-2.ensures ∙ not-true _ c.if-not-is_at-2.true-raw) in
    c.no_arrow-then-not-is_at-2.ensures ∙ rw (missing, place_is s (args.at + 1) (omega (arith, within hyphen s args.at (here (goal.at.returns-then-not-is_at-2 c).Else-not-is_at (first (goal.at.returns-then-not-is_at-2 c).After-is_at)))))

pub returns-then-not-is_at-3 : goal.returns-then-not-is_at-3
returns-then-not-is_at-3 c =
    let args = c.args in
    let s = args.s.now in
    let missing = arrow_third s args.at (here (goal.at.returns-then-not-is_at-3 c).Else-not-is_at (first (goal.at.returns-then-not-is_at-3 c).After-is_at)) (second (goal.at.returns-then-not-is_at-3 c).Else-not-is_at-2) (sym c.is_at-3.ensures ∙ not-true _ c.if-not-is_at-3.true-raw) in
    c.no_arrow-then-not-is_at-3.ensures ∙ rw (missing, place_is s (args.at + 2) (omega (arith, within hyphen s (args.at + 1) (second (goal.at.returns-then-not-is_at-3 c).Else-not-is_at-2))))

pub returns : goal.returns
returns c =
    let args = c.args in
    let s = args.s.now in
    let third = sym c.is_at-3.ensures ∙ not-false _ c.if-not-is_at-3.false-raw in
    rw (arrow-here s args.at (here (goal.at.returns c).Else-not-is_at (first (goal.at.returns c).After-is_at)) (second (goal.at.returns c).Else-not-is_at-2) third, place_is s (args.at + 3) (omega (arith, within greater s (args.at + 2) third)))
