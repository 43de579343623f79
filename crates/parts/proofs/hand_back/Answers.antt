use Prim.Native.Nat.{◌≤◌}
use mathlib.Core.Path.{◌≡◌, sym, ◌∙◌}
use mathlib.Core.Bool.{true}
use mathlib.Core.List.{[]}
use lib.ListN.{length, get_or}
use borrow.Author.Tests.{lt-ltb}
use Rattle.format.specs.Writable.{cue_test1}
use Rattle.format.specs.Texts.{bytes_at}
use Rattle.parts.proofs.PartLaws.{place_inside, none_such, not_writable, handed}
use Rattle.parts.proofs.hand_back.Goals as goal
use Rattle.parts.proofs.hand_back.Goals.{After-place_of-place, Else-not-test_1}

pub returns-then-cues-number : goal.returns-then-cues-number
returns-then-cues-number c = let a = c.args in sym (none_such a.text.now a.cues.now a.number a.wanted c.if-cues-number.true)

pub returns-then-not-test_1 : goal.returns-then-not-test_1
returns-then-not-test_1 c =
    let a = c.args in
    sym
    (not_writable a.text.now a.cues.now a.number a.wanted (lt-ltb a.number (length a.cues.now) c.if-cues-number.false)
    (sym c.test_1.ensures ∙ c.if-not-test_1.true))

-- the cue passes, and the place is inside the text
passes : (c : Else-not-test_1) → let a = c.args in cue_test1 a.text.now (get_or a.cues.now a.number []) ≡ true
passes c = sym c.test_1.ensures ∙ c.if-not-test_1.false

inside :
    (c : After-place_of-place) (from_passes : let a = c.args in cue_test1 a.text.now (get_or a.cues.now a.number []) ≡ true)
    → (c.place_of-place.result.from ≤ c.place_of-place.result.to) × (c.place_of-place.result.to ≤ length c.args.text.now)
inside c from_passes =
    let a = c.args in
    rw c.place_of-place.ensures (place_inside a.text.now (get_or a.cues.now a.number []) a.wanted from_passes)

pub slice_bounds-result-count : goal.slice_bounds-result-count
slice_bounds-result-count c = (inside (goal.at.slice_bounds-result-count c).After-place_of-place (passes (goal.at.slice_bounds-result-count c).Else-not-test_1)).0

pub slice_bounds-result-start : goal.slice_bounds-result-start
slice_bounds-result-start c = (inside (goal.at.slice_bounds-result-start c).After-place_of-place (passes (goal.at.slice_bounds-result-start c).Else-not-test_1)).0

pub slice_bounds-result-end-2 : goal.slice_bounds-result-end-2
slice_bounds-result-end-2 c = (inside (goal.at.slice_bounds-result-end-2 c).After-place_of-place (passes (goal.at.slice_bounds-result-end-2 c).Else-not-test_1)).1

pub returns : goal.returns
unfolding bytes_at
returns c =
    let a = c.args in
    rw c.place_of-place.ensures
    (sym (handed a.text.now a.cues.now a.number a.wanted (lt-ltb a.number (length a.cues.now) c.if-cues-number.false) (passes (goal.at.returns c).Else-not-test_1)))
