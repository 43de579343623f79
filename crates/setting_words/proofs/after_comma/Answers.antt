use Prim.Native.Nat.{◌<◌}
use mathlib.Core.Path.{◌≡◌}
use native.Mathlib.Omega.{arith}
use lib.ListN.{length}
use Rattle.format.specs.Bytes.{comma}
use Rattle.format.specs.Texts.{before_first}
use Rattle.values.proofs.CutLaws.{has-not, has_one, beyond, first-is, before-length}
use Rattle.setting_words.proofs.after_comma.Goals as goal
use Rattle.setting_words.proofs.after_comma.Goals.{After-past-comma, Else-comma-value}

-- where the first comma stands
comma-at : (c : After-past-comma) → let x = c.args.value.now in c.past-comma.result ≡ length (before_first comma x)
comma-at c = first-is comma c.args.value.now c.past-comma.result c.past-comma.ensures

pub returns-then-comma-value : goal.returns-then-comma-value
returns-then-comma-value c =
    has-not comma c.args.value.now c.past-comma.result (comma-at (goal.at.returns-then-comma-value c).After-past-comma) c.if-comma-value.true

-- there is one
within : (c : Else-comma-value) → (at : let x = c.args.value.now in c.past-comma.result ≡ length (before_first comma x)) → c.past-comma.result < length c.args.value.now
within c at = omega (arith, at, before-length comma c.args.value.now)

pub overflow_add-result : goal.overflow_add-result
overflow_add-result c = omega (arith, within (goal.at.overflow_add-result c).Else-comma-value (comma-at (goal.at.overflow_add-result c).After-past-comma))

pub slice_bounds-result-count : goal.slice_bounds-result-count
slice_bounds-result-count c = omega (arith, within (goal.at.slice_bounds-result-count c).Else-comma-value (comma-at (goal.at.slice_bounds-result-count c).After-past-comma))

pub slice_bounds-result-start : goal.slice_bounds-result-start
slice_bounds-result-start c = omega (arith, within (goal.at.slice_bounds-result-start c).Else-comma-value (comma-at (goal.at.slice_bounds-result-start c).After-past-comma))

pub returns : goal.returns
returns c =
    let x = c.args.value.now in
    let k = c.past-comma.result in
    let at = comma-at (goal.at.returns c).After-past-comma in
    let l = within (goal.at.returns c).Else-comma-value at in
    (has_one comma x k at l, beyond comma x k at l)
