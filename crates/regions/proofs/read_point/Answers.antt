use Prim.Native.Nat.{◌+◌, ◌-◌, ◌<◌}
use mathlib.Core.Path.{◌≡◌, sym, ◌∙◌}
use native.Mathlib.Omega.{arith}
use lib.ListN.{length, take, drop}
use Rattle.format.specs.Bytes.{comma}
use Rattle.format.specs.Texts.{before_first}
use Rattle.format.specs.Numbers.{percentage}
use Rattle.format.specs.RegionSettings.{point, point_of}
use Rattle.values.proofs.CutLaws.{front, has-not, has_one, beyond, first-is, upto, before-length}
use Rattle.regions.proofs.read_point.Goals as goal
use Rattle.regions.proofs.read_point.Goals.{After-past-comma, Else-comma-value}

-- where the first comma stands
comma-at : (c : After-past-comma) → let x = c.args.value.now in c.past-comma.result ≡ length (before_first comma x)
comma-at c = first-is comma c.args.value.now c.past-comma.result c.past-comma.ensures

within : (c : Else-comma-value) (at : let x = c.args.value.now in c.past-comma.result ≡ length (before_first comma x)) → c.past-comma.result < length c.args.value.now
within c at = omega (arith, at, before-length comma c.args.value.now)

pub returns-then-comma-value : goal.returns-then-comma-value
unfolding point
returns-then-comma-value c =
    rw (has-not comma c.args.value.now c.past-comma.result (comma-at (goal.at.returns-then-comma-value c).After-past-comma) c.if-comma-value.true)

pub slice_bounds-read_percentage-end : goal.slice_bounds-read_percentage-end
slice_bounds-read_percentage-end c =
    (upto comma c.args.value.now c.past-comma.result c.past-comma.ensures).1

-- the value as two percentages
point-here :
    (c : Else-comma-value) (at : let x = c.args.value.now in c.past-comma.result ≡ length (before_first comma x))
    → let x = c.args.value.now in
    let k = c.past-comma.result in
    point_of (percentage (take k x)) (percentage (take (length x - (k + 1)) (drop (k + 1) x))) ≡ point x
unfolding point
point-here c at =
    let x = c.args.value.now in
    let k = c.past-comma.result in
    rw (has_one comma x k at (within c at), front comma x k at, beyond comma x k at (within c at))

pub returns-in_err-x : goal.returns-in_err-x
unfolding point_of
returns-in_err-x c =
    let at = comma-at (goal.at.returns-in_err-x c).After-past-comma in
    c.from_residual.ensures ∙ rw (sym c.read_percentage.ensures ∙ c.in_err-x.was) at (point-here (goal.at.returns-in_err-x c).Else-comma-value at)

pub overflow_add-comma : goal.overflow_add-comma
overflow_add-comma c = omega (arith, within (goal.at.overflow_add-comma c).Else-comma-value (comma-at (goal.at.overflow_add-comma c).After-past-comma))

pub slice_bounds-read_percentage-count : goal.slice_bounds-read_percentage-count
slice_bounds-read_percentage-count c = omega (arith, within (goal.at.slice_bounds-read_percentage-count c).Else-comma-value (comma-at (goal.at.slice_bounds-read_percentage-count c).After-past-comma))

pub slice_bounds-read_percentage-start : goal.slice_bounds-read_percentage-start
slice_bounds-read_percentage-start c = omega (arith, within (goal.at.slice_bounds-read_percentage-start c).Else-comma-value (comma-at (goal.at.slice_bounds-read_percentage-start c).After-past-comma))

pub returns-in_err-y : goal.returns-in_err-y
unfolding point_of
returns-in_err-y c =
    let at = comma-at (goal.at.returns-in_err-y c).After-past-comma in
    c.from_residual-in_err-y.ensures
    ∙ rw (sym c.read_percentage.ensures ∙ c.in_ok-x.was, sym c.read_percentage-2.ensures ∙ c.in_err-y.was) at (point-here (goal.at.returns-in_err-y c).Else-comma-value at)

pub returns : goal.returns
unfolding point_of
returns c =
    let at = comma-at (goal.at.returns c).After-past-comma in
    rw (sym c.read_percentage.ensures ∙ c.in_ok-x.was, sym c.read_percentage-2.ensures ∙ c.in_ok-y.was) at (point-here (goal.at.returns c).Else-comma-value at)
