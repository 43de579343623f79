use Prim.Native.Nat.{ℕ, suc, ◌+◌, ◌-◌, ◌<◌}
use mathlib.Core.Path.{◌≡◌, refl, sym, ap, ◌∙◌}
use mathlib.Core.List.{List, [], ◌∷◌}
use native.Mathlib.Omega.{arith}
use lib.ListN.{get_or}
use Rattle.format.specs.Bytes.{tab}
use Rattle.laws.proofs.Parted.{parts_from, PartHere, part-here, parts-start, parts-end}
use Rattle.fields.proofs.nth.Goals as goal
use Rattle.fields.proofs.nth.Goals.{After-past-at, After-past-end}

-- an element after the first
after_first : (x : List ℕ) (xs : List (List ℕ)) (k i : ℕ) → i < k → get_or (x ∷ xs) (k - i) [] ≡ get_or xs (k - (i + 1)) []
after_first x xs k i l = let e : k - i ≡ suc (k - (i + 1)) = omega arith in rw e refl

-- the field that stands at `at`
passed :
    (c : After-past-at)
    → let s = c.args.line.now in PartHere tab s c.loop.at c.past-at.result
passed c = part-here tab c.args.line.now c.loop.at c.past-at.result (omega arith) c.past-at.ensures

-- the fields after it
left :
    (c : After-past-at)
    → get_or (parts_from tab c.args.line.now (c.past-at.result + 1)) (c.args.k - (c.loop.counter + 1)) []
    ≡ get_or (parts_from tab c.args.line.now c.loop.at) (c.args.k - c.loop.counter) []
left c = sym (ap (λ fs. get_or fs (c.args.k - c.loop.counter) []) (passed c).parts ∙ after_first _ _ c.args.k c.loop.counter (omega arith))

found :
    (c : After-past-end)
    → let s = c.args.line.now in PartHere tab s c.loop.at c.past-end.result
found c = part-here tab c.args.line.now c.loop.at c.past-end.result (omega arith) c.past-end.ensures

pub loop-init : goal.loop-init
loop-init c =
    let e : c.args.k - 0 ≡ c.args.k = omega arith in
    (omega arith, rw e (ap (λ fs. get_or fs c.args.k []) (parts-start tab c.args.line.now)))

pub overflow_add-at : goal.overflow_add-at
overflow_add-at c = omega (arith, (passed (goal.at.overflow_add-at c).After-past-at).inside)

pub returns-then-line-at : goal.returns-then-line-at
returns-then-line-at c =
    let none = parts-end tab c.args.line.now (c.past-at.result + 1) (omega arith) in
    sym (ap (λ fs. get_or fs (c.args.k - (c.loop.counter + 1)) []) none) ∙ left (goal.at.returns-then-line-at c).After-past-at ∙ c.loop.invariant.1

pub loop-preserved : goal.loop-preserved
loop-preserved c = (omega arith, left (goal.at.loop-preserved c).After-past-at ∙ c.loop.invariant.1)

pub slice_bounds-result-end-2 : goal.slice_bounds-result-end-2
slice_bounds-result-end-2 c = (found (goal.at.slice_bounds-result-end-2 c).After-past-end).inside

pub returns : goal.returns
returns c =
    let here = found (goal.at.returns c).After-past-end in
    let e : c.args.k - c.loop.counter ≡ 0 = omega arith in
    sym (ap (λ k. get_or (parts_from tab c.args.line.now c.loop.at) k []) e ∙ ap (λ fs. get_or fs 0 []) here.parts) ∙ c.loop.invariant.1
