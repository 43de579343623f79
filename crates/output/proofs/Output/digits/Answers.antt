use native.Mathlib.Omega.{arith}
use Prim.Native.Nat.{ℕ, zero, suc, ◌+◌, ◌/◌, ◌%◌, ◌≤◌, ◌<◌, ◌-◌}
use mathlib.Core.Path.{◌≡◌, refl, sym, ap, ◌∙◌}
use mathlib.Core.List.{List, ◌∷◌, ◌++◌, append-nil}
use lib.ListN.{length, take, drop, set, length-set}
use lib.Seq.{slice, slice_empty, take-set-lt, set_split, drop_at, length-take-le, append_snoc}
use Rattle.format.specs.Written.{last_digits}
use Rattle.output.proofs.PutLaws.{puts_as}
use Rattle.output.proofs.Output.digits.Goals as goal

-- a digit stored before a part stands first in it
slice_set : (made : List ℕ) (j k d : ℕ) → j < k → k ≤ length made → slice j k (set made j d) ≡ d ∷ slice (suc j) k made
slice_set made j k d h l =
    let n = length-take-le k made l in
    ap (drop j) (take-set-lt k made j d h ∙ set_split (take k made) j d (omega arith))
    ∙ drop_at (take j (take k made)) (d ∷ slice (suc j) k made) j (length-take-le j (take k made) (omega arith))

-- and what is left has one digit less
one_more_lem :
    (made : List ℕ) (left k rest : ℕ) → 0 < left → left ≤ k → k ≤ length made
    → last_digits left rest ++ slice left k made
    ≡ last_digits (left - 1) (rest / 10) ++ slice (left - 1) k (set made (left - 1) (0x30 + rest % 10))
unfolding last_digits
one_more_lem made zero k rest h l m = absurd (omega arith)
one_more_lem made (suc j) k rest h l m =
    let e : suc j - 1 ≡ j = omega arith in
    rw (e, slice_set made j k (0x30 + rest % 10) (omega arith) m) (append_snoc (last_digits j (rest / 10)) _ _)

pub loop-i-init : goal.loop-i-init
loop-i-init c =
    let k = c.args.k in
    (refl, sym (rw (slice_empty k) (append-nil (last_digits k c.args.n))))

pub loop-i-preserved : goal.loop-i-preserved
loop-i-preserved c =
    let k = c.args.k in
    let made = c.loop-i.made in
    let left = c.loop-i.i in
    let rest = c.loop-i.rest in (
      length-set made (left - 1) (0x30 + rest % 10) ∙ c.loop-i.invariant.0,
      c.loop-i.invariant.1 ∙ one_more_lem made left k rest (omega arith) (omega arith) (omega arith),
    )

pub slice_bounds-bytes-end : goal.slice_bounds-bytes-end
slice_bounds-bytes-end c =
    sym (length-take-le c.args.k c.loop-i.made (omega arith))

pub returns : goal.returns
unfolding last_digits
returns c =
    let k = c.args.k in
    let e : c.loop-i.i ≡ 0 = omega arith in
    puts_as (sym (c.loop-i.invariant.1 ∙ ap (λ j. last_digits j c.loop-i.rest ++ slice j k c.loop-i.made) e)) c.bytes.ensures
