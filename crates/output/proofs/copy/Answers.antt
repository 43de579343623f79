use native.Mathlib.Omega.{arith}
use Prim.Native.Nat.{ℕ, ◌+◌, ◌<◌}
use mathlib.Core.Path.{◌≡◌, refl, sym, ap, ◌∙◌}
use mathlib.Core.List.{List, ◌++◌, append-nil}
use native.Mathlib.Numerals.{add-one}
use lib.ListN.{length, take, drop, get_or, set, length-set, drop_of_length-le}
use lib.Seq.{take_all, take-suc, drop-cons, length-take-le, set_at, append_snoc}
use Rattle.output.proofs.copy.Goals as goal

-- `output::copy` meets its contract.
-- one byte more of s stands at the room's start
one_more_lem :
    (s room : List ℕ) (i : ℕ) → i < length s → i < length room
    → set (take i s ++ drop i room) i (get_or s i 0) ≡ take (i + 1) s ++ drop (i + 1) room
one_more_lem s room i h l =
    rw (add-one i, take-suc s i 0 h, drop-cons room i 0 l, append_snoc) (set_at (take i s) _ _ _ i (length-take-le i s (omega arith)))

pub loop-i-init : goal.loop-i-init
loop-i-init c = (sym c.requires, refl)

pub loop-i-preserved : goal.loop-i-preserved
loop-i-preserved c =
    let args = c.args in
    let s = args.s.now in
    let i = c.loop-i.i in (
      length-set c.loop-i.room i (get_or s i 0) ∙ c.loop-i.invariant.0,
      ap (λ r. set r i (get_or s i 0)) c.loop-i.invariant.1 ∙ one_more_lem s args.room.now i (omega arith) (omega arith),
    )

pub returns : goal.returns
returns c =
    let args = c.args in
    let s = args.s.now in
    let i = c.loop-i.i in
    c.loop-i.invariant.1 ∙ rw (take_all i s (omega arith), drop_of_length-le args.room.now {i = i} (omega arith)) (append-nil s)
