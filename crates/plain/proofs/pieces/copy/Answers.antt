use Prim.Native.Nat.{◌+◌, ◌<◌}
use mathlib.Core.Path.{◌≡◌, sym, ap, ◌∙◌}
use native.Mathlib.Numerals.{add-one}
use native.Mathlib.Omega.{arith}
use lib.ListN.{length, get_or, take, drop, set, length-drop}
use lib.Seq.{paste, paste-suc, get_or-drop, sets-eq, length-take-le}
use Rattle.plain.proofs.pieces.copy.Goals as goal

pub loop-i-preserved : goal.loop-i-preserved
loop-i-preserved c =
    let args = c.args in
    let i = c.loop-i.i in
    let from = drop args.at args.s.now in
    let k : i < length from = omega (arith, length-drop args.at args.s.now) in
    ap (λ r. set r (args.to + i) (get_or args.s.now (args.at + i) 0)) c.loop-i.invariant
    ∙ rw (add-one i, ← (get_or-drop args.at args.s.now i 0)) (paste-suc args.room.now args.to from i 0 (omega arith) k)

pub returns : goal.returns
returns c =
    let args = c.args in
    let from = drop args.at args.s.now in
    let e : c.loop-i.i ≡ args.n = omega arith in
    let l : length (take args.n from) ≡ args.n = length-take-le args.n from (omega (arith, length-drop args.at args.s.now)) in
    c.loop-i.invariant
    ∙ ap (paste args.room.now args.to from) e
    ∙ sym (sets-eq (take args.n from) args.room.now args.to (omega arith) ∙ rw l)
