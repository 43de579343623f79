use Prim.Native.Nat.{ℕ, ◌+◌, ◌≤◌}
use mathlib.Core.Path.{◌≡◌, refl, ap, ◌∙◌}
use mathlib.Core.List.{List, [], ◌∷◌, ◌++◌}
use native.Mathlib.Omega.{arith}
use lib.ListN.{length, get_or, drop, length-append, length-drop}
use lib.Seq.{sets, length-sets}
use Rattle.format.specs.Plain.{to_plain}
use Rattle.format.specs.Answers.{placed}
use Rattle.laws.proofs.Filling.{filled, filled-sets, filled-all}
use Rattle.plain.specs.Pieces.{taken_by, size_of, put_by, Stands}
use Rattle.plain.proofs.PieceLaws.{piece_stands, at_stays, at_end, put_size, stands_size}
use Rattle.plain.proofs.write.Goals as goal
use Rattle.plain.proofs.write.Invariants.{Written}
use Rattle.plain.proofs.write.Goals.{After-piece_at-p}

written_next :
    (s : List ℕ) (room₀ room : List ℕ) (i n : ℕ)
    → length (to_plain s) ≤ length room₀
    → Written s room₀ room i n
    → (o : List ℕ) (j : ℕ)
    → j ≤ length s
    → to_plain (drop i s) ≡ o ++ to_plain (drop j s)
    → Written s room₀ (sets room n o) j (n + length o)
written_next s room₀ room i n fits w o j h e =
    let whole = to_plain s in
    let f = filled-sets whole room₀ fits o n (to_plain (drop j s)) (w.left ∙ e) in
    record {
      inside = h;
      some =
          omega (arith, ap length (w.left ∙ e), length-drop n whole, length-append o (to_plain (drop j s)), w.some);
      left = f.1;
      full = ap (λ r. sets r n o) w.full ∙ f.0;
      kept = length-sets room n o ∙ w.kept;
    }

pub loop-i-init : goal.loop-i-init
loop-i-init c =
    record { inside = omega arith; some = omega arith; left = refl; full = refl; kept = refl }

pub bounds-room-n : goal.bounds-room-n
bounds-room-n c =
    let args = c.args in
    let next = at_stays args.s.now c.loop-i.i (omega arith) (c.stays.ensures c.if-stays.true) in
    omega (arith, ap length (c.loop-i.invariant.left ∙ next), length-drop c.loop-i.n (to_plain args.s.now), c.loop-i.invariant.kept)

pub overflow_add-n : goal.overflow_add-n
overflow_add-n c = omega (arith, c.loop-i.invariant.some)

pub loop-i-preserved-then-stays : goal.loop-i-preserved-then-stays
loop-i-preserved-then-stays c =
    let s = c.args.s.now in
    let next = at_stays s c.loop-i.i (omega arith) (c.stays.ensures c.if-stays.true) in
    written_next s c.args.room.now c.loop-i.room c.loop-i.i c.loop-i.n c.requires c.loop-i.invariant
    (get_or s c.loop-i.i 0 ∷ []) (c.loop-i.i + 1) (omega arith) next

stands : (c : After-piece_at-p) → Stands c.args.s.now c.loop-i.i c.piece_at-p.result
stands c = piece_stands c.args.s.now c.loop-i.i (omega arith) c.piece_at-p.result c.piece_at-p.ensures

-- what the piece becomes has room after what is written
room_for :
    (c : After-piece_at-p)
    → c.loop-i.n + size_of c.piece_at-p.result
    ≤ length c.loop-i.room
room_for c =
    let args = c.args in
    let size = stands_size args.s.now c.loop-i.i c.piece_at-p.result (stands c) in
    let inv = c.loop-i.invariant in
    omega (arith, size, ap length inv.left, length-drop c.loop-i.n (to_plain args.s.now), inv.kept, inv.some)

pub put-requires : goal.put-requires
put-requires c =
    let at = (goal.at.put-requires c).After-piece_at-p in
    omega (arith, (stands at).inside, room_for at)

pub overflow_add-i-else-stays : goal.overflow_add-i-else-stays
overflow_add-i-else-stays c =
    omega (arith, (stands (goal.at.overflow_add-i-else-stays c).After-piece_at-p).inside, c.taken-i.ensures)

pub overflow_add-n-else-stays : goal.overflow_add-n-else-stays
overflow_add-n-else-stays c = omega (arith, room_for (goal.at.overflow_add-n-else-stays c).After-piece_at-p, c.size-n.ensures)

pub loop-i-smaller : goal.loop-i-smaller
loop-i-smaller c =
    let found = stands (goal.at.loop-i-smaller c).After-piece_at-p in
    omega (arith, found.some, found.inside, c.taken-i.ensures)

pub loop-i-preserved : goal.loop-i-preserved
loop-i-preserved c =
    let s = c.args.s.now in
    let p = c.piece_at-p.result in
    let found = stands (goal.at.loop-i-preserved c).After-piece_at-p in
    rw (c.taken-i.ensures, c.size-n.ensures, ← (put_size s c.loop-i.i p found.inside), c.put.ensures)
    (written_next s c.args.room.now c.loop-i.room c.loop-i.i c.loop-i.n c.requires c.loop-i.invariant
    (put_by p (drop c.loop-i.i s)) (c.loop-i.i + taken_by p) found.inside found.text)

pub returns : goal.returns
unfolding placed
returns c =
    let args = c.args in
    let whole = to_plain args.s.now in
    let inv = c.loop-i.invariant in
    let end = at_end args.s.now c.loop-i.i c.loop-i-test.false in
    let all : c.loop-i.n ≡ length whole = omega (arith, ap length (inv.left ∙ end), length-drop c.loop-i.n whole, inv.some) in
    (all, inv.full ∙ ap (filled whole args.room.now) all ∙ filled-all whole args.room.now c.requires)
