use native.Mathlib.Omega.{arith}
use Prim.Native.Nat.{ℕ, zero, suc, ◌+◌, ◌-◌, ◌≤◌, min}
use mathlib.Core.Path.{◌≡◌, refl, sym, ap, ◌∙◌}
use mathlib.Core.List.{List, [], ◌∷◌, ◌++◌, append_assoc}
use lib.ListN.{length, take, drop, set, length-set}
use lib.Seq.{sets, sets-eq, length-take-le}
use borrow.Rule.Slice.PartMut.{Post-is, put_mid}
use Rattle.output.proofs.PutLaws.{sets_outside}
use Rattle.output.proofs.store_text.Goals as goal

-- what of a text goes beyond the room's end is not stored
sets-fits : (k : ℕ) (x l : List ℕ) (i : ℕ) → k ≡ min (length x) (length l - i) → sets l i (take k x) ≡ sets l i x
sets-fits zero [] l i e = refl
sets-fits zero (b ∷ x) l i e = sym (sets_outside l i (b ∷ x) (omega arith))
sets-fits (suc k) [] l i e = refl
sets-fits (suc k) (b ∷ x) l i e = sets-fits k x (set l i b) (suc i) (omega (arith, length-set l i b))

-- and a text in the place of as many bytes of the room is stored there
mid-sets : (x l : List ℕ) (at to : ℕ) → to ≡ at + length x → to ≤ length l → put_mid at (to - at) l x ≡ sets l at x
mid-sets x l at to e h =
    sym (append_assoc (take at l) _ _)
    ∙ ap (λ r. take at l ++ x ++ r) (Post-is at to l (omega arith) ∙ ap (λ k. drop k l) e)
    ∙ sym (sets-eq x l at (omega arith))

pub returns-then-room-at : goal.returns-then-room-at
returns-then-room-at c = let args = c.args in sym (sets_outside args.room.now args.at args.s.now (omega arith))

pub returns-then-s-fits : goal.returns-then-s-fits
returns-then-s-fits c =
    let args = c.args in
    let s = args.s.now in
    let room = args.room.now in
    let to = args.at + length s in
    ap (put_mid args.at (to - args.at) room) c.copy.ensures ∙ mid-sets s room args.at to refl (omega arith)

pub returns : goal.returns
returns c =
    let args = c.args in
    let s = args.s.now in
    let room = args.room.now in
    let fits = length room - args.at in
    let part : length (take fits s) ≡ fits = length-take-le fits s (omega arith) in
    ap (put_mid args.at fits room) c.copy-2.ensures
    ∙ mid-sets (take fits s) room args.at (length room) (omega arith) (omega arith)
    ∙ sets-fits fits s room args.at (omega arith)
