-- Lent room that is filled from its start with a list, piece by piece: what a loop that writes bytes, or rows, has done after n of them.
use Prim.Native.Nat.{ℕ, suc, ◌+◌, ◌≤◌, ◌<◌}
use mathlib.Core.Path.{◌≡◌, refl, sym, ap, ◌∙◌}
use mathlib.Core.List.{List, [], ◌∷◌, ◌++◌}
use native.Mathlib.Nat.{add-zero}
use native.Mathlib.Omega.{arith}
use lib.ListN.{length, get_or, take, drop, set, length-append, length-drop}
use lib.Seq.{take-suc, drop-cons, append_snoc, set_at, sets, take-length, take_at, length-take-le}

module _ {ℓ} {A : Type ℓ} (whole room : List A) where
  -- the first n of the whole, and the room's own rest
  abbrev pub filled : ℕ → List A
  filled n = take n whole ++ drop n room

  module _ (fits : length whole ≤ length room) where
    pub filled-set :
        (n : ℕ) (a : A) (r : List A)
        → drop n whole ≡ a ∷ r
        → (set (filled n) n a ≡ filled (suc n)) × (drop (suc n) whole ≡ r)
    filled-set n a r e =
        let l : n < length whole = omega (arith, ap length e, length-drop n whole) in
        let f : get_or whole n a ∷ drop (suc n) whole ≡ a ∷ r = sym (drop-cons whole n a l) ∙ e in
        let same : get_or whole n a ≡ a = cc in (
          rw (drop-cons room n a (omega arith), take-suc whole n a l, same)
              (set_at (take n whole) (get_or room n a) (drop (suc n) room) a n (length-take-le n whole (omega arith))
              ∙ sym (append_snoc (take n whole) a (drop (suc n) room))),
          cc,
        )

    -- a piece of the whole is stored after what is there
    pub filled-sets :
        (o : List A) (n : ℕ) (r : List A)
        → drop n whole ≡ o ++ r
        → (sets (filled n) n o ≡ filled (n + length o)) × (drop (n + length o) whole ≡ r)
    filled-sets [] n r e = rw (add-zero n) (refl, e)
    filled-sets (a ∷ o) n r e =
        let s = filled-set n a (o ++ r) e in
        let t = filled-sets o (suc n) r s.1 in
        let k : n + suc (length o) ≡ suc n + length o = omega arith in
        rw (k, s.0) t

    pub filled-length : (n : ℕ) → n ≤ length whole → length (filled n) ≡ length room
    filled-length n l =
        omega (arith, length-append (take n whole) (drop n room), length-take-le n whole l, length-drop n room)

    pub filled-all : filled (length whole) ≡ whole ++ drop (length whole) room
    filled-all = rw (take-length whole)

-- a table that is filled one row after the other: n rows are stored, and these are left
pub record Fills {ℓ} {A : Type ℓ} (whole room₀ room left : List A) (n : ℕ) : Type ℓ where
  pub full : room ≡ filled whole room₀ n
  pub most : n ≤ length whole
  pub rest : drop n whole ≡ left

module _ {ℓ} {A : Type ℓ} (whole room₀ : List A) where
  pub fills_start : Fills whole room₀ room₀ whole 0
  fills_start = record { full = refl; most = omega arith; rest = refl }

  module _ (fits : length whole ≤ length room₀) (room : List A) (n : ℕ) where
    pub fills_room : (left : List A) → Fills whole room₀ room left n → length room ≡ length room₀
    fills_room left f = ap length f.full ∙ filled-length whole room₀ fits n f.most

    pub fills_some : (a : A) (left : List A) → Fills whole room₀ room (a ∷ left) n → n < length whole
    fills_some a left f = omega (arith, ap length f.rest, length-drop n whole)

    pub fills_next : (a : A) (left : List A) → Fills whole room₀ room (a ∷ left) n → Fills whole room₀ (set room n a) left (n + 1)
    fills_next a left f =
        let s = filled-set whole room₀ fits n a left f.rest in
        let e : n + 1 ≡ suc n = omega arith in
        record {
          full = ap (λ r. set r n a) f.full ∙ s.0 ∙ ap (filled whole room₀) (sym e);
          most = omega (arith, fills_some a left f);
          rest = ap (λ k. drop k whole) e ∙ s.1;
        }

    pub fills_all : Fills whole room₀ room [] n → n ≡ length whole
    fills_all f = omega (arith, ap length f.rest, length-drop n whole, f.most)

    pub fills_end : Fills whole room₀ room [] n → room ≡ whole ++ drop (length whole) room₀
    fills_end f = f.full ∙ ap (filled whole room₀) (fills_all f) ∙ filled-all whole room₀ fits

    -- the rows stored so far
    pub fills_front : (left : List A) → Fills whole room₀ room left n → take n room ≡ take n whole
    fills_front left f = ap (take n) f.full ∙ take_at (take n whole) (drop n room₀) n (length-take-le n whole f.most)
