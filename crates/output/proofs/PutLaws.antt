-- Laws of putting bytes: one text after another, and what a room holds in the end.
use Prim.Native.Nat.{ℕ, suc, ◌+◌, ◌≤◌, ◌<◌}
use mathlib.Core.Path.{◌≡◌, refl, sym, ap, ◌∙◌}
use mathlib.Core.List.{List, [], ◌∷◌, ◌++◌}
use native.Mathlib.Omega.{arith}
use lib.Dec.{ltb}
use lib.ListN.{length, drop, set, length-set}
use lib.Seq.{sets, sets-eq, set_out}
use borrow.Author.Tests.{lt-ltb, le-ltb, ltb-true, ltb-false}
use Rattle.format.specs.Limits.{max_file}
use Rattle.format.specs.Answers.{placed}
use Rattle.laws.proofs.Tests.{by-test}
use Rattle.output.specs.declared.Output.{Output}
use Rattle.output.specs.Puts.{onward, place_after, room_with, Puts}

pub place_append : (at : ℕ) (x y : List ℕ) → place_after at (x ++ y) ≡ place_after (place_after at x) y
unfolding place_after
place_append at [] y = refl
place_append at (b ∷ x) y = place_append (onward at) x y

pub room_append :
    (at : ℕ) (x y out : List ℕ) → room_with at (x ++ y) out ≡ room_with (place_after at x) y (room_with at x out)
unfolding place_after room_with
room_append at [] y out = refl
room_append at (b ∷ x) y out = room_append (onward at) x y (set out at b)

pub length-room : (at : ℕ) (x out : List ℕ) → length (room_with at x out) ≡ length out
unfolding room_with
length-room at [] out = refl
length-room at (b ∷ x) out = length-room (onward at) x (set out at b) ∙ length-set out at b

-- one byte, below the greatest length of a file and above it
pub onward-within : (at : ℕ) → at ≤ max_file → onward at ≡ at + 1
unfolding onward
onward-within at h = rw (le-ltb max_file at h) refl

pub onward-above : (at : ℕ) → max_file < at → onward at ≡ at
unfolding onward
onward-above at h = rw (lt-ltb max_file at h) refl

-- one byte stored at the place
pub puts_within :
    {b : ℕ} {out mid : Output} → mid.room.now ≡ set out.room.now out.at b → mid.room.ghost_name ≡ out.room.ghost_name → mid.at ≡ out.at
    → mid.at ≤ max_file → Puts (b ∷ []) out (record { room = mid.room; at = mid.at + 1 })
unfolding place_after room_with
puts_within {b} {out} {mid} e l a h =
    record { place = ap (λ k. k + 1) a ∙ sym (onward-within out.at (omega arith)); holds = e; lent = l }

pub puts_above :
    {b : ℕ} {out mid : Output} → mid.room.now ≡ set out.room.now out.at b → mid.room.ghost_name ≡ out.room.ghost_name → mid.at ≡ out.at
    → max_file < mid.at → Puts (b ∷ []) out mid
unfolding place_after room_with
puts_above {b} {out} {mid} e l a h = record { place = a ∙ sym (onward-above out.at (omega arith)); holds = e; lent = l }

-- nothing, one text after another, and the same text by another name
pub puts_none : (out : Output) → Puts [] out out
unfolding place_after room_with
puts_none out = record { place = refl; holds = refl; lent = refl }

infixl 5 ◌then◌
pub ◌then◌ : {x y : List ℕ} {out next end : Output} → Puts x out next → Puts y next end → Puts (x ++ y) out end
◌then◌ {x} {y} {out} {next} {end} f g =
    let before = out.room.now in
    record {
      place = g.place ∙ ap (λ k. place_after k y) f.place ∙ sym (place_append out.at x y);
      holds =
          g.holds
          ∙ ap (λ k. room_with k y next.room.now) f.place
          ∙ ap (room_with (place_after out.at x) y) f.holds
          ∙ sym (room_append out.at x y before);
      lent = g.lent ∙ f.lent;
    }

pub byte_then : {b : ℕ} {y : List ℕ} {out next end : Output} → Puts (b ∷ []) out next → Puts y next end → Puts (b ∷ y) out end
byte_then f g = f then g

pub puts_as : {x y : List ℕ} {out next : Output} → x ≡ y → Puts x out next → Puts y out next
puts_as e f = rw (sym e) f

pub puts_from : {x : List ℕ} {out mid end : Output} → mid ≡ out → Puts x mid end → Puts x out end
puts_from e f = rw (sym e) f

-- while no place is above the greatest length of a file, the places are counted and the bytes stand one after another
pub place-within : (at : ℕ) (x : List ℕ) → at + length x ≤ max_file + 1 → place_after at x ≡ at + length x
unfolding place_after
place-within at [] h = omega arith
place-within at (b ∷ x) h =
    let e = onward-within at (omega arith) in
    ap (λ k. place_after k x) e ∙ place-within (at + 1) x (omega arith) ∙ omega arith

pub room_within : (at : ℕ) (x out : List ℕ) → at + length x ≤ max_file + 1 → room_with at x out ≡ sets out at x
unfolding room_with
room_within at [] out h = refl
room_within at (b ∷ x) out h =
    let e : onward at ≡ suc at = rw (onward-within at (omega arith)) (omega arith) in
    ap (λ k. room_with k x (set out at b)) e ∙ room_within (suc at) x (set out at b) (omega arith)

-- else the place is held above it
pub place-held : (at : ℕ) (x : List ℕ) → max_file < at → place_after at x ≡ at
unfolding place_after
place-held at [] h = refl
place-held at (b ∷ x) h = ap (λ k. place_after k x) (onward-above at h) ∙ place-held at x h

pub place-above : (at : ℕ) (x : List ℕ) → at ≤ max_file → max_file < at + length x → place_after at x ≡ max_file + 1
unfolding place_after
place-above at [] l h = omega arith
place-above at (b ∷ x) l h =
    ap (λ k. place_after k x) (onward-within at l)
    ∙ by-test (ltb max_file (at + 1))
    (λ above. let a = ltb-true max_file (at + 1) above in place-held (at + 1) x a ∙ omega arith)
    (λ below. place-above (at + 1) x (ltb-false max_file (at + 1) below) (omega arith))

-- a text that begins outside the room is only counted
onward_least : (at : ℕ) → at ≤ onward at
onward_least at =
    by-test (ltb max_file at)
    (λ above. omega (arith, onward-above at (ltb-true max_file at above)))
    (λ below. omega (arith, onward-within at (ltb-false max_file at below)))

pub room_outside : (at : ℕ) (x out : List ℕ) → length out ≤ at → room_with at x out ≡ out
unfolding room_with
room_outside at [] out h = refl
room_outside at (b ∷ x) out h =
    ap (room_with (onward at) x) (set_out out at b h) ∙ room_outside (onward at) x out (omega (arith, onward_least at))

pub sets_outside : (l : List ℕ) (i : ℕ) (x : List ℕ) → length l ≤ i → sets l i x ≡ l
sets_outside l i [] h = refl
sets_outside l i (b ∷ x) h = ap (λ r. sets r (suc i) x) (set_out l i b h) ∙ sets_outside l (suc i) x (omega arith)

-- a text put from the start stands there
pub filled : (x room : List ℕ) → length x ≤ max_file → length x ≤ length room → room_with 0 x room ≡ placed x room
unfolding placed
filled x room h r =
    let e : 0 + length x ≡ length x = omega arith in
    room_within 0 x room (omega arith) ∙ sets-eq x room 0 (omega arith) ∙ ap (λ k. x ++ drop k room) e

-- what was put from the start: its length is told exactly unless it is above the greatest length of a file, and then that is told
module _ {x : List ℕ} {out end : Output} (f : Puts x out end) (start : out.at ≡ 0) where
  from : end.at ≡ place_after 0 x
  from = f.place ∙ ap (λ k. place_after k x) start

  pub measured : length x ≤ max_file → end.at ≡ length x
  measured h = omega (arith, from, place-within 0 x (omega arith))

  pub measured-above : max_file < length x → max_file < end.at
  measured-above h = omega (arith, from, place-above 0 x (omega arith) (omega arith))

  -- and the room holds it at its start
  pub stands : length x ≤ max_file → length x ≤ length out.room.now → end.room.now ≡ placed x out.room.now
  stands h r = f.holds ∙ ap (λ k. room_with k x out.room.now) start ∙ filled x out.room.now h r
