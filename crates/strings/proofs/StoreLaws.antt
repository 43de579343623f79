-- Laws of storing bytes: one text after another, and what a room holds in the end.
use Prim.Native.Nat.{ℕ, suc, ◌+◌, ◌≤◌}
use mathlib.Core.Path.{◌≡◌, refl, sym, ap, ◌∙◌}
use mathlib.Core.List.{List, [], ◌∷◌, ◌++◌, append-nil, append_assoc}
use native.Mathlib.Omega.{arith}
use native.Mathlib.Numerals.{add-one}
use lib.ListN.{length, take, drop, set, length-set, length-append}
use lib.Seq.{sets, sets-eq}
use Rattle.strings.specs.Stores.{stored, Stores}

pub stored_append : (at : ℕ) (x y room : List ℕ) → stored at (x ++ y) room ≡ stored (at + length x) y (stored at x room)
unfolding stored
stored_append at [] y room = let e : at ≡ at + 0 = omega arith in ap (λ k. stored k y room) e
stored_append at (b ∷ x) y room =
    let e : at + 1 + length x ≡ at + suc (length x) = omega arith in
    stored_append (at + 1) x y (set room at b) ∙ ap (λ k. stored k y (stored (at + 1) x (set room at b))) e

pub length-stored : (at : ℕ) (x room : List ℕ) → length (stored at x room) ≡ length room
unfolding stored
length-stored at [] room = refl
length-stored at (b ∷ x) room = length-stored (at + 1) x (set room at b) ∙ length-set room at b

stored-sets : (at : ℕ) (x room : List ℕ) → stored at x room ≡ sets room at x
unfolding stored
stored-sets at [] room = refl
stored-sets at (b ∷ x) room = rw (add-one at) (stored-sets (suc at) x (set room at b))

pub stored-within :
    (at : ℕ) (x room : List ℕ) → at + length x ≤ length room → stored at x room ≡ take at room ++ x ++ drop (at + length x) room
stored-within at x room h = stored-sets at x room ∙ sets-eq x room at h

-- nothing, one byte, a text, one text after another, and the same text by another name
pub stores-none : (at : ℕ) (room : List ℕ) → Stores [] at room at room
unfolding stored
stores-none at room = record { place = omega arith; holds = refl }

pub stores_byte : {b at : ℕ} {room after : List ℕ} → after ≡ set room at b → Stores (b ∷ []) at room (at + 1) after
unfolding stored
stores_byte e = record { place = refl; holds = e }

pub stores-text : {x room after : List ℕ} {at : ℕ} → after ≡ sets room at x → Stores x at room (at + length x) after
stores-text {x} {room} {after} {at} e = record { place = refl; holds = e ∙ sym (stored-sets at x room) }

infixl 5 ◌then◌
pub ◌then◌ :
    {x y room r q : List ℕ} {at n m : ℕ} → Stores x at room n r → Stores y n r m q → Stores (x ++ y) at room m q
◌then◌ {x} {y} {room} {r} {q} {at} {n} {m} f g =
    record {
      place = omega (arith, f.place, g.place, length-append x y);
      holds =
          g.holds
          ∙ ap (λ k. stored k y r) f.place
          ∙ ap (stored (at + length x) y) f.holds
          ∙ sym (stored_append at x y room);
    }

pub byte_then : {b : ℕ} {y room r q : List ℕ} {at n m : ℕ} → Stores (b ∷ []) at room n r → Stores y n r m q → Stores (b ∷ y) at room m q
byte_then f g = f then g

pub stores_as : {x y room r : List ℕ} {at n : ℕ} → x ≡ y → Stores x at room n r → Stores y at room n r
stores_as {x} {y} {room} {r} {at} {n} e f = rw (sym e) f

pub stores-length : {x room r : List ℕ} {at n : ℕ} → Stores x at room n r → length r ≡ length room
stores-length {x} {room} {r} {at} {n} f = ap length f.holds ∙ length-stored at x room

-- a text on its way into the room: what has been stored of it, and what is left
pub record Storing (whole rest : List ℕ) (at : ℕ) (room : List ℕ) (n : ℕ) (r : List ℕ) : Type 0 where
  pub done : List ℕ
  pub so_far : Stores done at room n r
  pub whole_is : whole ≡ done ++ rest

pub storing_none : (whole : List ℕ) (at : ℕ) (room : List ℕ) → Storing whole whole at room at room
storing_none whole at room = record { done = []; so_far = stores-none at room; whole_is = refl }

pub storing_next :
    {whole rest x y room r q : List ℕ} {at n m : ℕ}
    → Storing whole rest at room n r
    → rest ≡ x ++ y
    → Stores x n r m q
    → Storing whole y at room m q
storing_next {whole} {rest} {x} {y} {room} {r} {q} {at} {n} {m} f e g =
    record {
      done = f.done ++ x;
      so_far = f.so_far then g;
      whole_is = f.whole_is ∙ ap (λ t. f.done ++ t) e ∙ sym (append_assoc f.done x y);
    }

pub storing_same :
    {whole rest y room r : List ℕ} {at n : ℕ} → Storing whole rest at room n r → rest ≡ y → Storing whole y at room n r
storing_same {whole} {rest} {y} {room} {r} {at} {n} f e = rw (sym e) f

pub storing_end : {whole room r : List ℕ} {at n : ℕ} → Storing whole [] at room n r → Stores whole at room n r
storing_end {whole} {room} {r} {at} {n} f = stores_as (sym (f.whole_is ∙ append-nil f.done)) f.so_far

pub storing_length : {whole rest room r : List ℕ} {at n : ℕ} → Storing whole rest at room n r → length r ≡ length room
storing_length {whole} {rest} {room} {r} {at} {n} f = stores-length f.so_far
