-- The look-up of a region from the last record to the first finds the last region of that name, and sees the records from it on.
use Prim.Native.Nat.{ℕ, suc, ◌+◌, ◌-◌, ◌<◌}
use mathlib.Core.Path.{◌≡◌, refl, ap, ◌∙◌}
use mathlib.Core.Bool.{Bool, true, false, cond}
use mathlib.Core.List.{List, [], ◌∷◌, ◌++◌, reverse, reverse-cons, reverse-append, reverse-reverse}
use Rattle.std.specs.Prelude.{Option, None, Some}
use native.Mathlib.Omega.{arith}
use lib.Dec.{ltb}
use lib.ListN.{length, take, get_or, length-append, length-reverse, get_or-append}
use lib.Seq.{take-suc, take_all, length-take-le, get_or-append_seam}
use borrow.Author.Tests.{ltb-true, ltb-false}
use Rattle.format.specs.Texts.{same}
use Rattle.format.specs.RegionSettings.{later_or, last_named}
use Rattle.format.specs.LookingUp.{one_more, look_up_back, look_up, LastAt, Last}
use Rattle.format.specs.declared.RegionFound.{RegionFound}
use Rattle.laws.proofs.Tests.{by-test}
use Rattle.laws.proofs.Runs.{same-is}

later-cond : (t : Bool) (n : ℕ) (o p : Option ℕ) → later_or (cond t (Some n) o) p ≡ cond t (Some n) (later_or o p)
unfolding later_or
later-cond true n o p = refl
later-cond false n o p = refl

-- with one identifier more: it is the one, or the answer is as before
named_snoc :
    (k : ℕ) (x id : List ℕ) (ids : List (List ℕ))
    → last_named k x (ids ++ id ∷ []) ≡ cond (same id x) (Some (k + length ids)) (last_named k x ids)
unfolding last_named later_or
named_snoc k x id [] = let n : k + 0 ≡ k = omega arith in rw n refl
named_snoc k x id (y ∷ ids) =
    let n : k + 1 + length ids ≡ k + suc (length ids) = omega arith in
    let first = cond (same y x) (Some k) None in
    ap (λ o. later_or o first) (named_snoc (k + 1) x id ids)
    ∙ later-cond (same id x) (k + 1 + length ids) (last_named (k + 1) x ids) first
    ∙ rw n refl

-- what is found in the records from the last to the first is the last of that name
back_named : (x : List ℕ) (r : List (List ℕ)) → (look_up_back x r).index ≡ (last_named 0 x (reverse r))
unfolding look_up_back last_named
back_named x [] = refl
back_named x (id ∷ r) =
    let size : 0 + length (reverse r) ≡ length r = omega (arith, length-reverse r) in
    by-test (same id x)
    (λ y. rw (reverse-cons id r, named_snoc 0 x id (reverse r), y, size) refl)
    (λ n. rw (reverse-cons id r, named_snoc 0 x id (reverse r), n) (back_named x r))

-- "from the end" and "the last": the index that is found is that of the last region of this name
pub look_up-named : (x : List ℕ) (ids : List (List ℕ)) → (look_up x ids).index ≡ (last_named 0 x ids)
unfolding look_up
look_up-named x ids = back_named x (reverse ids) ∙ ap (λ l. (last_named 0 x l)) (reverse-reverse ids)

-- with one record more at the end: it is the one, and alone is seen; or the answer is as before, and it was seen too
look_up_snoc :
    (x id : List ℕ) (ids : List (List ℕ))
    → look_up x (ids ++ id ∷ []) ≡ cond (same id x) (record { index = Some (length ids); seen = 1 }) (one_more (look_up x ids))
unfolding look_up look_up_back
look_up_snoc x id ids =
    ap (look_up_back x) (reverse-append ids (id ∷ []))
    ∙ ap (λ n. cond (same id x) (record { index = Some n; seen = 1 }) (one_more (look_up_back x (reverse ids)))) (length-reverse ids)

-- k records more were seen
abbrev pub more : ℕ → RegionFound → RegionFound
more k f = record { index = f.index; seen = k + f.seen }

-- a walk from the end, of n records: those before i are left, and the others were seen
module _ (x : List ℕ) (ids : List (List ℕ)) (n : ℕ) (count : n ≡ length ids) where
  pub look_up-start : more (n - n) (look_up x (take n ids)) ≡ look_up x ids
  look_up-start =
      let none : n - n + (look_up x ids).seen ≡ (look_up x ids).seen = omega arith in
      rw (take_all n ids (omega arith), none)

  -- the record at i is the one, or those before it are left
  pub look_up_turn :
      (i : ℕ)
      → i < n
      → more (n - (i + 1)) (look_up x (take (i + 1) ids))
      ≡ cond (same (get_or ids i []) x) (record { index = Some i; seen = n - i }) (more (n - i) (look_up x (take i ids)))
  look_up_turn i h =
      let id = get_or ids i [] in
      let before = look_up x (take i ids) in
      let next : i + 1 ≡ suc i = omega arith in
      let one : n - (i + 1) + 1 ≡ n - i = omega arith in
      let seen : n - (i + 1) + (before.seen + 1) ≡ n - i + before.seen = omega arith in
      let snoc : look_up x (take (i + 1) ids) ≡ cond (same id x) (record { index = Some i; seen = 1 }) (one_more before) =
      ap (λ j. look_up x (take j ids)) next
      ∙ ap (look_up x) (take-suc ids i [] (omega arith))
      ∙ look_up_snoc x id (take i ids)
      ∙ ap (λ m. cond (same id x) (record { index = Some m; seen = 1 }) (one_more before)) (length-take-le i ids (omega arith)) in
      by-test (same id x) (λ y. rw (snoc, y, one) refl) (λ o. rw (snoc, o, seen) refl)

  pub look_up-end : more (n - 0) (look_up x (take 0 ids)) ≡ record { index = None; seen = n }
  unfolding look_up look_up_back
  look_up-end = let all : n - 0 + 0 ≡ n = omega arith in rw all

module _ (x id : List ℕ) (ids : List (List ℕ)) where
  size : length (ids ++ id ∷ []) ≡ length ids + 1
  size = length-append ids (id ∷ [])

  last-here : same id x ≡ true → LastAt x (ids ++ id ∷ []) (length ids) 1
  last-here y =
      record {
        inside = omega (arith, size);
        named = get_or-append_seam ids id [] [] ∙ same-is id x y;
        none-later = λ j l b. absurd (omega (arith, size));
        counted = omega (arith, size);
      }

  module _ (other : same id x ≡ false) where
    -- a record that has not the name either
    none_at : (j : ℕ) → j < length (ids ++ id ∷ []) → (j < length ids → same (get_or ids j []) x ≡ false) → same (get_or (ids ++ id ∷ []) j []) x ≡ false
    none_at j b before =
        by-test (ltb j (length ids))
        (λ y. let l = ltb-true j (length ids) y in rw (get_or-append ids (id ∷ []) [] j l) (before l))
        (λ n. let e : j ≡ length ids = omega (arith, ltb-false j (length ids) n, size) in rw (e, get_or-append_seam ids id [] []) other)

    last_more : (index : Option ℕ) (seen : ℕ) → Last x ids index seen → Last x (ids ++ id ∷ []) index (seen + 1)
    last_more None seen l =
        record { none = λ j b. none_at j b (l.none j); counted = omega (arith, size, l.counted) }
    last_more (Some i) seen l =
        record {
          inside = omega (arith, size, l.inside);
          named = get_or-append ids (id ∷ []) [] i l.inside ∙ l.named;
          none-later = λ j a b. none_at j b (l.none-later j a);
          counted = omega (arith, size, l.counted);
        }

last_back : (x : List ℕ) (r : List (List ℕ)) → Last x (reverse r) (look_up_back x r).index (look_up_back x r).seen
unfolding look_up_back
last_back x [] = record { none = λ j b. absurd (omega arith); counted = refl }
last_back x (id ∷ r) =
    by-test (same id x)
    (λ y. rw (reverse-cons id r, y, ← length-reverse r) (last-here x id (reverse r) y))
    (λ n. rw (reverse-cons id r, n) (last_more x id (reverse r) n (look_up_back x r).index (look_up_back x r).seen (last_back x r)))

-- what the look-up finds is the last of its name, and it saw the records from there on
pub look_up-last : (x : List ℕ) (ids : List (List ℕ)) → Last x ids (look_up x ids).index (look_up x ids).seen
unfolding look_up
look_up-last x ids = rw (reverse-reverse ids) at (last_back x (reverse ids))
