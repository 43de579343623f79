-- Steps of reading leave the end of what they were given (`TimeSteps` of `laws`), so that a place stands for what is left.
use Prim.Native.Nat.{ℕ, ◌+◌, ◌-◌, ◌≤◌}
use mathlib.Core.Path.{◌≡◌, refl, sym, ap, subst, ◌∙◌}
use mathlib.Core.Bool.{true, false}
use mathlib.Core.List.{List, [], ◌∷◌}
use native.Mathlib.Omega.{arith}
use lib.ListN.{length, drop, length-drop, length-append}
use lib.Seq.{drop-drop, drop-append_seam}
use borrow.Author.Tests.{lt-ltb, le-ltb}
use Rattle.format.specs.Texts.{is_empty}
use Rattle.format.specs.Times.{Result, failed, got, on_got, Step, Time, timestamp, nothing_after, only_time, milliseconds, over_hours}
use Rattle.format.specs.TellingTimes.{place_of}
use Rattle.format.specs.declared.times.TimeFault.{TimeFault}
use Rattle.laws.proofs.Tests.{by-test}
use Rattle.laws.proofs.TimeSteps.{Passed, Leaves, Keeps, time_steps}
use Rattle.format.specs.declared.times.Stamp.TheVariants as Stamp
use Rattle.values.specs.Times.{stamp_is, ended_is}

-- where the code stands, from what is left
pub place_is : (s : List ℕ) (i : ℕ) → i ≤ length s → place_of (length s) (drop i s) ≡ i
place_is s i h = omega (arith, length-drop i s)

-- what is left of a text from a place on is the text from another place on
pub left_at :
    (s : List ℕ) (at : ℕ) (r : List ℕ) → at ≤ length s → Passed (drop at s) r → (r ≡ drop (length s - length r) s) × (length s - length r ≤ length s) × (at ≤ length s - length r)
left_at s at r h p =
    let k = length p.gone in
    let n : length s - length r ≡ at + k = omega (arith, ap length p.is, length-append p.gone r, length-drop at s) in
    let e : r ≡ drop (at + k) s = sym (drop-append_seam p.gone r) ∙ ap (drop k) (sym p.is) ∙ drop-drop k at s in
    (rw n e, omega arith, omega arith)

-- a result that failed, from the code's answer in a text of n bytes
pub record Unread {A : Type 0} (r : Result A) (n : ℕ) (f : TimeFault) (k : ℕ) : Type 0 where
  pub rest : List ℕ
  pub is : r ≡ failed f rest
  pub place : k ≡ place_of n rest

-- a time that fails as another step did
pub stamp_unread : {A : Type 0} (x : Result A) (t : Result Time) (n : ℕ) (f : TimeFault) (k : ℕ) (u : Unread x n f k) → t ≡ failed f u.rest → Stamp.Bad f k ≡ stamp_is n t
stamp_unread x t n f k u e = rw (e, u.place)

-- a time that was read by a step, from the code's answer
pub record StampRead (m : Step Time) (s : List ℕ) (at next : ℕ) (t : Time) : Type 0 where
  pub is : m (drop at s) ≡ got t (drop next s)
  pub inside : next ≤ length s
  pub after : at ≤ next

module _ (P : TimeFault → Type 0) (m : Step Time) (keeps : Keeps P m) (s : List ℕ) (at : ℕ) (h : at ≤ length s) where
  pub stamp_bad : (f : TimeFault) (k : ℕ) → Stamp.Bad f k ≡ stamp_is (length s) (m (drop at s)) → Unread (m (drop at s)) (length s) f k
  stamp_bad f k q = go (m (drop at s)) refl
    where
      go : (y : Result Time) → m (drop at s) ≡ y → Unread (m (drop at s)) (length s) f k
      go (failed g r) e =
          let b : Stamp.Bad f k ≡ Stamp.Bad g (place_of (length s) r) = rw e at q in
          let same : f ≡ g = cc in
          record { rest = r; is = rw same e; place = cc }
      go (got t r) e =
          let g : Stamp.Bad f k ≡ stamp_is (length s) (got t r) = rw e at q in
          by-test (over_hours t)
          (λ y. let b : Stamp.Bad f k ≡ Stamp.Over (place_of (length s) r) = rw y at g in let z : ◌≡◌ {A = ℕ} 0 1 = cc in absurd (omega arith))
          (λ n. let b : Stamp.Bad f k ≡ Stamp.At (milliseconds t) (place_of (length s) r) = rw n at g in let z : ◌≡◌ {A = ℕ} 0 1 = cc in absurd (omega arith))

  read_at : (t : Time) (r : List ℕ) (next : ℕ) → m (drop at s) ≡ got t r → next ≡ length s - length r → StampRead m s at next t
  read_at t r next e n =
      let l = left_at s at r h (subst (Leaves P (drop at s)) e (keeps.at (drop at s))) in
      record { is = e ∙ rw n (ap (got t) l.0); inside = omega (arith, l.1); after = omega (arith, l.2) }

  pub stamp_over : (next : ℕ) → Stamp.Over next ≡ stamp_is (length s) (m (drop at s)) → (t : Time) × StampRead m s at next t × (over_hours t ≡ true)
  stamp_over next q = go (m (drop at s)) refl
    where
      go : (y : Result Time) → m (drop at s) ≡ y → (t : Time) × StampRead m s at next t × (over_hours t ≡ true)
      go (failed f r) e = let g : Stamp.Over next ≡ Stamp.Bad f (place_of (length s) r) = rw e at q in let z : ◌≡◌ {A = ℕ} 0 1 = cc in absurd (omega arith)
      go (got t r) e =
          let g : Stamp.Over next ≡ stamp_is (length s) (got t r) = rw e at q in
          by-test (over_hours t)
          (λ y. let k : Stamp.Over next ≡ Stamp.Over (place_of (length s) r) = rw y at g in (t, read_at t r next e (cc), y))
          (λ n. let k : Stamp.Over next ≡ Stamp.At (milliseconds t) (place_of (length s) r) = rw n at g in
          let z : ◌≡◌ {A = ℕ} 0 1 = cc in
          absurd (omega arith))

  pub stamp_at :
      (ms next : ℕ)
      → Stamp.At ms next ≡ stamp_is (length s) (m (drop at s))
      → (t : Time) × StampRead m s at next t × (over_hours t ≡ false) × (milliseconds t ≡ ms)
  stamp_at ms next q = go (m (drop at s)) refl
    where
      go : (y : Result Time) → m (drop at s) ≡ y → (t : Time) × StampRead m s at next t × (over_hours t ≡ false) × (milliseconds t ≡ ms)
      go (failed f r) e = let g : Stamp.At ms next ≡ Stamp.Bad f (place_of (length s) r) = rw e at q in let z : ◌≡◌ {A = ℕ} 0 1 = cc in absurd (omega arith)
      go (got t r) e =
          let g : Stamp.At ms next ≡ stamp_is (length s) (got t r) = rw e at q in
          by-test (over_hours t)
          (λ y. let k : Stamp.At ms next ≡ Stamp.Over (place_of (length s) r) = rw y at g in
          let z : ◌≡◌ {A = ℕ} 0 1 = cc in
          absurd (omega arith))
          (λ n. let k : Stamp.At ms next ≡ Stamp.At (milliseconds t) (place_of (length s) r) = rw n at g in (t, read_at t r next e (cc), n, cc))

-- a time that is all of a text of n bytes, by where it ends
ended_of :
    (n : ℕ) (r : Result Time)
    → ((t : Time) (rest : List ℕ) → r ≡ got t rest → length rest ≤ n)
    → ended_is n (stamp_is n r) ≡ stamp_is n (on_got r (λ t x. on_got (nothing_after x) (λ u. got t)))
unfolding on_got is_empty
ended_of n (failed f s) h = refl
ended_of n (got t []) h =
    let e : place_of n [] ≡ n = omega arith in
    by-test (over_hours t) (λ y. rw (y, e, le-ltb n n (omega arith))) (λ m. rw (m, e, le-ltb n n (omega arith)))
ended_of n (got t (b ∷ s)) h =
    let l = lt-ltb (place_of n (b ∷ s)) n (omega (arith, h t (b ∷ s) refl)) in
    by-test (over_hours t) (λ y. rw (y, l)) (λ m. rw (m, l))

pub ended_is_lem : (s : List ℕ) → ended_is (length s) (stamp_is (length s) (timestamp s)) ≡ stamp_is (length s) (only_time s)
unfolding only_time
ended_is_lem s =
    ended_of (length s) (timestamp s)
    (λ t rest e. let p = subst (Leaves _ s) e (time_steps.at s) in omega (arith, ap length p.is, length-append p.gone rest))
