-- Runs of bytes that pass a test, texts compared, and last bytes: at a place of a text, as a loop goes over it.
use Prim.Native.Nat.{ℕ, zero, suc, ◌+◌, ◌-◌, ◌≤◌, ◌<◌}
use mathlib.Core.Path.{◌≡◌, refl, sym, ap, ◌∙◌}
use mathlib.Core.Bool.{Bool, true, false, not, false≢true}
use mathlib.Core.List.{List, [], ◌∷◌}
use native.Mathlib.Numerals.{add-one}
use native.Mathlib.Omega.{arith}
use lib.Dec.{eqb, ltb}
use lib.ListN.{length, get_or, take, drop, drop_of_length-le, length-drop}
use lib.Seq.{drop-cons, drop-drop, length-take-le, take-nil}
use borrow.Author.Tests.{eqb-true, eq-eqb, ne_eqb, ltb-true, ltb-false}
use Rattle.format.specs.Texts.{same, all, run, past_run, ends_with, without_last}
use Rattle.laws.proofs.Tests.{by-test, and_left, and_right, and-false}

-- the byte at a place, and the bytes after it
pub drop-first : (s : List ℕ) (at : ℕ) → at < length s → drop at s ≡ get_or s at 0 ∷ drop (at + 1) s
drop-first s at h = rw (add-one at) (drop-cons s at 0 h)

module _ (p : ℕ → Bool) where
  pub run-stop : (s : List ℕ) (i : ℕ) → i < length s → p (get_or s i 0) ≡ false → run p (drop i s) ≡ []
  unfolding run
  run-stop s i h e = rw (drop-cons s i 0 h, e)

  pub run-next : (s : List ℕ) (i : ℕ) → i < length s → p (get_or s i 0) ≡ true → run p (drop i s) ≡ get_or s i 0 ∷ run p (drop (i + 1) s)
  unfolding run
  run-next s i h e = rw (add-one i, drop-cons s i 0 h, e)

  pub run_end : (s : List ℕ) (i : ℕ) → length s ≤ i → run p (drop i s) ≡ []
  unfolding run
  run_end s i h = rw (drop_of_length-le s h) refl

  pub run_length : (s : List ℕ) → length (run p s) ≤ length s
  unfolding run
  run_length [] = omega arith
  run_length (b ∷ s) = by-test (p b) (λ y. rw y (omega (arith, run_length s))) (λ n. rw n (omega arith))

  pub run_take : (s : List ℕ) → run p s ≡ take (length (run p s)) s
  unfolding run
  run_take [] = refl
  run_take (b ∷ s) = by-test (p b) (λ y. rw y (ap (λ r. b ∷ r) (run_take s))) (λ n. rw n)

  pub past_run-drop : (s : List ℕ) → past_run p s ≡ drop (length (run p s)) s
  unfolding run past_run
  past_run-drop [] = refl
  past_run-drop (b ∷ s) = by-test (p b) (λ y. rw y (past_run-drop s)) (λ n. rw n)

  pub run-all : (s : List ℕ) → all p (run p s) ≡ true
  unfolding run all
  run-all [] = refl
  run-all (b ∷ s) = by-test (p b) (λ y. rw (y, y) (run-all s)) (λ n. rw n refl)

  -- a run that is the whole text
  pub all-run : (s : List ℕ) → length (run p s) ≡ length s → all p s ≡ true
  unfolding run all
  all-run [] e = refl
  all-run (b ∷ s) e =
      by-test (p b)
      (λ y. let f : suc (length (run p s)) ≡ suc (length s) = rw y at e in rw y (all-run s (omega arith)))
      (λ n. let f : 0 ≡ suc (length s) = rw n at e in absurd (omega arith))

  pub run-not-all : (s : List ℕ) → length (run p s) < length s → all p s ≡ false
  unfolding run all
  run-not-all [] l = absurd (omega arith)
  run-not-all (b ∷ s) l =
      by-test (p b)
      (λ y. let f : suc (length (run p s)) < suc (length s) = rw y at l in rw y (run-not-all s (omega arith)))
      (λ n. rw n)

-- the run from one place of a text to another
pub record RunAt (p : ℕ → Bool) (s : List ℕ) (i end : ℕ) : Type 0 where
  pub from : i ≤ end
  pub inside : end ≤ length s
  pub bytes : run p (drop i s) ≡ take (end - i) (drop i s)
  pub past : past_run p (drop i s) ≡ drop end s

pub run_at : (p : ℕ → Bool) (s : List ℕ) (i end : ℕ) → i ≤ length s → end ≡ i + length (run p (drop i s)) → RunAt p s i end
run_at p s i end h e =
    let n : length (run p (drop i s)) ≡ end - i = omega arith in
    let k : i + (end - i) ≡ end = omega arith in
    record {
      from = omega arith;
      inside = omega (arith, run_length p (drop i s), length-drop i s);
      bytes = rw n at (run_take p (drop i s));
      past = past_run-drop p (drop i s) ∙ rw (n, drop-drop (end - i) i s, k);
    }

-- the first byte of a run, and that a run of the one kind or the other goes on
pub run-first : (p : ℕ → Bool) (s : List ℕ) (i end : ℕ) → RunAt p s i end → i < end → p (get_or s i 0) ≡ true
run-first p s i end r l =
    by-test (p (get_or s i 0))
    (λ y. y)
    (λ n. let k = length-take-le (end - i) (drop i s) (omega (arith, r.inside, length-drop i s)) in
    absurd (omega (arith, ap length (sym (run-stop p s i (omega (arith, r.inside)) n) ∙ r.bytes), k)))

-- the byte after a run
past_run-first : (p : ℕ → Bool) (x : List ℕ) (b : ℕ) (r : List ℕ) → past_run p x ≡ b ∷ r → p b ≡ false
unfolding past_run
past_run-first p [] b r e = let z : ◌≡◌ {A = ℕ} 0 1 = cc in absurd (omega arith)
past_run-first p (c ∷ x) b r e =
    by-test (p c)
    (λ y. past_run-first p x b r (rw y at e))
    (λ n. let f : c ∷ x ≡ b ∷ r = rw n at e in let g : c ≡ b = cc in rw g at n)

pub run-after : (p : ℕ → Bool) (s : List ℕ) (i end : ℕ) → RunAt p s i end → end < length s → p (get_or s end 0) ≡ false
run-after p s i end r l = past_run-first p (drop i s) (get_or s end 0) (drop (suc end) s) (r.past ∙ drop-cons s end 0 l)

pub run-moves : (p : ℕ → Bool) (s : List ℕ) (i end : ℕ) → RunAt p s i end → i < length s → p (get_or s i 0) ≡ true → i < end
run-moves p s i end r l y =
    let k = length-take-le (end - i) (drop i s) (omega (arith, r.inside, length-drop i s)) in
    omega (arith, ap length (sym (run-next p s i l y) ∙ r.bytes), k)

pub drop-take : (j k : ℕ) (s : List ℕ) → drop j (take k s) ≡ take (k - j) (drop j s)
drop-take zero k s = let e : k - 0 ≡ k = omega arith in rw e
drop-take (suc j) zero s = let e : 0 - suc j ≡ 0 = omega arith in rw e
drop-take (suc j) (suc k) [] = sym (take-nil (suc k - suc j))
drop-take (suc j) (suc k) (b ∷ s) = let e : suc k - suc j ≡ k - j = omega arith in rw e (drop-take j k s)

pub record RunStart (p : ℕ → Bool) (s : List ℕ) (end : ℕ) : Type 0 where
  pub inside : end ≤ length s
  pub bytes : run p s ≡ take end s
  pub past : past_run p s ≡ drop end s

pub run-start : (p : ℕ → Bool) (s : List ℕ) (end : ℕ) → end ≡ 0 + length (run p s) → RunStart p s end
run-start p s end e =
    let n : length (run p s) ≡ end = omega arith in
    record { inside = omega (arith, run_length p s); bytes = rw n at (run_take p s); past = rw n at (past_run-drop p s) }

-- does a run stop before the text's end
pub all-stops : (p : ℕ → Bool) (s : List ℕ) → ltb (length (run p s)) (length s) ≡ not (all p s)
all-stops p s =
    by-test (ltb (length (run p s)) (length s))
    (λ y. y ∙ sym (ap not (run-not-all p s (ltb-true (length (run p s)) (length s) y))))
    (λ n. n ∙ sym (ap not (all-run p s (omega (arith, ltb-false (length (run p s)) (length s) n, run_length p s)))))

-- two texts side by side
pub same_length : (s t : List ℕ) → (length s ≡ length t → ⊥) → same s t ≡ false
unfolding same
same_length [] [] n = absurd (n refl)
same_length [] (c ∷ t) n = refl
same_length (b ∷ s) [] n = refl
same_length (b ∷ s) (c ∷ t) n = and-false (eqb b c) (same s t) (same_length s t (λ e. n (ap suc e)))

pub same_next :
    (s t : List ℕ) (i : ℕ)
    → i < length s
    → i < length t
    → get_or s i 0 ≡ get_or t i 0
    → same (drop i s) (drop i t) ≡ same (drop (i + 1) s) (drop (i + 1) t)
unfolding same
same_next s t i h k e =
    rw (add-one i, drop-cons s i 0 h, drop-cons t i 0 k, eq-eqb (get_or s i 0) (get_or t i 0) e)

pub same_differs : (s t : List ℕ) (i : ℕ) → i < length s → i < length t → (get_or s i 0 ≡ get_or t i 0 → ⊥) → same (drop i s) (drop i t) ≡ false
unfolding same
same_differs s t i h k n = rw (drop-cons s i 0 h, drop-cons t i 0 k, ne_eqb (get_or s i 0) (get_or t i 0) n)

pub same_end : (s t : List ℕ) (i : ℕ) → length s ≤ i → length t ≤ i → same (drop i s) (drop i t) ≡ true
unfolding same
same_end s t i h k = rw (drop_of_length-le s h, drop_of_length-le t k) refl

pub same-is : (s t : List ℕ) → same s t ≡ true → s ≡ t
unfolding same
same-is [] [] e = refl
same-is [] (c ∷ t) e = absurd (false≢true e)
same-is (b ∷ s) [] e = absurd (false≢true e)
same-is (b ∷ s) (c ∷ t) e =
    let p = eqb-true b c (and_left (eqb b c) (same s t) e) in
    let q = same-is s t (and_right (eqb b c) (same s t) e) in
    cc

pub same_self : (s : List ℕ) → same s s ≡ true
unfolding same
same_self [] = refl
same_self (b ∷ s) = rw (eq-eqb b b refl, same_self s)

-- a text's last byte
pub ends_with-last : (c : ℕ) (s : List ℕ) → 0 < length s → ends_with c s ≡ eqb (get_or s (length s - 1) 0) c
unfolding ends_with
ends_with-last c [] h = absurd (omega arith)
ends_with-last c (b ∷ []) h = refl
ends_with-last c (b ∷ (d ∷ s)) h =
    let e : suc (suc (length s)) - 1 ≡ suc (length (d ∷ s) - 1) = omega arith in
    rw e (ends_with-last c (d ∷ s) (omega arith))

pub without_last-take : (s : List ℕ) → without_last s ≡ take (length s - 1) s
unfolding without_last
without_last-take [] = refl
without_last-take (b ∷ []) = refl
without_last-take (b ∷ (c ∷ s)) =
    let e : suc (suc (length s)) - 1 ≡ suc (length (c ∷ s) - 1) = omega arith in
    rw e (ap (λ r. b ∷ r) (without_last-take (c ∷ s)))
