-- Laws of the kinds on a stack: how many there are, and how each step changes them.
use Prim.Native.Nat.{ℕ, zero, suc, ◌+◌, ◌*◌, ◌/◌, ◌%◌, ◌^◌, ◌-◌, ◌≤◌, ◌<◌}
use mathlib.Core.Path.{◌≡◌, refl, sym, ap, ◌∙◌}
use mathlib.Core.List.{List, [], ◌∷◌, ◌++◌}
use native.Mathlib.Omega.{arith}
use native.Mathlib.Numerals.{add-one}
use native.Mathlib.Nat.{pow-suc, pow-le-pow_right}
use lib.Dec.{eqb}
use lib.ListN.{length, get_or, set, drop, length-append}
use lib.Seq.{get_or-set_same, get_or-set_other}
use borrow.Author.Tests.{eqb-true, eqb-false}
use Rattle.laws.proofs.Tests.{by-test}
use Rattle.stack.specs.Kinds.{digits, unload, kinds_in}

length_digits : (n w : ℕ) → length (digits n w) ≡ n
unfolding digits
length_digits zero w = refl
length_digits (suc n) w = ap suc (length_digits n (w / 8))

length-unload : (n : ℕ) (words : List ℕ) → length (unload n words) ≡ 21 * n
unfolding unload
length-unload zero words = refl
length-unload (suc n) words =
    length-append (digits 21 (get_or words n 0)) (unload n words)
    ∙ omega (arith, length_digits 21 (get_or words n 0), length-unload n words)

pub length-kinds_in : (words : List ℕ) (full held top : ℕ) → length (kinds_in words full held top) ≡ held + 21 * full
unfolding kinds_in
length-kinds_in words full held top = rw (length-append, length_digits, length-unload) refl

-- a word with one kind more, and with one kind
digits_push : (n w k : ℕ) → k < 8 → digits (suc n) (w * 8 + k) ≡ k ∷ digits n w
unfolding digits
digits_push n w k h =
    let m : (w * 8 + k) % 8 ≡ k = omega arith in
    let d : (w * 8 + k) / 8 ≡ w = omega arith in
    rw (m, d) refl

digits-one : (k : ℕ) → k < 8 → digits 1 k ≡ k ∷ []
unfolding digits
digits-one k h =
    let m : k % 8 ≡ k = omega arith in
    rw m refl

-- the filled words are below the one that is set
unload-set : (n : ℕ) (words : List ℕ) (i v : ℕ) → n ≤ i → unload n (set words i v) ≡ unload n words
unfolding unload
unload-set zero words i v h = refl
unload-set (suc n) words i v h =
    rw (get_or-set_other words i n v 0 (λ e. omega arith), unload-set n words i v (omega arith)) refl

-- what stands after the filled words says nothing of the kinds
pub kinds-set : (words : List ℕ) (full held top i v : ℕ) → full ≤ i → kinds_in (set words i v) full held top ≡ kinds_in words full held top
unfolding kinds_in
kinds-set words full held top i v h = ap (λ ks. digits held top ++ ks) (unload-set full words i v h)

-- a word stays below the power of eight of its kinds
pub push_small : (n w k : ℕ) → w < 8 ^ n → k < 8 → w * 8 + k < 8 ^ (n + 1)
push_small n w k h l = rw (add-one n) (omega (arith, pow-suc 8 n))

pub pop_small : (n w : ℕ) → 0 < n → w < 8 ^ n → w / 8 < 8 ^ (n - 1)
pop_small n w l h =
    let more : n ≡ suc (n - 1) = omega arith in
    let k : w < 8 ^ suc (n - 1) = rw more at h in
    omega (arith, pow-suc 8 (n - 1))

-- a word with room for a kind more still fits
pub room_small : (n w k : ℕ) → n < 21 → w < 8 ^ n → k < 8 → w * 8 + k < 8 ^ 21
room_small n w k h l m =
    let most : n ≤ 20 = omega arith in
    let p : 8 ^ n ≤ 8 ^ 20 = pow-le-pow_right {n = 8} (omega arith) most in
    push_small 20 w k (omega arith) m

module _ (words : List ℕ) (full held top : ℕ) where
  pub kinds-none : held ≡ 0 → full ≡ 0 → kinds_in words full held top ≡ []
  unfolding kinds_in digits unload
  kinds-none e z = rw (e, z) refl

  pub kinds-some : 0 < held → kinds_in words full held top ≡ top % 8 ∷ kinds_in words full (held - 1) (top / 8)
  unfolding kinds_in digits
  kinds-some h =
      let e : held ≡ suc (held - 1) = omega arith in
      ap (λ n. digits n top ++ unload full words) e

  -- with room in the top word, and with the top word full, which goes to the words
  pub kinds_put : (k : ℕ) → k < 8 → kinds_in words full (held + 1) (top * 8 + k) ≡ k ∷ kinds_in words full held top
  unfolding kinds_in
  kinds_put k h = rw (add-one held, digits_push held top k h) refl

  pub kinds_over :
      (k : ℕ) → k < 8 → held ≡ 21 → full < length words → kinds_in (set words full top) (full + 1) 1 k ≡ k ∷ kinds_in words full held top
  unfolding kinds_in unload
  kinds_over k h e l =
      rw (
        digits-one k h,
        add-one full,
        get_or-set_same words full top 0 l,
        unload-set full words full top (omega arith),
        e,
      ) refl

  pub set-small :
      top < 8 ^ 21
      → full < length words
      → ((i : ℕ) → i < full → get_or words i 0 < 8 ^ 21)
      → (i : ℕ)
      → i < full + 1
      → get_or (set words full top) i 0 < 8 ^ 21
  set-small t l f i b =
      by-test (eqb i full)
      (λ y. rw (eqb-true i full y, get_or-set_same words full top 0 l) t)
      (λ y. let n = eqb-false i full y in rw (get_or-set_other words full i top 0 n) (f i (omega arith)))

  -- the word filled last is the top word again
  pub kinds_again : held ≡ 1 → 0 < full → kinds_in words (full - 1) 21 (get_or words (full - 1) 0) ≡ drop 1 (kinds_in words full held top)
  unfolding kinds_in digits unload
  kinds_again e l =
      let more : full ≡ suc (full - 1) = omega arith in
      let last : unload full words ≡ digits 21 (get_or words (full - 1) 0) ++ unload (full - 1) words = ap (λ n. unload n words) more in
      let none : held - 1 ≡ 0 = omega arith in
      let rest : digits (held - 1) (top / 8) ++ unload full words ≡ unload full words = rw none refl in
      sym (ap (drop 1) (kinds-some (omega arith)) ∙ rest ∙ last)
