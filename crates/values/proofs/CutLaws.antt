-- Parts of a slice as the code cuts them: between two places, up to the first of a byte, after it, and a token at its first colon.
use Prim.Native.Nat.{ℕ, suc, ◌+◌, ◌-◌, ◌≤◌, ◌<◌, min}
use mathlib.Core.Path.{◌≡◌, refl, sym, ap, ◌∙◌}
use mathlib.Core.Bool.{true, false, not, ◌||◌}
use mathlib.Core.List.{List, []}
use native.Mathlib.Numerals.{add-one}
use native.Mathlib.Omega.{arith}
use lib.Dec.{eqb, leb}
use lib.ListN.{length, take, drop, length-drop, drop_of_length-le}
use lib.Seq.{take_all, take-length, drop-drop, length-take-le}
use borrow.Author.Tests.{eqb-true, eqb-false, leb-true, leb-false, lt-ltb, le-ltb}
use Rattle.format.specs.Bytes.{colon}
use Rattle.format.specs.Texts.{has, is_empty, before_first, after_first, run, bytes_at}
use Rattle.format.specs.Tokens.{name_of, value_of}
use Rattle.format.specs.CueSettings.{span_is}
use Rattle.laws.proofs.Tests.{by-test, or_true}
use Rattle.laws.proofs.Runs.{run_take, run_length, drop-take}
use Rattle.laws.proofs.Tokens.{first_at, after_at}
use Rattle.values.specs.Tokens.{token_from, Named, span_to, part_of}
use Rattle.values.proofs.NumberLaws.{is_empty-not, empty_is}

-- the first elements of a list, cut to its length
pub take_min : {A : Type 0} (n : ℕ) (l : List A) → take n l ≡ take (min n (length l)) l
take_min n l =
    by-test (leb n (length l))
    (λ y. let e : min n (length l) ≡ n = omega (arith, leb-true n (length l) y) in rw e)
    (λ z. let k = leb-false n (length l) z in
    let e : min n (length l) ≡ length l = omega arith in
    rw (e, take-length l) (take_all n l (omega arith)))

-- a part is the same whether or not its places are first cut to the text
pub cut_is :
    (s : List ℕ) (from to end start : ℕ)
    → end ≡ min to (length s)
    → start ≡ min from end
    → take (end - start) (drop start s) ≡ bytes_at s from to
unfolding bytes_at
cut_is s from to end start e b =
    let size : min (to - from) (length (drop from s)) ≡ end - start = omega (arith, length-drop from s) in
    sym
    (take_min (to - from) (drop from s)
    ∙ by-test (leb from end)
    (λ y. let l = leb-true from end y in let f : start ≡ from = omega arith in rw (size, f))
    (λ n. let l = leb-false from end n in let z : end - start ≡ 0 = omega arith in rw (size, z)))

-- the first c stands at k, or nowhere where k is the length
module _ (c : ℕ) (x : List ℕ) (k : ℕ) (e : k ≡ length (before_first c x)) where
  pub front : take k x ≡ before_first c x
  unfolding before_first
  front = rw e (sym (run_take (λ b. not (eqb b c)) x))

  pub has-not : k ≡ length x → has c x ≡ false
  has-not l = first_at c x ∙ le-ltb (length (before_first c x)) (length x) (omega arith)

  pub has_one : k < length x → has c x ≡ true
  has_one l = first_at c x ∙ lt-ltb (length (before_first c x)) (length x) (omega arith)

  pub beyond : k < length x → take (length x - (k + 1)) (drop (k + 1) x) ≡ after_first c x
  beyond l =
      take_all (length x - (k + 1)) (drop (k + 1) x) (omega (arith, length-drop (k + 1) x))
      ∙ rw (add-one k, e) (sym (after_at c x))

-- where the code's run up to c ends
pub first-is : (c : ℕ) (x : List ℕ) (k : ℕ) → k ≡ 0 + length (run (λ b. not (eqb b c)) x) → k ≡ length (before_first c x)
unfolding before_first
first-is c x k e = omega arith

-- the part before the first c, as the code cuts it
pub upto : (c : ℕ) (x : List ℕ) (k : ℕ) → k ≡ 0 + length (run (λ b. not (eqb b c)) x) → (take k x ≡ before_first c x) × (k ≡ length (take k x))
upto c x k e = (
  front c x k (first-is c x k e),
  sym (length-take-le k x (omega (arith, run_length (λ b. not (eqb b c)) x))),
)

-- the rest of a slice, as the code cuts it
pub rest-is : (s : List ℕ) (from : ℕ) → take (length s - from) (drop from s) ≡ drop from s
rest-is s from = take_all (length s - from) (drop from s) (omega (arith, length-drop from s))

pub span_is_lem : (s : List ℕ) (from : ℕ) → from ≤ length s → span_to from (length s) ≡ span_is (record { place = from; bytes = drop from s })
unfolding span_is is_empty
span_is_lem s from h =
    by-test (eqb from (length s))
    (λ y. let l : length s ≤ from = omega (arith, eqb-true from (length s) y) in rw (y, drop_of_length-le s l))
    (λ n. let l : from < length s = omega (arith, eqb-false from (length s) n) in
    let e : from + length (drop from s) ≡ length s = omega (arith, length-drop from s) in
    rw (n, is_empty-not (drop from s) (omega (arith, length-drop from s)), e))

pub before-length : (c : ℕ) (x : List ℕ) → length (before_first c x) ≤ length x
unfolding before_first
before-length c x = run_length (λ b. not (eqb b c)) x

-- a token of a slice, cut at its first colon, k bytes after its start
module _ (s : List ℕ) (from k : ℕ) (e : k ≡ length (before_first colon (drop from s))) where
  pub no_name : k ≡ 0 → is_empty (name_of (token_from s from)) || is_empty (value_of (token_from s from)).bytes ≡ true
  unfolding name_of
  no_name z = rw (empty_is (before_first colon (drop from s)) (omega arith))

  pub no_value :
      length (drop from s) ≤ k + 1
      → is_empty (name_of (token_from s from)) || is_empty (value_of (token_from s from)).bytes ≡ true
  unfolding name_of value_of is_empty
  no_value l =
      let m : length (drop from s) ≤ suc k = omega arith in
      let v : after_first colon (drop from s) ≡ [] = after_at colon (drop from s) ∙ rw (← e, drop_of_length-le (drop from s) m) refl in
      rw v (or_true (is_empty (before_first colon (drop from s))))

  pub named_at_lem : 0 < k → k + 1 < length (drop from s) → Named s from (from + k)
  unfolding name_of value_of
  named_at_lem h l =
      let q : from + suc k ≡ from + k + 1 = omega arith in
      let v : after_first colon (drop from s) ≡ drop (from + k + 1) s =
      after_at colon (drop from s) ∙ rw (← e, drop-drop (suc k) from s, q) in
      let p : from + suc (length (before_first colon (drop from s))) ≡ from + k + 1 = omega arith in
      let d : from + k - from ≡ k = omega arith in
      record {
        after = omega arith;
        inside = omega (arith, length-drop from s);
        both =
            rw (
              v,
              is_empty-not (before_first colon (drop from s)) (omega arith),
              is_empty-not (drop (from + k + 1) s) (omega (arith, ap length v, length-drop (from + k + 1) s, length-drop from s)),
            );
        name = rw d (sym (front colon (drop from s) k e));
        value = rw (v, p);
      }

-- a part of a text from any place to any other, as the code cuts it
pub record Cut (s : List ℕ) (from to end start : ℕ) : Type 0 where
  pub size : end ≡ length (take end s)
  pub inside : start ≤ length (take end s)
  pub part : token_from (take end s) start ≡ part_of s from to

pub cut_at : (s : List ℕ) (from to end start : ℕ) → end ≡ min to (length s) → start ≡ min from end → Cut s from to end start
cut_at s from to end start e b =
    let n = length-take-le end s (omega arith) in
    let p : start ≡ min from (min to (length s)) = rw e at b in
    record {
      size = sym n;
      inside = omega (arith, n);
      part = rw (drop-take start end s, e, p);
    }

-- the part of a text from a place up to its end
pub part-rest : (s : List ℕ) (at : ℕ) → at ≤ length s → part_of s at (length s) ≡ token_from s at
part-rest s at l =
    let a : min (length s) (length s) ≡ length s = omega arith in
    let b : min at (length s) ≡ at = omega arith in
    let n : length (drop at s) ≤ length s - at = omega (arith, length-drop at s) in
    rw (a, b, take_all (length s - at) (drop at s) n)
