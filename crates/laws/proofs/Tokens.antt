-- Tokens at a place of a text, as a loop goes over it, and a token or value split at its first colon or comma.
use Prim.Native.Nat.{ℕ, suc, ◌+◌, ◌-◌, ◌≤◌, ◌<◌}
use mathlib.Core.Path.{◌≡◌, refl, sym, ap, ◌∙◌}
use mathlib.Core.Bool.{Bool, true, false, not}
use mathlib.Core.List.{List, [], ◌∷◌}
use native.Mathlib.Omega.{arith}
use lib.Dec.{eqb, ltb}
use lib.ListN.{length, get_or, take, drop, drop_of_length-le, length-drop}
use lib.Seq.{drop-cons, drop-drop, length-take-le}
use borrow.Author.Tests.{ltb-true, ltb-false}
use Rattle.format.specs.Bytes.{white}
use Rattle.format.specs.Texts.{Part, run, has, before_first, after_first}
use Rattle.format.specs.Tokens.{in_token, on_token, before_tokens, tokens}
use Rattle.laws.proofs.Tests.{by-test}
use Rattle.laws.proofs.Runs.{RunAt, run-moves, all-stops}

abbrev pub inside : ℕ → Bool
inside b = not (white b)

tokens-white : (p b : ℕ) (s : List ℕ) → white b ≡ true → tokens p (b ∷ s) ≡ tokens (suc p) s
unfolding tokens before_tokens
tokens-white p b s w = rw w

-- whitespace before a token
tokens_skip : (p : ℕ) (s : List ℕ) → tokens p s ≡ tokens (p + length (run white s)) (drop (length (run white s)) s)
unfolding run
tokens_skip p [] = let e : p + 0 ≡ p = omega arith in rw e
tokens_skip p (b ∷ s) =
    by-test (white b)
    (λ w. let e : p + suc (length (run white s)) ≡ suc p + length (run white s) = omega arith in
    tokens-white p b s w ∙ tokens_skip (suc p) s ∙ rw (w, e))
    (λ n. let e : p + 0 ≡ p = omega arith in rw (n, e))

-- a byte of a token, before the end of the token or not
alone : (p b : ℕ) (s : List ℕ) → white b ≡ false → in_token s ≡ false → tokens p (b ∷ s) ≡ record { place = p; bytes = b ∷ [] } ∷ tokens (suc p) s
unfolding tokens before_tokens
alone p b s n o = rw (n, o)

joined :
    (p b : ℕ) (s : List ℕ) (t : Part) (ts : List Part)
    → white b ≡ false
    → in_token s ≡ true
    → tokens (suc p) s ≡ t ∷ ts
    → tokens p (b ∷ s) ≡ record { place = p; bytes = b ∷ t.bytes } ∷ ts
unfolding tokens before_tokens on_token
joined p b s t ts n i e = rw (n, i, e)

run-one : (b : ℕ) (s : List ℕ) → white b ≡ false → run inside (b ∷ s) ≡ b ∷ run inside s
unfolding run
run-one b s n = rw n

run_none : (s : List ℕ) → in_token s ≡ false → run inside s ≡ []
unfolding run in_token
run_none [] e = refl
run_none (b ∷ s) e = rw e

in_token_lem : (b : ℕ) (s : List ℕ) → white b ≡ false → in_token (b ∷ s) ≡ true
unfolding in_token
in_token_lem b s n = rw n

out_token : (b : ℕ) (s : List ℕ) → white b ≡ true → in_token (b ∷ s) ≡ false
unfolding in_token
out_token b s y = rw y

nothing : in_token [] ≡ false
unfolding in_token
nothing = refl

Word : ℕ → ℕ → List ℕ → Type 0
Word p b s =
    tokens p (b ∷ s)
    ≡ record { place = p; bytes = b ∷ run inside s } ∷ tokens (p + suc (length (run inside s))) (drop (length (run inside s)) s)

word-ends : (p b : ℕ) (s : List ℕ) → white b ≡ false → in_token s ≡ false → Word p b s
unfolding Word
word-ends p b s n o = let e : p + 1 ≡ suc p = omega arith in rw (run_none s o, e) (alone p b s n o)

-- a token at the start
word : (p b : ℕ) (s : List ℕ) → white b ≡ false → Word p b s
unfolding Word
word p b [] n = word-ends p b [] n nothing
word p b (c ∷ s) n =
    by-test (white c)
    (λ y. word-ends p b (c ∷ s) n (out_token c s y))
    (λ z. let e : p + suc (suc (length (run inside s))) ≡ suc p + suc (length (run inside s)) = omega arith in
    rw (run-one c s z, e)
    (joined p b (c ∷ s) (record { place = suc p; bytes = c ∷ run inside s })
    (tokens (suc p + suc (length (run inside s))) (drop (length (run inside s)) s)) n (in_token_lem c s z) (word (suc p) c s z)))

-- the tokens from a place of a text on: whitespace from i to j, and then none, or one from j to k and those after it
module _ (s : List ℕ) (i j : ℕ) (w : RunAt white s i j) where
  skipped : length (run white (drop i s)) ≡ j - i
  skipped = ap length w.bytes ∙ length-take-le (j - i) (drop i s) (omega (arith, w.inside, length-drop i s))

  pub at_token : tokens i (drop i s) ≡ tokens j (drop j s)
  at_token =
      let e : i + (j - i) ≡ j = omega (arith, w.from) in
      tokens_skip i (drop i s) ∙ rw (skipped, drop-drop (j - i) i s, e)

  pub tokens-end : length s ≤ j → tokens i (drop i s) ≡ []
  unfolding tokens
  tokens-end l = at_token ∙ rw (drop_of_length-le s l) refl

  pub tokens-next :
      (k : ℕ)
      → j < length s
      → white (get_or s j 0) ≡ false
      → RunAt inside s j k
      → tokens i (drop i s) ≡ record { place = j; bytes = take (k - j) (drop j s) } ∷ tokens k (drop k s)
  unfolding Word
  tokens-next k l n r =
      let b = get_or s j 0 in
      let t = drop (suc j) s in
      let c : drop j s ≡ b ∷ t = drop-cons s j 0 l in
      let bytes : b ∷ run inside t ≡ take (k - j) (drop j s) = sym (ap (run inside) c ∙ run-one b t n) ∙ r.bytes in
      let m : suc (length (run inside t)) ≡ k - j = ap length bytes ∙ length-take-le (k - j) (drop j s) (omega (arith, r.inside, length-drop j s)) in
      let q : j + suc (length (run inside t)) ≡ k = omega (arith, m, r.from) in
      let q₂ : suc j + length (run inside t) ≡ k = omega (arith, m, r.from) in
      at_token ∙ ap (tokens j) c ∙ word j b t n ∙ rw (q, drop-drop (length (run inside t)) (suc j) s, q₂, bytes)

-- whitespace and then a token take at least one byte
pub tokens_move : (s : List ℕ) (i j k : ℕ) → RunAt white s i j → RunAt inside s j k → i < length s → i < k
tokens_move s i j k w t l =
    by-test (white (get_or s i 0))
    (λ y. omega (arith, run-moves white s i j w l y, t.from))
    (λ n. by-test (ltb i j)
    (λ y. omega (arith, ltb-true i j y, t.from))
    (λ z. let e : j ≡ i = omega (arith, ltb-false i j z, w.from) in
    let t₂ : RunAt inside s i k = rw e at t in
    run-moves inside s i k t₂ l (ap not n)))

-- a text split at its first c, which stands at k or not at all
pub first_at : (c : ℕ) (s : List ℕ) → has c s ≡ ltb (length (before_first c s)) (length s)
unfolding has before_first
first_at c s = sym (all-stops (λ b. not (eqb b c)) s)

pub after_at : (c : ℕ) (s : List ℕ) → after_first c s ≡ drop (suc (length (before_first c s))) s
unfolding after_first before_first run
after_at c [] = refl
after_at c (b ∷ s) = by-test (eqb b c) (λ y. rw y) (λ n. rw n (after_at c s))
