-- Line ends: what `newlines` makes of two pieces joined, of a well-formed sequence, and of a text without CR.
use Prim.Native.Nat.{ℕ, suc, ◌≤◌}
use mathlib.Core.Path.{◌≡◌, refl, sym, ap, ◌∙◌}
use mathlib.Core.Bool.{true, false, cond, not, ◌&&◌, false≢true}
use mathlib.Core.List.{List, [], ◌∷◌, ◌++◌, append_assoc}
use Rattle.std.specs.Prelude.{Option, None, Some}
use native.Mathlib.Omega.{arith}
use lib.Dec.{leb, eqb}
use lib.ListN.{length, take, drop, length-append}
use borrow.Author.Tests.{eqb-true, eqb-false, ne_eqb, not-true}
use Rattle.format.specs.Bytes.{lf, cr}
use Rattle.format.specs.Texts.{starts_with, ends_with}
use Rattle.format.specs.Plain.{newline, newlines, Range, within, table, following, fits, begun}
use Rattle.laws.proofs.Tests.{and_left, and_right, by-test, absent, absent_append}
use Rattle.laws.proofs.Sequences.{high, table-high, within-high, within-ascii, begun_of_lem, begun-none}

pub newlines_other : (b : ℕ) (s : List ℕ) → (b ≡ cr → ⊥) → newlines (b ∷ s) ≡ b ∷ newlines s
unfolding newlines newline
newlines_other b s n = rw (ne_eqb b cr n)

pub newlines-cr : (s : List ℕ) → starts_with (lf ∷ []) s ≡ false → newlines (cr ∷ s) ≡ lf ∷ newlines s
unfolding newlines newline
newlines-cr s n = rw n

pub newlines_crlf : (s : List ℕ) → starts_with (lf ∷ []) s ≡ true → newlines (cr ∷ s) ≡ newlines s
unfolding newlines newline
newlines_crlf s y = rw y

-- what a piece becomes right before the byte d
pub before : ℕ → List ℕ → List ℕ
before d [] = []
before d (b ∷ s) = newline b (s ++ d ∷ []) ++ before d s

begins_seam : (a : List ℕ) (d : ℕ) (b : List ℕ) → starts_with (lf ∷ []) (a ++ d ∷ b) ≡ starts_with (lf ∷ []) (a ++ d ∷ [])
unfolding starts_with
begins_seam [] d b = refl
begins_seam (c ∷ a) d b = refl

newlines-before : (a : List ℕ) (d : ℕ) (b : List ℕ) → newlines (a ++ d ∷ b) ≡ before d a ++ newlines (d ∷ b)
unfolding before newlines newline
newlines-before [] d b = refl
newlines-before (c ∷ a) d b =
    rw (begins_seam a d b, newlines-before a d b) (sym (append_assoc (newline c (a ++ d ∷ [])) (before d a) (newlines (d ∷ b))))

before_same : (d : ℕ) (a : List ℕ) → ends_with cr a && eqb d lf ≡ false → before d a ≡ newlines a
unfolding before newlines newline ends_with starts_with
before_same d [] n = refl
before_same d (c ∷ []) n =
    by-test (eqb c cr) (λ y. let e : eqb d lf ≡ false = rw y at n in rw (y, e)) (λ y. rw y)
before_same d (c ∷ (x ∷ a)) n = ap (λ r. newline c (x ∷ a) ++ r) (before_same d (x ∷ a) n)

-- two pieces joined, where the seam cuts no CR LF pair
pub newlines_seam : (a : List ℕ) (d : ℕ) (b : List ℕ) → ends_with cr a && eqb d lf ≡ false → newlines (a ++ d ∷ b) ≡ newlines a ++ newlines (d ∷ b)
newlines_seam a d b n = newlines-before a d b ∙ rw (before_same d a n)

-- a piece that ends with LF, or with CR before no LF, gives one that ends with LF, whatever follows
pub newlines-after-lf : (a b : List ℕ) → newlines (a ++ lf ∷ b) ≡ before lf a ++ lf ∷ newlines b
newlines-after-lf a b = newlines-before a lf b ∙ rw (newlines_other lf b (λ e. omega arith))

pub newlines-after-cr : (a b : List ℕ) → starts_with (lf ∷ []) b ≡ false → newlines (a ++ cr ∷ b) ≡ before cr a ++ lf ∷ newlines b
newlines-after-cr a b n = newlines-before a cr b ∙ rw (newlines-cr b n)

newline-length : (b : ℕ) (s : List ℕ) → length (newline b s) ≤ 1
unfolding newline
newline-length b s =
    by-test (eqb b cr)
    (λ y. by-test (starts_with (lf ∷ []) s) (λ z. rw (y, z) (omega arith)) (λ z. rw (y, z) (omega arith)))
    (λ y. rw y (omega arith))

pub newlines-length : (s : List ℕ) → length (newlines s) ≤ length s
unfolding newlines
newlines-length [] = omega arith
newlines-length (b ∷ s) = omega (arith, length-append (newline b s) (newlines s), newline-length b s, newlines-length s)

newline_absent : (b : ℕ) (s : List ℕ) → absent cr (newline b s) ≡ true
unfolding newline absent
newline_absent b s =
    by-test (eqb b cr)
    (λ y. by-test (starts_with (lf ∷ []) s) (λ z. rw (y, z)) (λ z. rw (y, z)))
    (λ y. rw (y, y))

pub newlines_absent : (s : List ℕ) → absent cr (newlines s) ≡ true
unfolding newlines absent
newlines_absent [] = refl
newlines_absent (b ∷ s) = absent_append cr (newline b s) (newlines s) (newline_absent b s) (newlines_absent s)

pub newlines_keeps : (s : List ℕ) → absent cr s ≡ true → newlines s ≡ s
unfolding absent newlines
newlines_keeps [] a = refl
newlines_keeps (b ∷ s) a =
    newlines_other b s (eqb-false b cr (not-true (eqb b cr) (and_left (not (eqb b cr)) (absent cr s) a)))
    ∙ ap (λ r. b ∷ r) (newlines_keeps s (and_right (not (eqb b cr)) (absent cr s) a))

-- what begins with a line end does not begin with a byte from 0x80 on
fits-lf : (r : Range) (rs : List Range) (s : List ℕ) → leb 0x80 r.low ≡ true → fits (r ∷ rs) (lf ∷ s) ≡ 0
unfolding fits
fits-lf r rs s h = rw (within-ascii r lf h (omega arith))

pub newlines-begins : (s : List ℕ) → starts_with (lf ∷ []) s ≡ true → newlines s ≡ lf ∷ newlines (drop 1 s)
unfolding starts_with
newlines-begins [] y = absurd (false≢true y)
newlines-begins (b ∷ s) y =
    let e : b ≡ lf = eqb-true b lf (and_left (eqb b lf) true y) in
    newlines_other b s (λ q. omega arith) ∙ rw e

fits-cr : (r : Range) (rs : List Range) (s : List ℕ) → leb 0x80 r.low ≡ true → fits (r ∷ rs) (newlines (cr ∷ s)) ≡ 0
fits-cr r rs s h =
    by-test (starts_with (lf ∷ []) s)
    (λ y. rw (newlines_crlf s y, newlines-begins s y) (fits-lf r rs (newlines (drop 1 s)) h))
    (λ n. rw (newlines-cr s n) (fits-lf r rs (newlines s) h))

-- as many bytes follow a first byte before line ends are changed as after
pub fits-newlines : (rs : List Range) (s : List ℕ) → high rs ≡ true → fits rs (newlines s) ≡ fits rs s
unfolding fits high newlines
fits-newlines [] s h = refl
fits-newlines (r ∷ rs) [] h = refl
fits-newlines (r ∷ rs) (b ∷ s) h =
    let l = and_left (leb 0x80 r.low) (high rs) h in
    by-test (eqb b cr)
    (λ y. let e : b ≡ cr = eqb-true b cr y in
    rw e (fits-cr r rs s l ∙ sym (rw (within-ascii r cr l (omega arith)))))
    (λ n. rw (newlines_other b s (eqb-false b cr n))
    (ap (λ k. cond (within r b) (suc k) 0) (fits-newlines rs s (and_right (leb 0x80 r.low) (high rs) h))))

-- the first n bytes pass through: no line end is among them
pub record Through (s : List ℕ) (n : ℕ) : Type 0 where
  pub first : take n (newlines s) ≡ take n s
  pub rest : drop n (newlines s) ≡ newlines (drop n s)

-- bytes from 0x80 on pass through
fits_through : (rs : List Range) (s : List ℕ) → high rs ≡ true → Through s (fits rs s)
unfolding fits high
fits_through [] s h = record { first = refl; rest = refl }
fits_through (r ∷ rs) [] h = record { first = refl; rest = refl }
fits_through (r ∷ rs) (b ∷ s) h =
    by-test (within r b)
    (λ y.
    let l : 0x80 ≤ b = within-high r b (and_left (leb 0x80 r.low) (high rs) h) y in
    let t = fits_through rs s (and_right (leb 0x80 r.low) (high rs) h) in
    let o = newlines_other b s (λ e. omega arith) in
    rw y (record { first = rw o (ap (λ x. b ∷ x) t.first); rest = rw o t.rest }))
    (λ n. rw n (record { first = refl; rest = refl }))

pub begun_through : (b : ℕ) (s : List ℕ) → Through s (begun (b ∷ s))
begun_through b s = go (following table b) refl
  where
    go : (o : Option (List Range)) → following table b ≡ o → Through s (begun (b ∷ s))
    go None e = rw (begun-none b s e) (record { first = refl; rest = refl })
    go (Some rs) e = rw (begun_of_lem b s rs e) (fits_through rs s (table-high b rs e))
