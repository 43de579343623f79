-- The table of well-formed sequences: a sequence is never longer than the text, does not look beyond itself, and after its first byte
-- holds bytes from 0x80 on only, so that no line end and no other ASCII byte is ever inside one.
use Prim.Native.Nat.{ℕ, suc, ◌≤◌, ◌<◌}
use mathlib.Core.Path.{◌≡◌, refl, ap}
use mathlib.Core.Bool.{Bool, true, false, cond, ◌&&◌}
use mathlib.Core.List.{List, [], ◌∷◌, ◌++◌}
use Rattle.std.specs.Prelude.{Option, None, Some}
use native.Mathlib.Omega.{arith}
use lib.Dec.{leb, eqb}
use lib.ListN.{length, take}
use borrow.Author.Tests.{leb-true, lt-leb, le-leb, eqb-true, eqb-false, eq-eqb, ne_eqb}
use Rattle.format.specs.Plain.{Range, Row, within, table, following, fits, sequence_of, sequence, begun_of, begun}
use Rattle.laws.proofs.Tests.{and_left, and_right, by-test}

-- every byte of these ranges is 0x80 or above
unfoldable pub high : List Range → Bool
high [] = true
high (r ∷ rs) = leb 0x80 r.low && high rs

-- none of these ranges is empty
unfoldable pub nonempty : List Range → Bool
nonempty [] = true
nonempty (r ∷ rs) = within r r.low && nonempty rs

-- a test that the ranges of every row pass
all_rows : (List Range → Bool) → List Row → Bool
all_rows f [] = true
all_rows f (r ∷ rs) = f r.rest && all_rows f rs

following-all :
    (f : List Range → Bool) (t : List Row) (b : ℕ) (rs : List Range)
    → all_rows f t ≡ true
    → following t b ≡ Some rs
    → f rs ≡ true
unfolding all_rows following
following-all f [] b rs h e = cc
following-all f (r ∷ t) b rs h e =
    by-test (within r.first b)
    (λ w. let q : Some r.rest ≡ Some rs = rw w at e in let p : r.rest ≡ rs = cc in rw p at (and_left (f r.rest) (all_rows f t) h))
    (λ w. following-all f t b rs (and_right (f r.rest) (all_rows f t) h) (rw w at e))

-- the ranges after a first byte that the table has
pub table-high : (b : ℕ) (rs : List Range) → following table b ≡ Some rs → high rs ≡ true
unfolding table all_rows high
table-high b rs e = following-all high table b rs refl e

pub table_nonempty : (b : ℕ) (rs : List Range) → following table b ≡ Some rs → nonempty rs ≡ true
unfolding table all_rows nonempty within
table_nonempty b rs e = following-all nonempty table b rs refl e

pub within-high : (r : Range) (b : ℕ) → leb 0x80 r.low ≡ true → within r b ≡ true → 0x80 ≤ b
unfolding within
within-high r b h w = omega (arith, leb-true 0x80 r.low h, leb-true r.low b (and_left _ _ w))

pub within-ascii : (r : Range) (b : ℕ) → leb 0x80 r.low ≡ true → b < 0x80 → within r b ≡ false
unfolding within
within-ascii r b h l = rw (lt-leb r.low b (omega (arith, leb-true 0x80 r.low h)))

-- an ASCII byte ends what can follow a first byte
pub fits-ascii : (rs : List Range) (x : List ℕ) (b : ℕ) (s : List ℕ) → high rs ≡ true → b < 0x80 → fits rs (x ++ b ∷ s) ≡ fits rs x
unfolding fits high
fits-ascii [] x b s h l = refl
fits-ascii (r ∷ rs) [] b s h l = rw (within-ascii r b (and_left _ _ h) l)
fits-ascii (r ∷ rs) (c ∷ x) b s h l =
    ap (λ n. cond (within r c) (suc n) 0) (fits-ascii rs x b s (and_right (leb 0x80 r.low) (high rs) h) l)

-- no more bytes fit than there are, and no more than there are ranges
pub fits-length : (rs : List Range) (s : List ℕ) → (fits rs s ≤ length s) × (fits rs s ≤ length rs)
unfolding fits
fits-length [] s = omega arith
fits-length (r ∷ rs) [] = omega arith
fits-length (r ∷ rs) (b ∷ s) =
    by-test (within r b) (λ y. rw y (omega (arith, fits-length rs s))) (λ n. rw n (omega arith))

-- where all ranges fit, the first byte is of the first of them
pub fits-first :
    (r : Range) (rs : List Range) (b : ℕ) (s : List ℕ)
    → fits (r ∷ rs) (b ∷ s) ≡ suc (length rs)
    → (within r b ≡ true) × (fits rs s ≡ length rs)
unfolding fits
fits-first r rs b s f =
    by-test (within r b)
    (λ y. let e : suc (fits rs s) ≡ suc (length rs) = rw y at f in (y, omega arith))
    (λ n. let e : 0 ≡ suc (length rs) = rw n at f in absurd (omega arith))

pub fits-take : (rs : List Range) (s t : List ℕ) → fits rs s ≡ length rs → fits rs (take (length rs) s ++ t) ≡ length rs
unfolding fits
fits-take [] s t f = refl
fits-take (r ∷ rs) [] t f = absurd (omega arith)
fits-take (r ∷ rs) (b ∷ s) t f = let p = fits-first r rs b s f in rw p.0 (ap suc (fits-take rs s t p.1))

-- a sequence and a run look at what follows their first byte by `fits` alone
module _ (b : ℕ) (s t : List ℕ) (same : (rs : List Range) → high rs ≡ true → fits rs s ≡ fits rs t) where
  rows : (o : Option (List Range)) → following table b ≡ o → (sequence_of o s ≡ sequence_of o t) × (begun_of o s ≡ begun_of o t)
  unfolding sequence_of begun_of
  rows None e = (refl, refl)
  rows (Some rs) e =
      let f = same rs (table-high b rs e) in
      (ap (λ n. cond (eqb n (length rs)) (suc (length rs)) 0) f, f)

  pub sequence-same : sequence (b ∷ s) ≡ sequence (b ∷ t)
  unfolding sequence
  sequence-same = (rows (following table b) refl).0

  pub begun-same : begun (b ∷ s) ≡ begun (b ∷ t)
  unfolding begun
  begun-same = (rows (following table b) refl).1

pub sequence_of_lem : (b : ℕ) (s : List ℕ) (rs : List Range) → following table b ≡ Some rs → fits rs s ≡ length rs → sequence (b ∷ s) ≡ suc (length rs)
unfolding sequence sequence_of
sequence_of_lem b s rs e f = rw (e, eq-eqb (fits rs s) (length rs) f)

pub sequence_broken : (b : ℕ) (s : List ℕ) (rs : List Range) → following table b ≡ Some rs → (fits rs s ≡ length rs → ⊥) → sequence (b ∷ s) ≡ 0
unfolding sequence sequence_of
sequence_broken b s rs e f = rw (e, ne_eqb (fits rs s) (length rs) f)

pub sequence-none : (b : ℕ) (s : List ℕ) → following table b ≡ None → sequence (b ∷ s) ≡ 0
unfolding sequence sequence_of
sequence-none b s e = rw e

pub begun_of_lem : (b : ℕ) (s : List ℕ) (rs : List Range) → following table b ≡ Some rs → begun (b ∷ s) ≡ fits rs s
unfolding begun begun_of
begun_of_lem b s rs e = rw e

pub begun-none : (b : ℕ) (s : List ℕ) → following table b ≡ None → begun (b ∷ s) ≡ 0
unfolding begun begun_of
begun-none b s e = rw e

-- what a well-formed sequence of suc n bytes, b and the first n of s, is made of
pub record WellFormed (b : ℕ) (s : List ℕ) (n : ℕ) : Type 0 where
  pub rest : List Range
  pub known : following table b ≡ Some rest
  pub high : high rest ≡ true
  pub stands : fits rest s ≡ length rest
  pub size : n ≡ length rest

pub well_formed : (b : ℕ) (s : List ℕ) (n : ℕ) → sequence (b ∷ s) ≡ suc n → WellFormed b s n
well_formed b s n q = go (following table b) refl
  where
    go : (o : Option (List Range)) → following table b ≡ o → WellFormed b s n
    go None e = absurd (omega (arith, sequence-none b s e))
    go (Some rs) e =
        by-test (eqb (fits rs s) (length rs))
        (λ f. let g = eqb-true (fits rs s) (length rs) f in
        record { rest = rs; known = e; high = table-high b rs e; stands = g; size = omega (arith, sequence_of_lem b s rs e g) })
        (λ f. absurd (omega (arith, sequence_broken b s rs e (eqb-false (fits rs s) (length rs) f))))

-- a well-formed sequence is as long as the run at its place
pub sequence-begun : (b : ℕ) (s : List ℕ) (n : ℕ) → sequence (b ∷ s) ≡ suc n → begun (b ∷ s) ≡ n
sequence-begun b s n q =
    let w = well_formed b s n q in omega (arith, begun_of_lem b s w.rest w.known, w.stands, w.size)

pub begun-length : (b : ℕ) (s : List ℕ) → begun (b ∷ s) ≤ length s
begun-length b s = go (following table b) refl
  where
    go : (o : Option (List Range)) → following table b ≡ o → begun (b ∷ s) ≤ length s
    go None e = omega (arith, begun-none b s e)
    go (Some rs) e = omega (arith, begun_of_lem b s rs e, fits-length rs s)

pub sequence-length : (b : ℕ) (s : List ℕ) (n : ℕ) → sequence (b ∷ s) ≡ suc n → n ≤ length s
sequence-length b s n q = omega (arith, begun-length b s, sequence-begun b s n q)

-- a sequence is one before any other text too
pub sequence-take : (b : ℕ) (s t : List ℕ) (n : ℕ) → sequence (b ∷ s) ≡ suc n → sequence (b ∷ (take n s ++ t)) ≡ suc n
sequence-take b s t n q =
    let w = well_formed b s n q in
    rw w.size (sequence_of_lem b (take (length w.rest) s ++ t) w.rest w.known (fits-take w.rest s t w.stands))

pub sequence-ascii : (b : ℕ) (s : List ℕ) → b < 0x80 → sequence (b ∷ s) ≡ 1
unfolding sequence sequence_of following table within fits
sequence-ascii b s l = rw (le-leb 0 b (omega arith), le-leb b 0x7F (omega arith))
