-- What stands at a place of a raw file, by the tests that the code makes there.
use Prim.Native.Nat.{ℕ, zero, suc, ◌+◌, ◌≤◌, ◌<◌}
use mathlib.Core.Path.{◌≡◌, refl, sym, ap, ◌∙◌}
use mathlib.Core.Bool.{Bool, true, false, cond}
use mathlib.Core.List.{List, [], ◌∷◌}
use native.Mathlib.Omega.{arith}
use lib.ListN.{length, get_or, take, drop, length-append, length-drop, drop_of_length-le}
use lib.Seq.{drop-cons, drop-drop, length-take-le}
use lib.Dec.{ltb, eqb}
use borrow.Author.Tests.{eq-eqb, ne_eqb, eqb-true, eqb-false, ltb-true, ltb-false}
use Rattle.format.specs.Bytes.{nul, lf, cr}
use Rattle.format.specs.Texts.{starts_with}
use Rattle.format.specs.Plain.{newlines, sequence, begun, ill_formed, piece, repair_from, to_plain, plain_from, first_not_plain}
use Rattle.laws.proofs.Tests.{by-test}
use Rattle.laws.proofs.Runs.{drop-first}
use Rattle.laws.proofs.Sequences.{sequence-length, sequence-begun, begun-length, sequence-ascii}
use Rattle.laws.proofs.Repair.{piece-nul, piece_broken, piece-whole, piece-more}
use Rattle.laws.proofs.Plainness.{plain-sequence, plain-nul, plain-cr, plain_broken}
use Rattle.laws.proofs.PlainText.{to_plain-piece, to_plain-ascii, to_plain-cr, to_plain_crlf}
use Rattle.plain.specs.declared.pieces.Piece.{Piece}
use Rattle.plain.specs.declared.pieces.Piece.TheVariants.{Keep, Replace, Line, Pair}
use Rattle.plain.specs.Pieces.{Stays, taken_by, size_of, put_by, kept_or, run_of, piece_of, Stands}

module _ (s : List ℕ) (at : ℕ) (h : at < length s) where
  here : to_plain (drop at s) ≡ to_plain (get_or s at 0 ∷ drop (at + 1) s)
  here = ap to_plain (drop-first s at h)

  -- the tests of the byte here and of the next
  begins : (c : ℕ) (t : Bool) → eqb (get_or s at 0) c ≡ t → starts_with (c ∷ []) (drop at s) ≡ t
  unfolding starts_with
  begins c true e = rw (drop-first s at h, e)
  begins c false e = rw (drop-first s at h, e)

  next : starts_with (lf ∷ []) (drop 1 (drop at s)) ≡ starts_with (lf ∷ []) (drop (at + 1) s)
  next = ap (starts_with (lf ∷ [])) (drop-drop 1 at s)

  next_lf : at + 1 < length s → get_or s (at + 1) 0 ≡ lf → starts_with (lf ∷ []) (drop (at + 1) s) ≡ true
  unfolding starts_with
  next_lf l e = rw (drop-cons s (at + 1) 0 l, eq-eqb (get_or s (at + 1) 0) lf e)

  next_other : (at + 1 < length s → get_or s (at + 1) 0 ≡ lf → ⊥) → starts_with (lf ∷ []) (drop (at + 1) s) ≡ false
  unfolding starts_with
  next_other other =
      by-test (ltb (at + 1) (length s))
      (λ y. let l = ltb-true (at + 1) (length s) y in rw (drop-cons s (at + 1) 0 l, ne_eqb (get_or s (at + 1) 0) lf (other l)))
      (λ n. rw (drop_of_length-le s (ltb-false (at + 1) (length s) n)))

  -- which piece stands here
  pub piece_nul : get_or s at 0 ≡ nul → piece_of (drop at s) ≡ Replace 1
  unfolding piece_of
  piece_nul e = rw (begins nul true (eq-eqb (get_or s at 0) nul e))

  piece_cr : (t : Bool) → get_or s at 0 ≡ cr → starts_with (lf ∷ []) (drop (at + 1) s) ≡ t → piece_of (drop at s) ≡ cond t Pair Line
  unfolding piece_of
  piece_cr t e n =
      rw (begins nul false (ne_eqb (get_or s at 0) nul (λ z. omega arith)), begins cr true (eq-eqb (get_or s at 0) cr e), next, n)

  pub piece_pair : get_or s at 0 ≡ cr → at + 1 < length s → get_or s (at + 1) 0 ≡ lf → piece_of (drop at s) ≡ Pair
  piece_pair e l n = piece_cr true e (next_lf l n)

  pub piece_line : get_or s at 0 ≡ cr → (at + 1 < length s → get_or s (at + 1) 0 ≡ lf → ⊥) → piece_of (drop at s) ≡ Line
  piece_line e other = piece_cr false e (next_other other)

  pub piece_run : (get_or s at 0 ≡ nul → ⊥) → (get_or s at 0 ≡ cr → ⊥) → piece_of (drop at s) ≡ run_of (drop at s)
  unfolding piece_of
  piece_run z c = rw (begins nul false (ne_eqb (get_or s at 0) nul z), begins cr false (ne_eqb (get_or s at 0) cr c))

  at_pair : get_or s at 0 ≡ cr → starts_with (lf ∷ []) (drop (at + 1) s) ≡ true → Stands s at Pair
  at_pair c y = record { some = omega arith; inside = omega arith; text = here ∙ rw c (to_plain_crlf (drop (at + 1) s) y) }

  at_line : get_or s at 0 ≡ cr → starts_with (lf ∷ []) (drop (at + 1) s) ≡ false → Stands s at Line
  at_line c n = record { some = omega arith; inside = omega arith; text = here ∙ rw c (to_plain-cr (drop (at + 1) s) n) }

  at_nul : get_or s at 0 ≡ nul → Stands s at (Replace 1)
  at_nul z =
      record {
        some = omega arith;
        inside = omega arith;
        text = here ∙ to_plain-piece (get_or s at 0) (drop (at + 1) s) (λ e. omega arith) ∙ rw (piece-nul (get_or s at 0) (drop (at + 1) s) z);
      }

  -- a piece of as many bytes as the run at this place: the text goes on after it
  run_stands :
      (p : Piece)
      → (get_or s at 0 ≡ cr → ⊥)
      → taken_by p ≡ suc (begun (get_or s at 0 ∷ drop (at + 1) s))
      → (piece (get_or s at 0 ∷ drop (at + 1) s)).out ≡ put_by p (drop at s)
      → Stands s at p
  run_stands p c size out =
      let b = get_or s at 0 in
      let r = drop (at + 1) s in
      let k : at + 1 + begun (b ∷ r) ≡ at + taken_by p = omega arith in
      record {
        some = omega arith;
        inside = omega (arith, begun-length b r, length-drop (at + 1) s);
        text = here ∙ to_plain-piece b r c ∙ rw (out, piece-more b r, drop-drop (begun (b ∷ r)) (at + 1) s, k);
      }

  -- what stands here, where neither NUL nor CR does
  at_run : (get_or s at 0 ≡ nul → ⊥) → (get_or s at 0 ≡ cr → ⊥) → Stands s at (run_of (drop at s))
  unfolding kept_or ill_formed
  at_run z c = go (sequence (drop at s)) refl
    where
      go : (n : ℕ) → sequence (drop at s) ≡ n → Stands s at (run_of (drop at s))
      go zero q =
          rw q
          (run_stands (Replace (suc (begun (drop at s)))) c (ap (λ t. suc (begun t)) (drop-first s at h))
          (ap (λ p. p.out) (piece_broken (get_or s at 0) (drop (at + 1) s) z (ap sequence (sym (drop-first s at h)) ∙ q))))
      go (suc n) q =
          let b = get_or s at 0 in
          let r = drop (at + 1) s in
          let e : sequence (b ∷ r) ≡ suc n = ap sequence (sym (drop-first s at h)) ∙ q in
          rw q
          (run_stands (Keep (suc n)) c (ap suc (sym (sequence-begun b r n e)))
          (ap (λ p. p.out) (piece-whole b r n z e) ∙ ap (take (suc n)) (sym (drop-first s at h))))

  the_piece_stands : Stands s at (piece_of (drop at s))
  the_piece_stands =
      by-test (eqb (get_or s at 0) nul)
      (λ y. let z = eqb-true (get_or s at 0) nul y in rw (piece_nul z) (at_nul z))
      (λ n. let z = eqb-false (get_or s at 0) nul n in
      by-test (eqb (get_or s at 0) cr)
      (λ y. let c = eqb-true (get_or s at 0) cr y in
      by-test (starts_with (lf ∷ []) (drop (at + 1) s)) (λ y'. rw (piece_cr true c y') (at_pair c y')) (λ n'. rw (piece_cr false c n') (at_line c n')))
      (λ n'. let c = eqb-false (get_or s at 0) cr n' in rw (piece_run z c) (at_run z c)))

  pub piece_stands : (p : Piece) → p ≡ piece_of (drop at s) → Stands s at p
  piece_stands p e = rw e the_piece_stands

  -- a byte that stays
  pub at_stays : Stays (get_or s at 0) → to_plain (drop at s) ≡ get_or s at 0 ∷ to_plain (drop (at + 1) s)
  at_stays k = here ∙ to_plain-ascii (get_or s at 0) (drop (at + 1) s) k.not_nul k.not_cr k.ascii

-- what a piece becomes has the length that `size` says
pub put_size : (s : List ℕ) (at : ℕ) (p : Piece) → at + taken_by p ≤ length s → length (put_by p (drop at s)) ≡ size_of p
put_size s at (Keep n) h = length-take-le n (drop at s) (omega (arith, length-drop at s))
put_size s at (Replace n) h = refl
put_size s at Line h = refl
put_size s at Pair h = refl

-- the lengths of a piece and of the text after it
pub stands_size :
    (s : List ℕ) (at : ℕ) (p : Piece)
    → Stands s at p
    → length (to_plain (drop at s)) ≡ size_of p + length (to_plain (drop (at + taken_by p) s))
stands_size s at p k =
    ap length k.text
    ∙ length-append (put_by p (drop at s)) (to_plain (drop (at + taken_by p) s))
    ∙ ap (λ n. n + length (to_plain (drop (at + taken_by p) s))) (put_size s at p k.inside)

pub at_end : (s : List ℕ) (at : ℕ) → length s ≤ at → to_plain (drop at s) ≡ []
unfolding to_plain newlines repair_from
at_end s at h = rw (drop_of_length-le s h) refl

-- the same places, for a text that is tested
module _ (s : List ℕ) (at : ℕ) (h : at < length s) where
  plain_at :
      (n : ℕ)
      → (get_or s at 0 ≡ nul → ⊥)
      → (get_or s at 0 ≡ cr → ⊥)
      → sequence (drop at s) ≡ suc n
      → (at + suc n ≤ length s) × (first_not_plain (drop at s) ≡ suc n + first_not_plain (drop (at + suc n) s))
  plain_at n z c q =
      let b = get_or s at 0 in
      let r = drop (at + 1) s in
      let e : sequence (b ∷ r) ≡ suc n = ap sequence (sym (drop-first s at h)) ∙ q in
      let k : at + 1 + n ≡ at + suc n = omega arith in (
        omega (arith, sequence-length b r n e, length-drop (at + 1) s),
        ap first_not_plain (drop-first s at h)
            ∙ plain-sequence b r n (record { not_nul = z; not_cr = c; stands = e })
            ∙ rw (drop-drop n (at + 1) s, k),
      )

  plain_at_nul : get_or s at 0 ≡ nul → first_not_plain (drop at s) ≡ 0
  plain_at_nul e = ap first_not_plain (drop-first s at h) ∙ plain-nul (get_or s at 0) (drop (at + 1) s) e

  plain_at_cr : get_or s at 0 ≡ cr → first_not_plain (drop at s) ≡ 0
  plain_at_cr e = ap first_not_plain (drop-first s at h) ∙ plain-cr (get_or s at 0) (drop (at + 1) s) e

  plain_at_run :
      (n : ℕ)
      → (get_or s at 0 ≡ nul → ⊥)
      → (get_or s at 0 ≡ cr → ⊥)
      → run_of (drop at s) ≡ Keep n
      → (0 < n) × (at + n ≤ length s) × (first_not_plain (drop at s) ≡ n + first_not_plain (drop (at + n) s))
  unfolding kept_or
  plain_at_run n z c e = go (sequence (drop at s)) refl
    where
      go :
          (m : ℕ)
          → sequence (drop at s) ≡ m
          → (0 < n) × (at + n ≤ length s) × (first_not_plain (drop at s) ≡ n + first_not_plain (drop (at + n) s))
      go zero q =
          let f : Replace (suc (begun (drop at s))) ≡ Keep n = rw q at e in
          cc
      go (suc m) q =
          let f : Keep (suc m) ≡ Keep n = rw q at e in
          let k : n ≡ suc m = cc in
          let p = plain_at m z c q in
          rw k (omega arith, p.0, p.1)

  plain_at_other : ((n : ℕ) → run_of (drop at s) ≡ Keep n → ⊥) → first_not_plain (drop at s) ≡ 0
  unfolding kept_or
  plain_at_other other = go (sequence (drop at s)) refl
    where
      go : (m : ℕ) → sequence (drop at s) ≡ m → first_not_plain (drop at s) ≡ 0
      go zero q = ap first_not_plain (drop-first s at h) ∙ plain_broken (get_or s at 0) (drop (at + 1) s) (ap sequence (sym (drop-first s at h)) ∙ q)
      go (suc m) q = absurd (other (suc m) (rw q))

  -- the text goes on after a piece of n bytes that stays; where any other stands, it is not plain here
  pub plain_at_piece :
      (n : ℕ)
      → piece_of (drop at s) ≡ Keep n
      → (0 < n) × (at + n ≤ length s) × (first_not_plain (drop at s) ≡ n + first_not_plain (drop (at + n) s))
  plain_at_piece n e =
      by-test (eqb (get_or s at 0) nul)
      (λ y. let f : Replace 1 ≡ Keep n = sym (piece_nul s at h (eqb-true (get_or s at 0) nul y)) ∙ e in cc)
      (λ n'. let z = eqb-false (get_or s at 0) nul n' in
      by-test (eqb (get_or s at 0) cr)
      (λ y. by-test (starts_with (lf ∷ []) (drop (at + 1) s)) (λ t. let f : Pair ≡ Keep n = sym (piece_cr s at h true (eqb-true (get_or s at 0) cr y) t) ∙ e in cc) (λ t. let f : Line ≡ Keep n = sym (piece_cr s at h false (eqb-true (get_or s at 0) cr y) t) ∙ e in cc))
      (λ m. let c = eqb-false (get_or s at 0) cr m in plain_at_run n z c (sym (piece_run s at h z c) ∙ e)))

  pub plain_at_no_piece : ((n : ℕ) → piece_of (drop at s) ≡ Keep n → ⊥) → first_not_plain (drop at s) ≡ 0
  plain_at_no_piece other =
      by-test (eqb (get_or s at 0) nul)
      (λ y. plain_at_nul (eqb-true (get_or s at 0) nul y))
      (λ n. let z = eqb-false (get_or s at 0) nul n in
      by-test (eqb (get_or s at 0) cr)
      (λ y. plain_at_cr (eqb-true (get_or s at 0) cr y))
      (λ m. let c = eqb-false (get_or s at 0) cr m in plain_at_other (λ k e. other k (piece_run s at h z c ∙ e))))

  pub plain_at_stays : Stays (get_or s at 0) → first_not_plain (drop at s) ≡ 1 + first_not_plain (drop (at + 1) s)
  plain_at_stays k =
      (plain_at 0 k.not_nul k.not_cr (ap sequence (drop-first s at h) ∙ sequence-ascii (get_or s at 0) (drop (at + 1) s) k.ascii)).1

pub plain_at_end : (s : List ℕ) (at : ℕ) → length s ≤ at → first_not_plain (drop at s) ≡ 0
unfolding plain_from
plain_at_end s at h = rw (drop_of_length-le s h) refl
