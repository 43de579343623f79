-- `repair` piece by piece: each piece is no longer than the text, puts out at most three bytes for each of its own, and ends before
-- any ASCII byte, so that texts joined there are repaired one by one.
use Prim.Native.Nat.{ℕ, zero, suc, ◌*◌, ◌-◌, ◌≤◌, ◌<◌}
use mathlib.Core.Path.{◌≡◌, refl, sym, ap, ◌∙◌}
use mathlib.Core.Bool.{true, false, cond, not}
use mathlib.Core.List.{List, [], ◌∷◌, ◌++◌, append_assoc}
use native.Mathlib.Omega.{arith}
use lib.Dec.{eqb}
use lib.ListN.{length, take, drop, length-append, length-take}
use lib.Seq.{take-append-le}
use borrow.Author.Tests.{eqb-true, eqb-false, eq-eqb, ne_eqb}
use Rattle.format.specs.Bytes.{nul, lf, replacement}
use Rattle.format.specs.Texts.{starts_with}
use Rattle.format.specs.Plain.{Range, fits, sequence, begun, ill_formed, kept, piece, repair_from, repair}
use Rattle.laws.proofs.Tests.{and_right, by-test, absent, absent_append, absent_take}
use Rattle.laws.proofs.Sequences.{high, fits-ascii, sequence-same, begun-same, sequence-begun, begun-length, sequence-ascii}

pub piece-nul : (b : ℕ) (s : List ℕ) → b ≡ nul → piece (b ∷ s) ≡ record { more = 0; out = replacement }
unfolding piece starts_with
piece-nul b s z = rw (eq-eqb b nul z)

pub piece_broken : (b : ℕ) (s : List ℕ) → (b ≡ nul → ⊥) → sequence (b ∷ s) ≡ 0 → piece (b ∷ s) ≡ ill_formed (b ∷ s)
unfolding piece starts_with kept
piece_broken b s z q = rw (ne_eqb b nul z, q)

pub piece-whole : (b : ℕ) (s : List ℕ) (n : ℕ) → (b ≡ nul → ⊥) → sequence (b ∷ s) ≡ suc n → piece (b ∷ s) ≡ record { more = n; out = b ∷ take n s }
unfolding piece starts_with kept
piece-whole b s n z q = rw (ne_eqb b nul z, q)

-- the three kinds of pieces
pub data PieceKind (b : ℕ) (s : List ℕ) : Type 0 where
  zero_byte : b ≡ nul → piece (b ∷ s) ≡ record { more = 0; out = replacement } → PieceKind b s
  broken : (b ≡ nul → ⊥) → sequence (b ∷ s) ≡ 0 → piece (b ∷ s) ≡ ill_formed (b ∷ s) → PieceKind b s
  whole : (n : ℕ) → (b ≡ nul → ⊥) → sequence (b ∷ s) ≡ suc n → piece (b ∷ s) ≡ record { more = n; out = b ∷ take n s } → PieceKind b s

pub kind : (b : ℕ) (s : List ℕ) → PieceKind b s
kind b s =
    by-test (eqb b nul)
    (λ y. zero_byte (eqb-true b nul y) (piece-nul b s (eqb-true b nul y)))
    (λ n. go n (sequence (b ∷ s)) refl)
  where
    go : eqb b nul ≡ false → (k : ℕ) → sequence (b ∷ s) ≡ k → PieceKind b s
    go n zero e = broken (eqb-false b nul n) e (piece_broken b s (eqb-false b nul n) e)
    go n (suc k) e = whole k (eqb-false b nul n) e (piece-whole b s k (eqb-false b nul n) e)

-- two texts with one first byte begin with the same piece where as many bytes of both can follow it, and these are the same
pub piece-same :
    (b : ℕ) (s t : List ℕ)
    → ((rs : List Range) → high rs ≡ true → fits rs s ≡ fits rs t)
    → take (begun (b ∷ t)) s ≡ take (begun (b ∷ t)) t
    → piece (b ∷ s) ≡ piece (b ∷ t)
unfolding piece starts_with kept ill_formed
piece-same b s t fit same =
    ap (λ p. cond (starts_with (nul ∷ []) (b ∷ s)) (record { more = 0; out = replacement }) p) (go (sequence (b ∷ t)) refl)
  where
    go : (k : ℕ) → sequence (b ∷ t) ≡ k → kept (sequence (b ∷ s)) (b ∷ s) ≡ kept (sequence (b ∷ t)) (b ∷ t)
    go zero q = rw (sequence-same b s t fit, q, begun-same b s t fit)
    go (suc n) q = rw (sequence-same b s t fit, q, rw (sequence-begun b t n q) at same)

-- a piece reaches as far as the run at its place: a NUL is a run of its own, and a well-formed sequence is one
pub piece-more : (b : ℕ) (s : List ℕ) → (piece (b ∷ s)).more ≡ begun (b ∷ s)
unfolding ill_formed
piece-more b s =
    elim (kind b s) [
      | zero_byte z e ↦ rw e (sym (sequence-begun b s 0 (sequence-ascii b s (omega arith))))
      | broken z q e ↦ rw e refl
      | whole n z q e ↦ rw e (sym (sequence-begun b s n q))
    ]

pub piece_inside : (b : ℕ) (s : List ℕ) → (piece (b ∷ s)).more ≤ length s
piece_inside b s = omega (arith, piece-more b s, begun-length b s)

piece-out : (b : ℕ) (s : List ℕ) → length (piece (b ∷ s)).out ≤ 3 * suc (piece (b ∷ s)).more
unfolding ill_formed
piece-out b s =
    elim (kind b s) [
      | zero_byte z e ↦ rw e (omega arith)
      | broken z q e ↦ rw e (omega arith)
      | whole n z q e ↦ rw e (omega (arith, length-take n s))
    ]

pub repair-drop : (n : ℕ) (s : List ℕ) → repair_from n s ≡ repair (drop n s)
unfolding repair_from
repair-drop zero [] = refl
repair-drop (suc n) [] = refl
repair-drop zero (b ∷ s) = refl
repair-drop (suc n) (b ∷ s) = repair-drop n s

pub repair-piece : (b : ℕ) (s : List ℕ) → repair (b ∷ s) ≡ (piece (b ∷ s)).out ++ repair (drop (piece (b ∷ s)).more s)
unfolding repair_from
repair-piece b s = ap (λ r. (piece (b ∷ s)).out ++ r) (repair-drop (piece (b ∷ s)).more s)

pub piece-ascii : (b : ℕ) (s : List ℕ) → (b ≡ nul → ⊥) → b < 0x80 → piece (b ∷ s) ≡ record { more = 0; out = b ∷ [] }
unfolding piece starts_with kept
piece-ascii b s n l = rw (ne_eqb b nul n, sequence-ascii b s l)

pub repair-ascii : (b : ℕ) (s : List ℕ) → (b ≡ nul → ⊥) → b < 0x80 → repair (b ∷ s) ≡ b ∷ repair s
repair-ascii b s n l = repair-piece b s ∙ rw (piece-ascii b s n l)

repair-bound : (n : ℕ) (s : List ℕ) → length (repair_from n s) ≤ 3 * (length s - n)
unfolding repair_from
repair-bound n [] = omega arith
repair-bound (suc n) (b ∷ s) = omega (arith, repair-bound n s)
repair-bound zero (b ∷ s) =
    let p = piece (b ∷ s) in
    omega
    (arith, length-append p.out (repair_from p.more s), piece-out b s, piece_inside b s, repair-bound p.more s)

pub repair-length : (s : List ℕ) → length (repair s) ≤ 3 * length s
repair-length s = omega (arith, repair-bound 0 s)

-- a text before an ASCII byte
piece_seam : (c : ℕ) (x : List ℕ) (d : ℕ) (s : List ℕ) → d < 0x80 → piece (c ∷ (x ++ d ∷ s)) ≡ piece (c ∷ x)
piece_seam c x d s l =
    piece-same c (x ++ d ∷ s) x (λ rs h. fits-ascii rs x d s h l) (take-append-le (begun (c ∷ x)) x (d ∷ s) (begun-length c x))

repair-before : (n : ℕ) (x : List ℕ) (d : ℕ) (s : List ℕ) → d < 0x80 → n ≤ length x → repair_from n (x ++ d ∷ s) ≡ repair_from n x ++ repair (d ∷ s)
unfolding repair_from
repair-before zero [] d s l h = refl
repair-before (suc n) [] d s l h = absurd (omega arith)
repair-before (suc n) (c ∷ x) d s l h = repair-before n x d s l (omega arith)
repair-before zero (c ∷ x) d s l h =
    let p = piece (c ∷ x) in
    rw (piece_seam c x d s l, repair-before p.more x d s l (piece_inside c x))
    (sym (append_assoc p.out (repair_from p.more x) (repair (d ∷ s))))

pub repair_seam : (x : List ℕ) (d : ℕ) (s : List ℕ) → d < 0x80 → repair (x ++ d ∷ s) ≡ repair x ++ repair (d ∷ s)
repair_seam x d s l = repair-before 0 x d s l (omega arith)

pub repair_line : (x y : List ℕ) → repair (x ++ lf ∷ y) ≡ repair x ++ lf ∷ repair y
repair_line x y = repair_seam x lf y (omega arith) ∙ rw (repair-ascii lf y (λ e. omega arith) (omega arith))

-- no ASCII byte comes into a text by its repair
absent_replacement : (c : ℕ) → c < 0x80 → absent c replacement ≡ true
unfolding absent
absent_replacement c l =
    rw (ne_eqb 0xEF c (λ e. omega arith), ne_eqb 0xBF c (λ e. omega arith), ne_eqb 0xBD c (λ e. omega arith))

piece_absent : (c b : ℕ) (s : List ℕ) → c < 0x80 → absent c (b ∷ s) ≡ true → absent c (piece (b ∷ s)).out ≡ true
unfolding ill_formed
piece_absent c b s l a =
    elim (kind b s) [
      | zero_byte z e ↦ rw e (absent_replacement c l)
      | broken z q e ↦ rw e (absent_replacement c l)
      | whole n z q e ↦ rw e (absent_take c (suc n) (b ∷ s) a)
    ]

pub repair_absent : (c n : ℕ) (s : List ℕ) → c < 0x80 → absent c s ≡ true → absent c (repair_from n s) ≡ true
unfolding repair_from absent
repair_absent c n [] l a = refl
repair_absent c (suc n) (b ∷ s) l a = repair_absent c n s l (and_right (not (eqb b c)) (absent c s) a)
repair_absent c zero (b ∷ s) l a =
    let p = piece (b ∷ s) in
    absent_append c p.out (repair_from p.more s) (piece_absent c b s l a)
    (repair_absent c p.more s l (and_right (not (eqb b c)) (absent c s) a))
