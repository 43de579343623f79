-- Where a file may be cut so that its pieces are converted one by one, and a byte order mark before what follows it.
use Prim.Native.Nat.{ℕ, zero, suc, ◌≤◌}
use mathlib.Core.Path.{◌≡◌, refl, sym, ap, ◌∙◌}
use mathlib.Core.Bool.{Bool, true, false, not, ◌&&◌, false≢true}
use mathlib.Core.List.{List, [], ◌∷◌, ◌++◌, append-nil, append_assoc}
use native.Mathlib.Omega.{arith}
use lib.Dec.{eqb}
use lib.ListN.{length, drop}
use lib.Seq.{drop-append-le}
use borrow.Author.Tests.{ne_eqb, eqb-false, not-true}
use Rattle.format.specs.Bytes.{lf, cr, byte_order_mark}
use Rattle.format.specs.Texts.{starts_with, ends_with}
use Rattle.format.specs.Plain.{drop_bom, newlines, repair_from, repair, to_plain, plain_text}
use Rattle.laws.proofs.Tests.{and_left, and_right, by-test, absent}
use Rattle.laws.proofs.Newlines.{before, newlines_other, newlines-cr, newlines_crlf, newlines-begins, newlines_seam, newlines-after-lf, newlines-after-cr}
use Rattle.laws.proofs.Repair.{repair_seam, repair_line}

-- The seams between two pieces that stand right after a whole line end, right before one, or at the end. LF after CR is one line end
-- with it, so no seam stands between the two.
pub data Seam : List ℕ → List ℕ → Type 0 where
  after-lf : (a : List ℕ) {b : List ℕ} → Seam (a ++ lf ∷ []) b
  after-cr : (a : List ℕ) {b : List ℕ} → starts_with (lf ∷ []) b ≡ false → Seam (a ++ cr ∷ []) b
  before-lf : {a b : List ℕ} → ends_with cr a ≡ false → Seam a (lf ∷ b)
  before-cr : {a b : List ℕ} → Seam a (cr ∷ b)
  at_end : {a : List ℕ} → Seam a []

-- the piece before the seam gives a whole line
to_plain-after : (a b x : List ℕ) → newlines a ≡ x ++ lf ∷ [] → newlines (a ++ b) ≡ x ++ lf ∷ newlines b → to_plain (a ++ b) ≡ to_plain a ++ to_plain b
unfolding to_plain repair_from
to_plain-after a b x e f =
    rw (e, f, repair_line x (newlines b), repair_line x []) (sym (append_assoc (repair x) (lf ∷ []) (repair (newlines b))))

-- the piece after the seam begins with a line end
to_plain-before : (a b x : List ℕ) → newlines b ≡ lf ∷ x → newlines (a ++ b) ≡ newlines a ++ newlines b → to_plain (a ++ b) ≡ to_plain a ++ to_plain b
unfolding to_plain
to_plain-before a b x e f = rw (f, e) (repair_seam (newlines a) lf x (omega arith))

begins-nothing : starts_with (lf ∷ []) [] ≡ false
unfolding starts_with
begins-nothing = refl

never_lf : (t : Bool) → t && eqb cr lf ≡ false
never_lf true = refl
never_lf false = refl

pub to_plain_seam : {a b : List ℕ} → Seam a b → to_plain (a ++ b) ≡ to_plain a ++ to_plain b
unfolding newlines to_plain repair_from
to_plain_seam (after-lf a {b}) =
    to_plain-after (a ++ lf ∷ []) b (before lf a) (newlines-after-lf a []) (rw (append_assoc a (lf ∷ []) b) (newlines-after-lf a b))
to_plain_seam (after-cr a {b} n) =
    to_plain-after (a ++ cr ∷ []) b (before cr a) (newlines-after-cr a [] begins-nothing)
    (rw (append_assoc a (cr ∷ []) b) (newlines-after-cr a b n))
to_plain_seam (before-lf {a} {b} n) =
    to_plain-before a (lf ∷ b) (newlines b) (newlines_other lf b (λ e. omega arith)) (newlines_seam a lf b (rw n))
to_plain_seam (before-cr {a} {b}) =
    let seam = newlines_seam a cr b (never_lf (ends_with cr a)) in
    by-test (starts_with (lf ∷ []) b)
    (λ y. to_plain-before a (cr ∷ b) (newlines (drop 1 b)) (newlines_crlf b y ∙ newlines-begins b y) seam)
    (λ n. to_plain-before a (cr ∷ b) (newlines b) (newlines-cr b n) seam)
to_plain_seam (at_end {a}) = rw (append-nil a) (sym (append-nil (to_plain a)))

-- no ASCII byte is in EF BB BF, so that it stands on one side of a seam
pub starts_with-before : (p a : List ℕ) (d : ℕ) (b : List ℕ) → absent d p ≡ true → starts_with p (a ++ d ∷ b) ≡ starts_with p a
unfolding starts_with absent
starts_with-before [] a d b n = refl
starts_with-before (c ∷ p) [] d b n =
    rw (ne_eqb d c (λ e. eqb-false c d (not-true (eqb c d) (and_left (not (eqb c d)) (absent d p) n)) (sym e)))
starts_with-before (c ∷ p) (x ∷ a) d b n = ap (λ t. eqb x c && t) (starts_with-before p a d b (and_right (not (eqb c d)) (absent d p) n))

pub starts_with-length : (p s : List ℕ) → starts_with p s ≡ true → length p ≤ length s
unfolding starts_with
starts_with-length [] s e = omega arith
starts_with-length (c ∷ p) [] e = absurd (false≢true e)
starts_with-length (c ∷ p) (b ∷ s) e = omega (arith, starts_with-length p s (and_right (eqb b c) (starts_with p s) e))

pub drop_bom-before : (a : List ℕ) (d : ℕ) (b : List ℕ) → absent d byte_order_mark ≡ true → drop_bom (a ++ d ∷ b) ≡ drop_bom a ++ d ∷ b
unfolding drop_bom
drop_bom-before a d b n =
    rw (starts_with-before byte_order_mark a d b n)
    (by-test (starts_with byte_order_mark a)
    (λ y. rw y (drop-append-le 3 a (d ∷ b) (starts_with-length byte_order_mark a y)))
    (λ f. rw f))

ends_with-drop : (c n : ℕ) (a : List ℕ) → ends_with c a ≡ false → ends_with c (drop n a) ≡ false
unfolding ends_with
ends_with-drop c zero a e = e
ends_with-drop c (suc n) [] e = e
ends_with-drop c (suc zero) (b ∷ []) e = refl
ends_with-drop c (suc (suc n)) (b ∷ []) e = refl
ends_with-drop c (suc n) (b ∷ (d ∷ s)) e = ends_with-drop c n (d ∷ s) e

ends_with-drop_bom : (c : ℕ) (a : List ℕ) → ends_with c a ≡ false → ends_with c (drop_bom a) ≡ false
unfolding drop_bom
ends_with-drop_bom c a e = by-test (starts_with byte_order_mark a) (λ y. rw y (ends_with-drop c 3 a e)) (λ n. rw n e)

drop_bom-after : (a : List ℕ) (d : ℕ) (b : List ℕ) → absent d byte_order_mark ≡ true → drop_bom ((a ++ d ∷ []) ++ b) ≡ (drop_bom a ++ d ∷ []) ++ b
drop_bom-after a d b n =
    ap drop_bom (append_assoc a (d ∷ []) b) ∙ drop_bom-before a d b n ∙ sym (append_assoc (drop_bom a) (d ∷ []) b)

-- the plain text of a file is that of its first piece, with what the second is converted to after it
pub plain_text_seam : {a b : List ℕ} → Seam a b → plain_text (a ++ b) ≡ plain_text a ++ to_plain b
unfolding plain_text absent
plain_text_seam (after-lf a {b}) =
    rw (drop_bom-after a lf b refl, drop_bom-before a lf [] refl) (to_plain_seam (after-lf (drop_bom a)))
plain_text_seam (after-cr a {b} n) =
    rw (drop_bom-after a cr b refl, drop_bom-before a cr [] refl) (to_plain_seam (after-cr (drop_bom a) n))
plain_text_seam (before-lf {a} {b} n) =
    rw (drop_bom-before a lf b refl) (to_plain_seam (before-lf (ends_with-drop_bom cr a n)))
plain_text_seam (before-cr {a} {b}) = rw (drop_bom-before a cr b refl) (to_plain_seam before-cr)
plain_text_seam (at_end {a}) =
    ap plain_text (append-nil a) ∙ ap to_plain (sym (append-nil (drop_bom a))) ∙ to_plain_seam at_end
