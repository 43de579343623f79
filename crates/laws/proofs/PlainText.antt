-- What converting does at the start of a text that is left, and the theorems of plain text: its length, that it is plain, and that a
-- plain text is its own.
use Prim.Native.Nat.{ℕ, ◌*◌, ◌≤◌, ◌<◌}
use mathlib.Core.Path.{◌≡◌, ap, ◌∙◌}
use mathlib.Core.Bool.{true, false}
use mathlib.Core.List.{List, [], ◌∷◌, ◌++◌}
use native.Mathlib.Omega.{arith}
use lib.ListN.{length, drop, length-drop}
use Rattle.format.specs.Bytes.{nul, lf, cr, byte_order_mark}
use Rattle.format.specs.Texts.{starts_with}
use Rattle.format.specs.Plain.{drop_bom, newlines, piece, repair, to_plain, plain_text, Plain}
use Rattle.laws.proofs.Tests.{by-test}
use Rattle.laws.proofs.Newlines.{newlines_other, newlines-cr, newlines_crlf, newlines-length, newlines_absent, newlines_keeps, fits-newlines, begun_through}
use Rattle.laws.proofs.Repair.{piece-same, piece-more, piece-ascii, repair-piece, repair-ascii, repair-length}
use Rattle.laws.proofs.Plainness.{repair-plain, plain-repair, plain_absent}

-- a piece is the same before line ends are changed and after
piece-newlines : (b : ℕ) (s : List ℕ) → piece (b ∷ newlines s) ≡ piece (b ∷ s)
piece-newlines b s = piece-same b (newlines s) s (λ rs h. fits-newlines rs s h) (begun_through b s).first

drop-newlines : (b : ℕ) (s : List ℕ) → drop (piece (b ∷ s)).more (newlines s) ≡ newlines (drop (piece (b ∷ s)).more s)
drop-newlines b s = rw (piece-more b s) (begun_through b s).rest

-- a first byte that is no CR: its piece, and the rest
pub to_plain-piece : (b : ℕ) (s : List ℕ) → (b ≡ cr → ⊥) → to_plain (b ∷ s) ≡ (piece (b ∷ s)).out ++ to_plain (drop (piece (b ∷ s)).more s)
unfolding to_plain
to_plain-piece b s n =
    rw (newlines_other b s n)
    (repair-piece b (newlines s) ∙ rw (piece-newlines b s) (ap (λ r. (piece (b ∷ s)).out ++ repair r) (drop-newlines b s)))

pub to_plain-ascii : (b : ℕ) (s : List ℕ) → (b ≡ nul → ⊥) → (b ≡ cr → ⊥) → b < 0x80 → to_plain (b ∷ s) ≡ b ∷ to_plain s
to_plain-ascii b s z c l = to_plain-piece b s c ∙ rw (piece-ascii b s z l)

pub to_plain-cr : (s : List ℕ) → starts_with (lf ∷ []) s ≡ false → to_plain (cr ∷ s) ≡ lf ∷ to_plain s
unfolding to_plain
to_plain-cr s n = rw (newlines-cr s n) (repair-ascii lf (newlines s) (λ e. omega arith) (omega arith))

pub to_plain_crlf : (s : List ℕ) → starts_with (lf ∷ []) s ≡ true → to_plain (cr ∷ s) ≡ to_plain s
unfolding to_plain
to_plain_crlf s y = rw (newlines_crlf s y)

-- n bytes give at most 3n
pub to_plain-length : (s : List ℕ) → length (to_plain s) ≤ 3 * length s
unfolding to_plain
to_plain-length s = omega (arith, repair-length (newlines s), newlines-length s)

drop_bom-length : (s : List ℕ) → length (drop_bom s) ≤ length s
unfolding drop_bom
drop_bom-length s =
    by-test (starts_with byte_order_mark s) (λ y. rw y (omega (arith, length-drop 3 s))) (λ n. rw n (omega arith))

pub plain_text-length : (raw : List ℕ) → length (plain_text raw) ≤ 3 * length raw
unfolding plain_text
plain_text-length raw = omega (arith, to_plain-length (drop_bom raw), drop_bom-length raw)

-- what is converted is plain
pub to_plain-plain : (s : List ℕ) → Plain (to_plain s)
unfolding to_plain
to_plain-plain s = repair-plain 0 (newlines s) (newlines_absent s)

pub plain_text-plain : (raw : List ℕ) → Plain (plain_text raw)
unfolding plain_text
plain_text-plain raw = to_plain-plain (drop_bom raw)

-- a plain text is converted to itself, but for an EF BB BF at its start
pub to_plain_keeps : (s : List ℕ) → Plain s → to_plain s ≡ s
unfolding to_plain
to_plain_keeps s p = ap repair (newlines_keeps s (plain_absent s p)) ∙ plain-repair s p

pub plain_text_keeps : (s : List ℕ) → Plain s → starts_with byte_order_mark s ≡ false → plain_text s ≡ s
unfolding plain_text drop_bom
plain_text_keeps s p n = rw n (to_plain_keeps s p)
