-- Which texts are plain: every repaired text without CR is, and a plain text is changed neither by `newlines` nor by `repair`.
use Prim.Native.Nat.{ℕ, zero, suc, pred, ◌+◌, ◌≤◌}
use mathlib.Core.Path.{◌≡◌, refl, ap, ◌∙◌}
use mathlib.Core.Bool.{true, false, not, ◌&&◌, true≢false}
use mathlib.Core.List.{List, [], ◌∷◌, ◌++◌}
use native.Mathlib.Omega.{arith}
use lib.Dec.{leb, ltb, eqb}
use lib.ListN.{length, take, drop, length-append, take-append-drop}
use lib.Seq.{length-take-le, drop_at}
use borrow.Author.Tests.{ltb-true, lt-ltb, eqb-false, eq-eqb, ne_eqb, not-true}
use Rattle.format.specs.Bytes.{nul, cr, replacement}
use Rattle.format.specs.Texts.{starts_with}
use Rattle.format.specs.Plain.{Range, within, following, fits, table, sequence_of, sequence, ill_formed, piece, repair_from, repair, plain_start, plain_from, first_not_plain, Plain}
use Rattle.laws.proofs.Tests.{and_left, and_right, and-false, by-test, absent}
use Rattle.laws.proofs.Sequences.{high, within-high, fits-first, sequence-length, sequence-take, well_formed}
use Rattle.laws.proofs.Repair.{zero_byte, broken, whole, kind, piece-whole}

-- what `plain_start` tests
pub record Start (b : ℕ) (s : List ℕ) (n : ℕ) : Type 0 where
  pub not_nul : b ≡ nul → ⊥
  pub not_cr : b ≡ cr → ⊥
  pub stands : sequence (b ∷ s) ≡ suc n

pub start_is : (b : ℕ) (s : List ℕ) (n : ℕ) → Start b s n → plain_start (b ∷ s) ≡ true
unfolding plain_start starts_with
start_is b s n p =
    rw (ne_eqb b nul p.not_nul, ne_eqb b cr p.not_cr, p.stands) (lt-ltb 0 (suc n) (omega arith))

not-begins : (b c : ℕ) (s : List ℕ) → not (starts_with (c ∷ []) (b ∷ s)) ≡ true → b ≡ c → ⊥
unfolding starts_with
not-begins b c s n e =
    let f : eqb b c && true ≡ false = not-true (eqb b c && true) n in
    true≢false (rw (eq-eqb b c e) at f)

pub start_has : (b : ℕ) (s : List ℕ) → plain_start (b ∷ s) ≡ true → Start b s (pred (sequence (b ∷ s)))
unfolding plain_start
start_has b s e =
    let z = not (starts_with (nul ∷ []) (b ∷ s)) in
    let c = not (starts_with (cr ∷ []) (b ∷ s)) in
    let l = ltb 0 (sequence (b ∷ s)) in
    let zc : z && c ≡ true = and_left (z && c) l e in
    record {
      not_nul = not-begins b nul s (and_left z c zc);
      not_cr = not-begins b cr s (and_right z c zc);
      stands = omega (arith, ltb-true 0 (sequence (b ∷ s)) (and_right (z && c) l e));
    }

plain_pass : (n : ℕ) (s : List ℕ) → n ≤ length s → plain_from n s ≡ n + first_not_plain (drop n s)
unfolding plain_from
plain_pass zero s h = omega arith
plain_pass (suc n) [] h = absurd (omega arith)
plain_pass (suc n) (b ∷ s) h = omega (arith, plain_pass n s (omega arith))

plain_start_lem : (b : ℕ) (s : List ℕ) (n : ℕ) → Start b s n → first_not_plain (b ∷ s) ≡ suc (plain_from n s)
unfolding plain_from
plain_start_lem b s n p = rw (start_is b s n p, p.stands)

-- a text that begins with a well-formed sequence is plain as far as what follows is
pub plain-sequence : (b : ℕ) (s : List ℕ) (n : ℕ) → Start b s n → first_not_plain (b ∷ s) ≡ suc n + first_not_plain (drop n s)
plain-sequence b s n p = omega (arith, plain_start_lem b s n p, plain_pass n s (sequence-length b s n p.stands))

-- where a text stops to be plain
plain-stop : (b : ℕ) (s : List ℕ) → plain_start (b ∷ s) ≡ false → first_not_plain (b ∷ s) ≡ 0
unfolding plain_from
plain-stop b s e = rw e

begins : (b c : ℕ) (s : List ℕ) → b ≡ c → not (starts_with (c ∷ []) (b ∷ s)) ≡ false
unfolding starts_with
begins b c s e = rw (eq-eqb b c e)

pub plain-nul : (b : ℕ) (s : List ℕ) → b ≡ nul → first_not_plain (b ∷ s) ≡ 0
unfolding plain_start
plain-nul b s e = plain-stop b s (rw (begins b nul s e))

pub plain-cr : (b : ℕ) (s : List ℕ) → b ≡ cr → first_not_plain (b ∷ s) ≡ 0
unfolding plain_start
plain-cr b s e =
    plain-stop b s
    (rw (and-false (not (starts_with (nul ∷ []) (b ∷ s))) (not (starts_with (cr ∷ []) (b ∷ s))) (begins b cr s e)))

pub plain_broken : (b : ℕ) (s : List ℕ) → sequence (b ∷ s) ≡ 0 → first_not_plain (b ∷ s) ≡ 0
unfolding plain_start
plain_broken b s e =
    plain-stop b s
    (and-false (not (starts_with (nul ∷ []) (b ∷ s)) && not (starts_with (cr ∷ []) (b ∷ s))) (ltb 0 (sequence (b ∷ s))) (rw e))

plain-whole : (b : ℕ) (s : List ℕ) (n : ℕ) (t : List ℕ) → Start b s n → first_not_plain (b ∷ (take n s ++ t)) ≡ suc n + first_not_plain t
plain-whole b s n t p =
    let q : Start b (take n s ++ t) n = record { not_nul = p.not_nul; not_cr = p.not_cr; stands = sequence-take b s t n p.stands } in
    plain-sequence b (take n s ++ t) n q
    ∙ ap (λ r. suc n + first_not_plain r) (drop_at (take n s) t n (length-take-le n s (sequence-length b s n p.stands)))

plain-replacement : (t : List ℕ) → first_not_plain (replacement ++ t) ≡ 3 + first_not_plain t
unfolding plain_from plain_start starts_with sequence sequence_of following table within fits
plain-replacement t =
    let e : first_not_plain (replacement ++ t) ≡ suc (suc (suc (first_not_plain t))) = refl in
    omega arith

plain-piece : (b : ℕ) (s t : List ℕ) → (b ≡ cr → ⊥) → first_not_plain ((piece (b ∷ s)).out ++ t) ≡ length (piece (b ∷ s)).out + first_not_plain t
unfolding ill_formed
plain-piece b s t c =
    elim (kind b s) [
      | zero_byte z e ↦ rw e (plain-replacement t)
      | broken z q e ↦ rw e (plain-replacement t)
      | whole n z q e ↦
          rw (e, length-take-le n s (sequence-length b s n q)) (plain-whole b s n t (record { not_nul = z; not_cr = c; stands = q }))
    ]

not_first : (b c : ℕ) (s : List ℕ) → absent c (b ∷ s) ≡ true → b ≡ c → ⊥
unfolding absent
not_first b c s a = eqb-false b c (not-true (eqb b c) (and_left (not (eqb b c)) (absent c s) a))

not-later : (b c : ℕ) (s : List ℕ) → absent c (b ∷ s) ≡ true → absent c s ≡ true
unfolding absent
not-later b c s a = and_right (not (eqb b c)) (absent c s) a

pub repair-plain : (n : ℕ) (s : List ℕ) → absent cr s ≡ true → Plain (repair_from n s)
unfolding repair_from plain_from
repair-plain n [] a = refl
repair-plain (suc n) (b ∷ s) a = repair-plain n s (not-later b cr s a)
repair-plain zero (b ∷ s) a =
    let p = piece (b ∷ s) in
    let r = repair_from p.more s in
    omega
    (arith, plain-piece b s r (not_first b cr s a), repair-plain p.more s (not-later b cr s a), length-append p.out r)

-- a plain text that is not empty: a sequence at its start, and the rest
record First (b : ℕ) (s : List ℕ) : Type 0 where
  pub more : ℕ
  pub start : Start b s more
  pub rest : plain_from more s ≡ length s

plain-first : (b : ℕ) (s : List ℕ) → Plain (b ∷ s) → First b s
unfolding plain_from
plain-first b s p =
    by-test (plain_start (b ∷ s))
    (λ y. let q = start_has b s y in
    record { more = pred (sequence (b ∷ s)); start = q; rest = omega (arith, p, plain_start_lem b s (pred (sequence (b ∷ s))) q) })
    (λ n. let z : 0 ≡ suc (length s) = rw n at p in absurd (omega arith))

repair_keeps : (n : ℕ) (s : List ℕ) → n ≤ length s → plain_from n s ≡ length s → repair_from n s ≡ drop n s
unfolding repair_from plain_from
repair_keeps zero [] h p = refl
repair_keeps (suc n) [] h p = refl
repair_keeps (suc n) (b ∷ s) h p = repair_keeps n s (omega arith) (omega arith)
repair_keeps zero (b ∷ s) h p =
    let f = plain-first b s p in
    let m = f.more in
    let q = f.start.stands in
    rw (piece-whole b s m f.start.not_nul q, repair_keeps m s (sequence-length b s m q) f.rest)
    (ap (λ r. b ∷ r) (take-append-drop m s))

pub plain-repair : (s : List ℕ) → Plain s → repair s ≡ s
plain-repair s p = repair_keeps 0 s (omega arith) p

-- the bytes of rs stand at the start, and from there on the text is plain: no CR is in it
absent_fits : (rs : List Range) (s : List ℕ) → high rs ≡ true → fits rs s ≡ length rs → plain_from (length rs) s ≡ length s → absent cr s ≡ true
unfolding fits high absent plain_from
absent_fits rs [] h f p = refl
absent_fits (r ∷ rs) (b ∷ s) h f p =
    let i = fits-first r rs b s f in
    let l : 0x80 ≤ b = within-high r b (and_left (leb 0x80 r.low) (high rs) h) i.0 in
    rw (ne_eqb b cr (λ e. omega arith)) (absent_fits rs s (and_right (leb 0x80 r.low) (high rs) h) i.1 (omega arith))
absent_fits [] (b ∷ s) h f p =
    let i = plain-first b s p in
    let w = well_formed b s i.more i.start.stands in
    let e : plain_from (length w.rest) s ≡ length s = rw w.size at i.rest in
    rw (ne_eqb b cr i.start.not_cr) (absent_fits w.rest s w.high w.stands e)

pub plain_absent : (s : List ℕ) → Plain s → absent cr s ≡ true
unfolding fits high
plain_absent s p = absent_fits [] s refl refl p
