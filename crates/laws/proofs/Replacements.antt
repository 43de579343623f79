-- What one U+FFFD stands for, beside the words of request Q-2: "one U+FFFD for each longest run that could have begun a sequence and for each
-- stray byte". `runs` says it of every text that does not begin with a well-formed sequence.
use Prim.Native.Nat.{ℕ, suc, ◌-◌, ◌≤◌, ◌<◌}
use mathlib.Core.Path.{◌≡◌, refl, ap, ◌∙◌}
use mathlib.Core.Bool.{true}
use mathlib.Core.List.{List, [], ◌∷◌, ◌++◌}
use Rattle.std.specs.Prelude.{Option, None, Some}
use native.Mathlib.Omega.{arith}
use lib.ListN.{length, take, drop, length-append, length-drop}
use lib.Seq.{length-take-le}
use Rattle.format.specs.Bytes.{replacement}
use Rattle.format.specs.Plain.{Range, within, table, following, fits, sequence, begun, ill_formed, piece}
use Rattle.laws.proofs.Tests.{and_left, and_right, by-test}
use Rattle.laws.proofs.Sequences.{nonempty, table_nonempty, fits-length, sequence_of_lem, sequence_broken, sequence-none, begun_of_lem, begun-none, sequence-ascii}
use Rattle.laws.proofs.Repair.{piece_broken}

-- x, with the bytes rest after it, is one well-formed sequence
abbrev pub Completes : List ℕ → List ℕ → Type 0
Completes x rest = sequence (x ++ rest) ≡ length (x ++ rest)

-- "could have begun a sequence": some bytes, at least one, complete it
pub record CouldBegin (x : List ℕ) : Type 0 where
  pub rest : List ℕ
  pub some : 0 < length rest
  pub whole : Completes x rest

-- "run" or "stray byte": n bytes after the first
pub data RunKind (b : ℕ) (s : List ℕ) (n : ℕ) : Type 0 where
  run : CouldBegin (b ∷ take n s) → RunKind b s n
  stray : n ≡ 0 → ((rest : List ℕ) → Completes (b ∷ []) rest → ⊥) → RunKind b s n

-- "one U+FFFD for each", "longest": with the text's next byte, if there is one, nothing completes it
pub record Run (b : ℕ) (s : List ℕ) : Type 0 where
  pub more : ℕ
  pub inside : more ≤ length s
  pub one : piece (b ∷ s) ≡ record { more = more; out = replacement }
  pub kind : RunKind b s more
  pub longest : more < length s → (rest : List ℕ) → Completes (b ∷ take (suc more) s) rest → ⊥

-- the least byte of each range
lowest : List Range → List ℕ
lowest [] = []
lowest (r ∷ rs) = r.low ∷ lowest rs

lowest_length : (rs : List Range) → length (lowest rs) ≡ length rs
unfolding lowest
lowest_length [] = refl
lowest_length (r ∷ rs) = omega (arith, lowest_length rs)

lowest_fits : (rs : List Range) → nonempty rs ≡ true → fits rs (lowest rs) ≡ length rs
unfolding lowest nonempty fits
lowest_fits [] p = refl
lowest_fits (r ∷ rs) p =
    rw (and_left (within r r.low) (nonempty rs) p) (omega (arith, lowest_fits rs (and_right (within r r.low) (nonempty rs) p)))

-- the bytes that fit, and then the least of each range that is left
fits_finish :
    (rs : List Range) (s : List ℕ)
    → nonempty rs ≡ true
    → fits rs (take (fits rs s) s ++ lowest (drop (fits rs s) rs)) ≡ length rs
unfolding fits nonempty
fits_finish [] s p = refl
fits_finish (r ∷ rs) [] p = lowest_fits (r ∷ rs) p
fits_finish (r ∷ rs) (b ∷ s) p =
    by-test (within r b)
    (λ y. rw (y, y) (omega (arith, fits_finish rs s (and_right (within r r.low) (nonempty rs) p))))
    (λ n. rw n (lowest_fits (r ∷ rs) p))

-- the next byte fits no more, whatever comes after it
fits-stops :
    (rs : List Range) (s t : List ℕ)
    → fits rs s < length rs
    → fits rs s < length s
    → fits rs (take (suc (fits rs s)) s ++ t) ≡ fits rs s
unfolding fits
fits-stops [] s t l h = absurd (omega arith)
fits-stops (r ∷ rs) [] t l h = absurd (omega arith)
fits-stops (r ∷ rs) (b ∷ s) t l h =
    by-test (within r b)
    (λ y. let k : suc (fits rs s) < suc (length rs) = rw y at l in
    let i : suc (fits rs s) < suc (length s) = rw y at h in
    rw y (ap suc (fits-stops rs s t (omega arith) (omega arith))))
    (λ n. rw n)

module _ (b : ℕ) (s : List ℕ) (q : sequence (b ∷ s) ≡ 0) where
  one_for_all : (n : ℕ) → begun (b ∷ s) ≡ n → piece (b ∷ s) ≡ record { more = n; out = replacement }
  unfolding ill_formed
  one_for_all n e =
      piece_broken b s (λ z. omega (arith, sequence-ascii b s (omega arith))) q ∙ ap (λ m. record { more = m; out = replacement }) e

  stray_run : following table b ≡ None → Run b s
  stray_run e =
      record {
        more = 0;
        inside = omega arith;
        one = one_for_all 0 (begun-none b s e);
        kind = stray refl (λ rest w. omega (arith, w, sequence-none b rest e));
        longest = λ l rest w. omega (arith, w, sequence-none b (take 1 s ++ rest) e);
      }

  module _ (rs : List Range) (e : following table b ≡ Some rs) where
    not-all : fits rs s ≡ length rs → ⊥
    not-all f = omega (arith, sequence_of_lem b s rs e f)

    begins : CouldBegin (b ∷ take (fits rs s) s)
    begins =
        let n = fits rs s in
        let rest = lowest (drop n rs) in
        let size : length rest ≡ length rs - n = omega (arith, lowest_length (drop n rs), length-drop n rs) in
        record {
          rest = rest;
          some = omega (arith, fits-length rs s, not-all);
          whole =
              omega (
                arith,
                sequence_of_lem b (take n s ++ rest) rs e (fits_finish rs s (table_nonempty b rs e)),
                length-append (take n s) rest,
                length-take-le n s (fits-length rs s).0,
                fits-length rs s,
              );
        }

    ends : fits rs s < length s → (rest : List ℕ) → Completes (b ∷ take (suc (fits rs s)) s) rest → ⊥
    ends l rest w =
        let more : fits rs s < length rs = omega (arith, fits-length rs s, not-all) in
        omega (
          arith,
          w,
          sequence_broken b (take (suc (fits rs s)) s ++ rest) rs e (λ f. not-all (omega (arith, f, fits-stops rs s rest more l))),
        )

    begun-run : Run b s
    begun-run =
        record {
          more = fits rs s;
          inside = (fits-length rs s).0;
          one = one_for_all (fits rs s) (begun_of_lem b s rs e);
          kind = run begins;
          longest = ends;
        }

  pub runs : Run b s
  runs = go (following table b) refl
    where
      go : (o : Option (List Range)) → following table b ≡ o → Run b s
      go None e = stray_run e
      go (Some rs) e = begun-run rs e
