-- The answer of reading, by the tests that the code makes one after the other.
use Prim.Native.Nat.{ℕ, ◌+◌, ◌≤◌, ◌<◌}
use mathlib.Core.Path.{◌≡◌, refl, sym}
use mathlib.Core.Bool.{Bool, true, false, ◌||◌}
use mathlib.Core.List.{List, [], ◌∷◌}
use mathlib.Core.Logic.{◌⊎◌, inl, inr}
use native.Mathlib.Omega.{arith}
use lib.Dec.{ltb}
use lib.ListN.{length}
use borrow.Author.Tests.{ltb-false, lt-ltb, le-ltb}
use Rattle.format.specs.Limits.{max_text}
use Rattle.format.specs.Plain.{first_not_plain}
use Rattle.format.specs.Blocks.{has_signature}
use Rattle.format.specs.Lists.{items, lists, any_over}
use Rattle.format.specs.Rows.{region_rows, style_rows, stored_cues}
use Rattle.format.specs.Answers.{Answer, refused, if_accepted, placed}
use Rattle.format.specs.Converting.{plainness_is, testing}
use Rattle.std.specs.Prelude.{Some, Ok, Err}
use Rattle.format.specs.Reading.{text_error, lists_error, read_error, counts_told, count_values, reading, counts, after_reading}
use Rattle.format.specs.declared.Counts.{Counts}
use Rattle.format.specs.declared.errors.OverLimit.{OverLimit}
use Rattle.format.specs.declared.errors.TextError.{TextError}
use Rattle.format.specs.declared.errors.ListsError.{ListsError}
use Rattle.format.specs.declared.errors.ReadError.{ReadError}
use Rattle.laws.proofs.Answers.{not_plain}
use Rattle.laws.proofs.Tests.{by-test, or_first, or_second}
use Rattle.reader.specs.Counting.{tally_with, tally_is, Readable, Refused}

module _ (s : List ℕ) where
  pub too_long_lem : ltb max_text (length s) ≡ true → Refused s (read_error ReadError.TooLong)
  unfolding reading read_error
  too_long_lem y a b c = rw y

  module _ (size : ltb max_text (length s) ≡ false) where
    pub refused-plain : (i : ℕ) → ltb (first_not_plain s) (length s) ≡ true → first_not_plain s ≡ i → Refused s (read_error (ReadError.NotPlainAt i))
    unfolding reading read_error
    refused-plain i y e a b c = rw (size, y, e)

    module _ (plain : ltb (first_not_plain s) (length s) ≡ false) where
      pub unsigned : has_signature s ≡ false → Refused s (text_error TextError.NoSignature)
      unfolding reading text_error
      unsigned n a b c = rw (size, plain, n)

      pub over_limit : has_signature s ≡ true → (e : OverLimit) → tally_is (items s) ≡ Err e → Refused s (text_error TextError.OverLimit)
      unfolding reading text_error tally_with
      over_limit y e told a b c =
          by-test (any_over (items s))
          (λ over. rw (size, plain, y, over))
          (λ within. let z : ◌≡◌ {A = ℕ} 0 1 = let k = rw within at told in cc in absurd (omega arith))

      pub measured : has_signature s ≡ true → (n : Counts) → tally_is (items s) ≡ Ok n → Readable s n
      unfolding tally_with lists
      measured y n told =
          by-test (any_over (items s))
          (λ over. let z : ◌≡◌ {A = ℕ} 0 1 = let k = rw over at told in cc in absurd (omega arith))
          (λ within. let k = rw within at told in
          let are : record { cues = 0 + length (lists s).cues; regions = 0 + length (lists s).regions; styles = 0 + length (lists s).styles } ≡ n = cc in
          record {
            size = size;
            plain = plain;
            signature = y;
            within = within;
            cues_are = rw (← are) (omega arith);
            regions_are = rw (← are) (omega arith);
            styles_are = rw (← are) (omega arith);
          })

-- a refusal that the text gives is the answer, whatever the tables' lengths, and no table changes
module _ (s : List ℕ) (cues regions styles : List (List ℕ)) where
  abbrev pub Unchanged : Answer → Type 0
  Unchanged a =
      (a ≡ reading s (length cues) (length regions) (length styles))
      × ((cues ≡ after_reading a (stored_cues s) cues)
      × ((regions ≡ after_reading a (region_rows (lists s).regions) regions)
      × (styles ≡ after_reading a (style_rows (lists s).styles) styles)))

  pub text_refuses : (e : TextError) → Refused s (text_error e) → Unchanged (text_error e)
  unfolding text_error after_reading if_accepted
  text_refuses TextError.NoSignature m = (sym (m (length cues) (length regions) (length styles)), (refl, (refl, refl)))
  text_refuses TextError.OverLimit m = (sym (m (length cues) (length regions) (length styles)), (refl, (refl, refl)))

  -- the two refusals that are given before the text is known to be plain
  pub refuses_long : max_text < length s → Unchanged (read_error ReadError.TooLong)
  unfolding read_error after_reading if_accepted
  refuses_long h = (sym (too_long_lem s (lt-ltb max_text (length s) h) (length cues) (length regions) (length styles)), (refl, (refl, refl)))

  pub refuses_not-plain : (i : ℕ) → length s ≤ max_text → plainness_is (Some i) ≡ testing s → Unchanged (read_error (ReadError.NotPlainAt i))
  unfolding read_error after_reading if_accepted
  refuses_not-plain i h e =
      let told = not_plain s i e in
      let size = le-ltb max_text (length s) h in
      (sym (refused-plain s size i told.0 told.1 (length cues) (length regions) (length styles)), (refl, (refl, refl)))

-- one of three tables is shorter than it has to be
pub too_short :
    (a x b y c z : ℕ)
    → (a < x) ⊎ (((x ≤ a) × (b < y)) ⊎ ((x ≤ a) × (y ≤ b) × (c < z)))
    → (ltb a x || ltb b y || ltb c z) ≡ true
too_short a x b y c z (inl e) = rw (lt-ltb a x e)
too_short a x b y c z (inr (inl e)) = rw (le-ltb a x e.0, lt-ltb b y e.1)
too_short a x b y c z (inr (inr e)) = rw (le-ltb a x e.0, le-ltb b y e.1, lt-ltb c z e.2)

-- the answer of a readable text, by the tables' lengths
module _ (s : List ℕ) (n : Counts) (m : Readable s n) (cues regions styles : ℕ) where
  pub short-answer : (ltb cues n.cues || ltb regions n.regions || ltb styles n.styles) ≡ true → lists_error (ListsError.TablesTooShort n) ≡ reading s cues regions styles
  unfolding lists_error count_values reading counts
  short-answer y =
      let e : (ltb cues (length (lists s).cues) || ltb regions (length (lists s).regions) || ltb styles (length (lists s).styles)) ≡ true =
      rw (m.cues_are, m.regions_are, m.styles_are) at y in
      rw (m.size, m.plain, m.signature, m.within, e, m.cues_are, m.regions_are, m.styles_are)

  pub full_answer : n.cues ≤ cues → n.regions ≤ regions → n.styles ≤ styles → counts_told n ≡ reading s cues regions styles
  unfolding counts_told count_values reading counts
  full_answer a b c =
      rw (
        m.size,
        m.plain,
        m.signature,
        m.within,
        le-ltb cues (length (lists s).cues) (omega (arith, m.cues_are)),
        le-ltb regions (length (lists s).regions) (omega (arith, m.regions_are)),
        le-ltb styles (length (lists s).styles) (omega (arith, m.styles_are)),
        m.cues_are,
        m.regions_are,
        m.styles_are,
      )

pub accepted-rows : (n : Counts) (rows table : List (List ℕ)) → placed rows table ≡ after_reading (counts_told n) rows table
unfolding counts_told after_reading if_accepted
accepted-rows n rows table = refl

pub short-rows : (n : Counts) (rows table : List (List ℕ)) → table ≡ after_reading (lists_error (ListsError.TablesTooShort n)) rows table
unfolding lists_error after_reading if_accepted
short-rows n rows table = refl
