-- The cue asked for, where no test fails: it can be written among the file's regions, and its written form is plain.
use Prim.Native.Nat.{ℕ, ◌-◌}
use mathlib.Core.Path.{◌≡◌, refl, sym, ap, ◌∙◌}
use mathlib.Core.Bool.{true, false, not, ◌||◌, false≢true}
use mathlib.Core.List.{List, [], ◌∷◌, map, ◌++◌}
use Rattle.std.specs.Prelude.{Option, None, Some}
use native.Mathlib.Omega.{arith}
use lib.Dec.{eqb}
use lib.ListN.{length, get_or}
use borrow.Author.Tests.{eq-eqb, lt-ltb, not-true}
use Rattle.format.specs.Bytes.{ascii, lf}
use Rattle.format.specs.Texts.{starts_with, is_empty, all}
use Rattle.format.specs.Plain.{Plain}
use Rattle.format.specs.Lines.{split, join}
use Rattle.format.specs.RegionSettings.{last_named}
use Rattle.format.specs.Lists.{lists}
use Rattle.format.specs.Rows.{new_cue_entry, new_cue_name}
use Rattle.format.specs.Contents.{CueContents, RegionContents, contents, cue_of_entry}
use Rattle.format.specs.Writable.{part_plain, none_empty, is_index, last_of_its_name, cue_test1, cue_test6, cue_tests}
use Rattle.format.specs.Written.{written_region_name, cue_lines}
use Rattle.format.specs.Replacing.{name_lent, region_asked, with_region, cue_asked, new_test1, is_there, new_test6, new_cue_fails, region_names, new_form}
use Rattle.laws.proofs.Tests.{by-test, and_left, and_right, absent}
use Rattle.laws.proofs.Standing.{All}
use Rattle.laws.proofs.Rows.{row-signed}
use Rattle.laws.proofs.Lines.{unbroken, split-join}
use Rattle.laws.proofs.Names.{found}
use Rattle.laws.proofs.Tokens.{inside as black}
use Rattle.roundtrip.proofs.Shape.{Block, timed, none-fails}
use Rattle.roundtrip.proofs.Cues.{CueWritable, tests_writable, all_front}
use Rattle.roundtrip.proofs.Plain.{PlainCue, cue-plain, plain-cue_lines, plain-join, plain-setting, part_plain_lem, plain_byte}
use Rattle.roundtrip.proofs.Files.{ids-contents, cue_blocks_lem}
use Rattle.replaced.proofs.Names.{names_dark}

-- the region asked for is the last with its name
found_name : (names : List (List ℕ)) (name : List ℕ) (i : ℕ) → last_named 0 name names ≡ Some i → get_or names i [] ≡ name
found_name names name i e =
    let z : i ≡ i - 0 = omega arith in
    ap (λ j. get_or names j []) z ∙ (found 0 name names i e).named

asked_allowed :
    (names : List (List ℕ)) (name : List ℕ) (o : Option ℕ)
    → is_empty name ≡ false
    → last_named 0 name names ≡ o
    → is_there o ≡ true
    → cue_test6 names o ≡ true
unfolding cue_test6 last_of_its_name is_index is_there
asked_allowed names name None n e t = refl
asked_allowed names name (Some i) n e t =
    let f = found 0 name names i e in
    rw (found_name names name i e, n, e, lt-ltb i (length names) (omega (arith, f.below)), eq-eqb i i refl)

region_allowed : (names : List (List ℕ)) (name : List ℕ) → (is_empty name || is_there (last_named 0 name names)) ≡ true → cue_test6 names (region_asked names name) ≡ true
unfolding cue_test6 region_asked
region_allowed names name t =
    by-test (is_empty name)
    (λ y. rw y)
    (λ n. rw n (asked_allowed names name (last_named 0 name names) n refl (rw n at t)))

-- the lines of a block, joined
pub record Begins (ls : List (List ℕ)) : Type 0 where
  pub lines : split (join ls) ≡ ls
  pub some : is_empty (join ls) ≡ false
  pub fresh : starts_with (lf ∷ []) (join ls) ≡ false

begins : (ls : List (List ℕ)) → Block ls → Begins ls
unfolding join timed none_empty is_empty starts_with unbroken absent
begins [] b = absurd (false≢true b.closed.once)
begins ([] ∷ ls) b = absurd (false≢true b.closed.full)
begins ((c ∷ x) ∷ ls) b =
    let other = not-true (eqb c lf) (and_left (not (eqb c lf)) _ (and_left (absent lf (c ∷ x)) (unbroken ls) b.whole)) in
    record { lines = split-join (c ∷ x) ls b.whole; some = refl; fresh = rw other }

module _ (s t w : List ℕ) (e : new_cue_fails t w (region_names s) ≡ None) where
  abbrev names : List (List ℕ)
  names = region_names s

  abbrev rs : List RegionContents
  rs = (contents (lists s)).regions

  abbrev asked : CueContents
  asked = cue_asked t w names

  pub names_are : map (λ r. r.id) rs ≡ names
  unfolding contents region_names
  names_are = sym (ids-contents (lists s).regions)

  dark : (i : ℕ) → all black (get_or names i []) ≡ true
  unfolding region_names
  dark i = names_dark s i

  abbrev lent : CueContents
  lent = cue_of_entry t (new_cue_entry w)

  -- the tests of the new cue
  passed : All (λ t. t ≡ true) (new_test1 t w ∷ cue_tests lent ++ new_test6 t w names ∷ [])
  unfolding new_cue_fails
  passed = none-fails 1 (new_test1 t w ∷ cue_tests lent ++ new_test6 t w names ∷ []) e

  pub asked_writable : CueWritable rs asked
  unfolding cue_tests new_test6 cue_asked cue_of_entry
  asked_writable =
      let allowed = region_allowed names (name_lent t w) passed.1.1.1.1.1.0 in
      let tests = all_front (λ t. t ≡ true) (cue_tests lent) (new_test6 t w names ∷ []) passed.1 in
      tests_writable rs (region_asked names (name_lent t w)) lent tests (row-signed None w)
      (rw names_are allowed) (λ i. rw names_are (dark i))

  -- its written form is plain, is not empty and does not begin with a line end
  plain-asked : PlainCue asked
  unfolding new_test1 cue_asked with_region cue_of_entry
  plain-asked =
      let parts = cue-plain t w (and_left (cue_test1 t w) _ passed.0) in
      record { id = parts.id; text = parts.text }

  -- the region's name is the one lent, which is plain
  pub asked-name : (i : ℕ) → region_asked names (name_lent t w) ≡ Some i → get_or names i [] ≡ name_lent t w
  unfolding region_asked
  asked-name i q =
      let name = name_lent t w in
      by-test (is_empty name)
      (λ y. let f : ◌≡◌ {A = Option ℕ} None (Some i) = rw y at q in let z : ◌≡◌ {A = ℕ} 0 1 = cc in absurd (omega arith))
      (λ n. let g : last_named 0 name names ≡ Some i = rw n at q in found_name names name i g)

  plain-lent : Plain (name_lent t w)
  unfolding new_test1 name_lent
  plain-lent =
      let name = new_cue_name w in
      part_plain_lem t name.from name.to (and_right (cue_test1 t w) (part_plain t name.from name.to) passed.0)

  plain-name : (o : Option ℕ) → region_asked names (name_lent t w) ≡ o → All Plain (written_region_name rs o)
  unfolding written_region_name all plain_byte
  plain-name None q = tt
  plain-name (Some i) q =
      plain-setting (ascii "region") (get_or (map (λ r. r.id) rs) i []) refl (rw (names_are, asked-name i q) plain-lent)

  abbrev lines : List (List ℕ)
  lines = cue_lines rs asked

  pub form_plain : Plain (new_form s t w)
  unfolding new_form cue_asked with_region
  form_plain = plain-join lines (plain-cue_lines rs asked (plain-name asked.region refl) plain-asked)

  -- the form's lines are those of the cue, and it begins with a byte of the first
  pub form_begins : Begins lines
  form_begins = begins lines (cue_blocks_lem rs asked asked_writable)
