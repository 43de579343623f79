use Prim.Native.Nat.{ℕ}
use mathlib.Core.Path.{◌≡◌, sym, ap, ◌∙◌}
use mathlib.Core.Bool.{Bool, not}
use mathlib.Core.List.{List, [], ◌∷◌}
use Rattle.format.specs.Rows.{cue_entry}
use Rattle.format.specs.Contents.{cue_of_entry, cue_of_row}
use Rattle.format.specs.Writable.{first_failing, names_of, cue_test1, cue_test6, cue_tests, cue_fails}
use Rattle.writable.proofs.FaultLaws.{failed, passed, fails_front, fails-after}
use Rattle.writable.proofs.cue_test.Goals as goal
use Rattle.writable.proofs.cue_test.Goals.{After-region_fits, In_default}

module _ (s : List ℕ) (regions : List (List ℕ)) (row : List ℕ) where
  abbrev fields : List Bool
  fields = cue_test1 s row ∷ cue_tests (cue_of_row s row)

  abbrev last : List Bool
  last = cue_test6 (names_of s regions) ((cue_entry row).region) ∷ []

-- what is left to test where the fields pass
after-fields :
    (c : In_default)
    → let a = c.args in first_failing 6 (last a.text.now a.regions.now a.row) ≡ cue_fails a.text.now a.regions.now a.row
unfolding cue_fails cue_of_entry cue_tests
after-fields c =
    let a = c.args in
    sym
    (fails-after 1 (fields a.text.now a.regions.now a.row) (last a.text.now a.regions.now a.row)
    (sym c.in_default.is ∙ c.cue_fields_test.ensures))

region_is_lem :
    (c : After-region_fits)
    → let a = c.args in
    c.region_fits.result ≡ cue_test6 (names_of a.text.now a.regions.now) ((cue_entry a.row).region)
region_is_lem c =
    let a = c.args in
    c.region_fits.ensures.answer ∙ ap (λ r. cue_test6 (names_of a.text.now a.regions.now) (r)) c.region.ensures

pub returns-in-Some : goal.returns-in-Some
unfolding cue_fails cue_of_entry
returns-in-Some c =
    let a = c.args in
    record {
      answer = fails_front 1 c.in-Some.test (fields a.text.now a.regions.now a.row) (last a.text.now a.regions.now a.row)
          (sym c.in-Some.is ∙ c.cue_fields_test.ensures);
      known = c.requires.all_last;
    }

pub returns-then-not-region_fits : goal.returns-then-not-region_fits
unfolding first_failing
returns-then-not-region_fits c =
    let at = goal.at.returns-then-not-region_fits c in
    record {
      answer = rw (← (after-fields at.In_default), failed (region_is_lem at.After-region_fits) (ap not c.if-not-region_fits.true));
      known = c.region_fits.ensures.known;
    }

pub returns : goal.returns
unfolding first_failing
returns c =
    let at = goal.at.returns c in
    record {
      answer = rw (← (after-fields at.In_default), passed (region_is_lem at.After-region_fits) (ap not c.if-not-region_fits.false));
      known = c.region_fits.ensures.known;
    }
