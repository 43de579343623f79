-- Laws of the new cue's tests in their order.
use Prim.Native.Nat.{ℕ}
use mathlib.Core.Path.{◌≡◌, refl, sym, ap, ◌∙◌}
use mathlib.Core.Bool.{Bool, true, ◌&&◌}
use mathlib.Core.List.{List, [], ◌∷◌, ◌++◌}
use Rattle.std.specs.Prelude.{Option, None, Some}
use Rattle.format.specs.Rows.{cue_codes_named, cue_entry, new_cue_entry, new_cue_name}
use Rattle.format.specs.Contents.{cue_of_entry, cue_of_row}
use Rattle.format.specs.Writable.{first_failing, part_plain, cue_test1, cue_tests}
use Rattle.format.specs.Replacing.{new_test1, new_test6, new_cue_fails}
use Rattle.laws.proofs.Tests.{and-true}
use Rattle.writable.proofs.FaultLaws.{fails_front, fails-after}

-- the tests of the new cue but its region's
abbrev pub fields : List ℕ → List ℕ → List Bool
fields t w = cue_test1 t w ∷ cue_tests (cue_of_entry t (new_cue_entry w))

-- the tests of the new cue, where its region's name is plain
fields_are :
    (t w : List ℕ) (names : List (List ℕ))
    → part_plain t (new_cue_name w).from (new_cue_name w).to ≡ true
    → new_cue_fails t w names ≡ first_failing 1 (fields t w ++ new_test6 t w names ∷ [])
unfolding new_cue_fails new_test1
fields_are t w names e = rw (e, and-true) refl

-- the words are the row of a cue that says what the new cue's row says
module _
    (t w words : List ℕ) (names : List (List ℕ))
    (plain : part_plain t (new_cue_name w).from (new_cue_name w).to ≡ true)
    (are : (cue_entry words ≡ new_cue_entry w) × (cue_codes_named words ≡ cue_codes_named w))
    {r : Option ℕ}
    (e : r ≡ first_failing 1 (cue_test1 t words ∷ cue_tests (cue_of_row t words)))
  where
    test_1_same : cue_test1 t words ≡ cue_test1 t w
    unfolding cue_test1
    test_1_same =
        rw are.1
        (ap (λ x. part_plain t x.id.from x.id.to && (part_plain t x.text.from x.text.to && cue_codes_named w)) are.0)

    first_field : r ≡ first_failing 1 (fields t w)
    first_field =
        e
        ∙ ap (λ b. first_failing 1 (b ∷ cue_tests (cue_of_row t words))) test_1_same
        ∙ ap (λ x. first_failing 1 (cue_test1 t w ∷ cue_tests (cue_of_entry t x))) are.0

    pub fields_fail : {test : ℕ} → r ≡ Some test → Some test ≡ new_cue_fails t w names
    fields_fail {test} is =
        fails_front 1 test (fields t w) (new_test6 t w names ∷ []) (sym is ∙ first_field) ∙ sym (fields_are t w names plain)

    pub name_decides : r ≡ None → new_cue_fails t w names ≡ first_failing 6 (new_test6 t w names ∷ [])
    unfolding cue_tests
    name_decides is =
        fields_are t w names plain
        ∙ fails-after 1 (fields t w) (new_test6 t w names ∷ []) (sym is ∙ first_field)
