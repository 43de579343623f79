use Prim.Native.Nat.{◌<◌}
use mathlib.Core.Path.{◌≡◌, refl, sym, ap, ◌∙◌}
use native.Mathlib.Omega.{arith}
use Rattle.std.specs.Prelude.{None, Ok, Err}
use Rattle.std.proofs.lemmas.Result.{err_from_is_err_and}
use Rattle.format.specs.Texts.{bytes_at}
use Rattle.format.specs.Contents.{cue_of_entry}
use Rattle.format.specs.Plain.{plain_text}
use Rattle.format.specs.Replacing.{name_lent, new_cue_fails, region_names, new_file, no_gap, replace_error, replacing_is}
use Rattle.format.specs.declared.errors.ReplaceError.TheVariants as ReplaceError
use Rattle.output.specs.Puts.{made_is}
use Rattle.places.specs.Places.{OwnLines}
use Rattle.places.specs.Finding.{FoundIn}
use Rattle.replace.proofs.CheckLaws.{gap_told, gap_inside, no_gap_lem, gap_passed, test_fails, writable_passed, no_such_cue, count_passed, text_refused, file_passed}
use Rattle.replace.proofs.FileLaws.{made_so}
use Rattle.replace.proofs.replace_in.Goals as goal
use Rattle.replace.proofs.replace_in.Goals.{After-lacks_gap, After-new_cue_test, In-Some, In_ok-found}

pub returns-in_err-found : goal.returns-in_err-found
returns-in_err-found c =
    let a = c.args in
    let p = err_from_is_err_and c.from_residual.result c.from_residual.ensures.1 in
    rw (p.1, p.2)
    (text_refused a.raw.now a.number a.text.now a.row a.out.now a.s.now c.requires a.number c.part.result.now c.in_err-found.field-0.0 c.in_err-found.ensures)

-- the name that was looked for is the one lent
found_in : (c : In_ok-found) → FoundIn c.args.s.now c.args.number (name_lent c.args.text.now c.args.row) c.in_ok-found.found
unfolding name_lent
found_in c =
    let a = c.args in
    let name = c.part.ensures ∙ ap (λ p. bytes_at a.text.now p.from p.to) c.new_cue_name-place.ensures in
    rw name at c.in_ok-found.ensures

pub returns-in_default : goal.returns-in_default
returns-in_default c =
    let a = c.args in
    let is = found_in (goal.at.returns-in_default c).In_ok-found in
    file_passed a.raw.now a.number a.text.now a.row a.out.now a.s.now c.requires is.signature is.within
    (no_such_cue a.raw.now a.number a.text.now a.row a.out.now a.s.now c.requires is.counted (rw c.in_default.is at is.own))

-- the lines that were found are those of the cue with this number
own_lines : (c : In-Some) → (from_found : FoundIn c.args.s.now c.args.number (name_lent c.args.text.now c.args.row) c.in_ok-found.found) → (c.args.number < c.in_ok-found.found.cues) × OwnLines c.args.s.now c.args.number c.in-Some.own.from c.in-Some.own.to
own_lines c is = rw c.in-Some.is at is.own

-- the first test that fails in this file
told :
    (c : After-new_cue_test)
    → FoundIn c.args.s.now c.args.number (name_lent c.args.text.now c.args.row) c.in_ok-found.found
    → new_cue_fails c.args.text.now c.args.row (region_names (plain_text c.args.raw.now)) ≡ c.new_cue_test.result
told c is =
    let a = c.args in
    sym (c.new_cue_test.ensures (region_names a.s.now) is.named ∙ ap (λ s. new_cue_fails a.text.now a.row (region_names s)) c.requires)

pub returns-in-Some-new_cue_test : goal.returns-in-Some-new_cue_test
returns-in-Some-new_cue_test c =
    let a = c.args in
    let is = found_in (goal.at.returns-in-Some-new_cue_test c).In_ok-found in
    let own = own_lines (goal.at.returns-in-Some-new_cue_test c).In-Some is in
    let test = told (goal.at.returns-in-Some-new_cue_test c).After-new_cue_test is in
    file_passed a.raw.now a.number a.text.now a.row a.out.now a.s.now c.requires is.signature is.within
    (count_passed a.raw.now a.number a.text.now a.row a.out.now a.s.now c.requires is.counted own.0
    (test_fails a.raw.now a.number a.text.now a.row a.out.now (test ∙ c.in-Some-new_cue_test.is)))

pub lacks_gap-requires : goal.lacks_gap-requires
lacks_gap-requires c =
    let a = c.args in
    let is = found_in (goal.at.lacks_gap-requires c).In_ok-found in
    let own = own_lines (goal.at.lacks_gap-requires c).In-Some is in (
      omega (arith, own.1.some, own.1.inside),
      gap_inside a.s.now a.number c.in-Some.own.from c.in-Some.own.to (omega (arith, is.counted, own.0)) own.1,
    )

-- what was tested is the gap of that cue
gap :
    (c : After-lacks_gap)
    → OwnLines c.args.s.now c.args.number c.in-Some.own.from c.in-Some.own.to
    → no_gap (plain_text c.args.raw.now) c.args.number c.args.text.now c.args.row ≡ c.lacks_gap.result
unfolding cue_of_entry
gap c own =
    let a = c.args in
    let id = c.part-2.ensures ∙ ap (λ p. bytes_at a.text.now p.from p.to) c.new_cue_id-place.ensures in
    gap_told a.raw.now a.s.now a.text.now a.row c.part-2.result.now a.number c.in-Some.own.from c.in-Some.own.to c.lacks_gap.result c.requires own id c.lacks_gap.ensures

pub returns-then-lacks_gap : goal.returns-then-lacks_gap
returns-then-lacks_gap c =
    let a = c.args in
    let is = found_in (goal.at.returns-then-lacks_gap c).In_ok-found in
    let own = own_lines (goal.at.returns-then-lacks_gap c).In-Some is in
    let test = told (goal.at.returns-then-lacks_gap c).After-new_cue_test is in
    let passes = test ∙ c.in_default-new_cue_test.is in
    file_passed a.raw.now a.number a.text.now a.row a.out.now a.s.now c.requires is.signature is.within
    (count_passed a.raw.now a.number a.text.now a.row a.out.now a.s.now c.requires is.counted own.0
    (writable_passed a.raw.now a.number a.text.now a.row a.out.now passes
    (no_gap_lem a.raw.now a.number a.text.now a.row a.out.now (gap (goal.at.returns-then-lacks_gap c).After-lacks_gap own.1 ∙ c.if-lacks_gap.true))))

pub make_file-requires : goal.make_file-requires
make_file-requires c =
    let a = c.args in
    let is = found_in (goal.at.make_file-requires c).In_ok-found in
    (c.requires, sym (c.new_cue_test.ensures (region_names a.s.now) is.named) ∙ c.in_default-new_cue_test.is)

pub returns-in_err-make_file : goal.returns-in_err-make_file
unfolding replacing_is replace_error made_is
returns-in_err-make_file c =
    let a = c.args in
    let is = found_in (goal.at.returns-in_err-make_file c).In_ok-found in
    let own = own_lines (goal.at.returns-in_err-make_file c).In-Some is in
    let test = told (goal.at.returns-in_err-make_file c).After-new_cue_test is in
    let passes = test ∙ c.in_default-new_cue_test.is in
    let p = err_from_is_err_and c.from_residual-in_err-make_file.result c.from_residual-in_err-make_file.ensures.1 in
    let e = c.in_err-make_file.field-0.0 in
    let made = made_so (new_file a.raw.now a.number a.text.now a.row) a.out.now (Err (ReplaceError.Out e)) (Err e) refl (c.in_err-make_file.ensures a.number own.1) in
    rw (p.1, p.2)
    (file_passed a.raw.now a.number a.text.now a.row a.out.now a.s.now c.requires is.signature is.within
    (count_passed a.raw.now a.number a.text.now a.row a.out.now a.s.now c.requires is.counted own.0
    (writable_passed a.raw.now a.number a.text.now a.row a.out.now passes
    (gap_passed a.raw.now a.number a.text.now a.row a.out.now (gap (goal.at.returns-in_err-make_file c).After-lacks_gap own.1 ∙ c.if-lacks_gap.false) made))))

pub returns : goal.returns
unfolding replacing_is made_is
returns c =
    let a = c.args in
    let is = found_in (goal.at.returns c).In_ok-found in
    let own = own_lines (goal.at.returns c).In-Some is in
    let test = told (goal.at.returns c).After-new_cue_test is in
    let passes = test ∙ c.in_default-new_cue_test.is in
    let n = c.in_ok-make_file.field-0 in
    let made = made_so (new_file a.raw.now a.number a.text.now a.row) a.out.now (Ok n) (Ok n) refl (c.in_ok-make_file.ensures a.number own.1) in
    file_passed a.raw.now a.number a.text.now a.row a.out.now a.s.now c.requires is.signature is.within
    (count_passed a.raw.now a.number a.text.now a.row a.out.now a.s.now c.requires is.counted own.0
    (writable_passed a.raw.now a.number a.text.now a.row a.out.now passes
    (gap_passed a.raw.now a.number a.text.now a.row a.out.now (gap (goal.at.returns c).After-lacks_gap own.1 ∙ c.if-lacks_gap.false) made)))
