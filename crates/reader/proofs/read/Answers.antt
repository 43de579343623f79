use mathlib.Core.Path.{sym, ap, ◌∙◌}
use borrow.Author.Tests.{ltb-false}
use lib.ListN.{length}
use Rattle.std.proofs.lemmas.Result.{err_from_is_err_and}
use Rattle.format.specs.Plain.{first_not_plain}
use Rattle.format.specs.Converting.{plainness_is}
use Rattle.format.specs.Reading.{reading_is, read_error}
use Rattle.laws.proofs.Answers.{all_plain}
use Rattle.reader.proofs.ReadLaws.{refuses_long, refuses_not-plain}
use Rattle.reader.proofs.read.Goals as goal

pub returns-then-text-gt-MAX_TEXT : goal.returns-then-text-gt-MAX_TEXT
unfolding reading_is
returns-then-text-gt-MAX_TEXT c =
    let a = c.args in
    let u = refuses_long a.text.now a.cues.now a.regions.now a.styles.now c.if-text-gt-MAX_TEXT.true in
    record { answer = u.0; cues = u.1.0; regions = u.1.1.0; styles = u.1.1.1 }

pub read_plain-requires : goal.read_plain-requires
read_plain-requires c =
    let s = c.args.text.now in
    let plain = all_plain s (ap plainness_is (sym c.in_default.is) ∙ c.first_not_plain.ensures) in
    (c.if-text-gt-MAX_TEXT.false, ltb-false (first_not_plain s) (length s) plain)

pub returns-in-Some : goal.returns-in-Some
unfolding reading_is
returns-in-Some c =
    let a = c.args in
    let told = ap plainness_is (sym c.in-Some.is) ∙ c.first_not_plain.ensures in
    let u = refuses_not-plain a.text.now a.cues.now a.regions.now a.styles.now c.in-Some.i c.if-text-gt-MAX_TEXT.false told in
    record { answer = u.0; cues = u.1.0; regions = u.1.1.0; styles = u.1.1.1 }

pub returns-in_err-read_plain : goal.returns-in_err-read_plain
unfolding reading_is read_error
returns-in_err-read_plain c =
    let p = err_from_is_err_and c.from_residual.result c.from_residual.ensures.1 in
    let told = c.in_err-read_plain.ensures in
    rw (p.1, p.2) (record { answer = told.answer; cues = told.cues; regions = told.regions; styles = told.styles })

pub returns : goal.returns
unfolding reading_is
returns c =
    let told = c.in_ok-read_plain.ensures in
    record { answer = told.answer; cues = told.cues; regions = told.regions; styles = told.styles }
