use mathlib.Core.Path.{◌≡◌, sym, ◌∙◌}
use mathlib.Core.Bool.{true, ◌||◌}
use native.Mathlib.Omega.{arith}
use lib.Dec.{ltb}
use lib.ListN.{length}
use borrow.Author.Tests.{lt-ltb, ltb-false}
use Rattle.std.proofs.lemmas.Result.{err_from_is_err_and}
use Rattle.format.specs.Limits.{max_text}
use Rattle.format.specs.Lists.{lists}
use Rattle.format.specs.Rows.{region_rows, style_rows, stored_cues}
use Rattle.format.specs.Reading.{lists_error}
use Rattle.laws.proofs.Tests.{or_true}
use Rattle.blocks.proofs.WalkLaws.{after-header}
use Rattle.reader.specs.Counting.{Readable, Refused}
use Rattle.reader.proofs.ReadLaws.{text_refuses, too_short, short-answer, full_answer, accepted-rows, short-rows}
use Rattle.reader.proofs.inner.read_plain.Goals as goal

pub measure-requires : goal.measure-requires
measure-requires c = (c.requires.0, c.requires.1, c.past_header-from.ensures)

pub returns-in_err-need : goal.returns-in_err-need
unfolding lists_error
returns-in_err-need c =
    let a = c.args in
    let s = a.text.now in
    let p = err_from_is_err_and c.from_residual.result c.from_residual.ensures.1 in
    let e = c.in_err-need.field-0.0 in
    let u = text_refuses s a.cues.now a.regions.now a.styles.now e c.in_err-need.ensures in
    rw (p.1, p.2) (record { answer = u.0; cues = u.1.0; regions = u.1.1.0; styles = u.1.1.1 })

pub returns-then-cues-need : goal.returns-then-cues-need
returns-then-cues-need c =
    let a = c.args in
    let s = a.text.now in
    let need = c.in_ok-need.need in
    let cues = length a.cues.now in
    let regions = length a.regions.now in
    let styles = length a.styles.now in
    record {
      answer = short-answer s need c.in_ok-need.ensures cues regions styles (too_short cues need.cues regions need.regions styles need.styles c.then-cues-need.either);
      cues = short-rows need (stored_cues s) a.cues.now;
      regions = short-rows need (region_rows (lists s).regions) a.regions.now;
      styles = short-rows need (style_rows (lists s).styles) a.styles.now;
    }

pub fill-requires : goal.fill-requires
fill-requires c =
    let m = c.in_ok-need.ensures in
    let after = after-header c.args.text.now in
    record {
      from_in_bounds = (rw c.past_header-from.ensures after.0, c.requires.0, rw c.past_header-from.ensures after.1, m.within);
      text_in_bounds = (omega (arith, m.cues_are), omega (arith, m.regions_are), omega (arith, m.styles_are));
    }

pub returns : goal.returns
returns c =
    let a = c.args in
    let s = a.text.now in
    let need = c.in_ok-need.need in
    record {
      answer = full_answer s need c.in_ok-need.ensures (length a.cues.now) (length a.regions.now) (length a.styles.now) c.if-cues-need.false c.if-regions-need.false c.if-styles-need.false;
      cues = c.fill.ensures.cues ∙ accepted-rows need (stored_cues s) a.cues.now;
      regions = c.fill.ensures.regions ∙ accepted-rows need (region_rows (lists s).regions) a.regions.now;
      styles = c.fill.ensures.styles ∙ accepted-rows need (style_rows (lists s).styles) a.styles.now;
    }
