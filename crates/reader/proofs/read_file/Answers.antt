use mathlib.Core.Path.{◌≡◌, refl, sym, ap, ◌∙◌}
use lib.ListN.{length}
use lib.Seq.{length-take-le}
use native.Mathlib.Omega.{arith}
use Rattle.std.proofs.lemmas.Result.{err_from_is_err_and}
use mathlib.Core.List.{[], ◌∷◌}
use Rattle.format.specs.Answers.{accepted, if_accepted, and_then}
use Rattle.format.specs.Converting.{converted_is, converting}
use Rattle.format.specs.Plain.{plain_text}
use Rattle.format.specs.Reading.{reading_raw, file_reading_is, read_file_error, file_reading}
use Rattle.laws.proofs.PlainText.{plain_text-plain}
use Rattle.laws.proofs.Answers.{Converts, converts}
use Rattle.reader.proofs.FileLaws.{short_enough, text-length, told, not_told, no_file}
use Rattle.reader.proofs.read_file.Goals as goal
use Rattle.reader.proofs.read_file.Goals.{In_ok-n}

-- the plain text stands in its room
converted : (c : In_ok-n) → accepted (c.in_ok-n.n ∷ []) ≡ converting c.args.raw.now (length c.args.text.now)
unfolding converted_is
converted c = c.in_ok-n.ensures.answer

plain : (c : In_ok-n) → Converts c.args.raw.now c.in_ok-n.n c.convert.new.room
plain c = converts c.args.raw.now c.args.text.now (converted c) c.convert.ensures.room

pub returns-in_err-n : goal.returns-in_err-n
unfolding converted_is file_reading_is read_file_error
returns-in_err-n c =
    let a = c.args in
    let p = err_from_is_err_and c.from_residual.result c.from_residual.ensures.1 in
    let refusal = no_file a.raw.now (length a.text.now) (length a.cues.now) (length a.regions.now) (length a.styles.now) c.in_err-n.field-0.0 c.in_err-n.ensures.answer in
    rw (p.1, p.2)
    (record {
      answer = refusal.0;
      text = c.convert.ensures.room;
      cues = refusal.1 _ a.cues.now;
      regions = refusal.1 _ a.regions.now;
      styles = refusal.1 _ a.styles.now;
    })

pub slice_bounds-read_plain-end : goal.slice_bounds-read_plain-end
slice_bounds-read_plain-end c = (plain (goal.at.slice_bounds-read_plain-end c).In_ok-n).fits

pub slice_bounds-read_plain-end-2 : goal.slice_bounds-read_plain-end-2
slice_bounds-read_plain-end-2 c = sym (length-take-le _ _ (plain (goal.at.slice_bounds-read_plain-end-2 c).In_ok-n).fits)

pub read_plain-requires : goal.read_plain-requires
read_plain-requires c =
    let raw = c.args.raw.now in
    let at = (goal.at.read_plain-requires c).In_ok-n in
    rw (plain at).text (short_enough raw (length c.args.text.now) (converted at), omega (arith, plain_text-plain raw))

pub returns-in_err-counts : goal.returns-in_err-counts
unfolding file_reading_is read_file_error file_reading reading_raw and_then if_accepted
returns-in_err-counts c =
    let at = (goal.at.returns-in_err-counts c).In_ok-n in
    let p = err_from_is_err_and c.from_residual-in_err-counts.result c.from_residual-in_err-counts.ensures.1 in
    let made = rw (plain at).text at c.in_err-counts.ensures in
    rw (p.1, p.2, ← converted at)
    (record {
      answer = rw (← made.answer) (not_told c.in_err-counts.field-0.0 _);
      text = c.convert.ensures.room;
      cues = rw made.answer at made.cues;
      regions = rw made.answer at made.regions;
      styles = rw made.answer at made.styles;
    })

pub returns : goal.returns
unfolding file_reading_is file_reading reading_raw and_then if_accepted
returns c =
    let a = c.args in
    let at = (goal.at.returns c).In_ok-n in
    let s = plain_text a.raw.now in
    let made = rw (plain at).text at c.in_ok-counts.ensures in
    rw (← converted at)
    (record {
      answer = told s (length a.cues.now) (length a.regions.now) (length a.styles.now) c.in_ok-counts.counts c.in_ok-n.n made.answer (text-length a.raw.now (length a.text.now) (converted at));
      text = c.convert.ensures.room;
      cues = rw made.answer at made.cues;
      regions = rw made.answer at made.regions;
      styles = rw made.answer at made.styles;
    })
