use mathlib.Core.Path.{◌≡◌, sym}
use mathlib.Core.List.{[], ◌∷◌}
use lib.ListN.{length}
use lib.Seq.{length-take-le}
use Rattle.std.proofs.lemmas.Result.{err_from_is_err_and}
use Rattle.format.specs.Answers.{accepted, if_accepted, and_then}
use Rattle.format.specs.Converting.{converted_is, converting}
use Rattle.format.specs.Replacing.{replace_error, replacing_is, replacing, replaced_room}
use Rattle.laws.proofs.Answers.{Converts, converts}
use Rattle.replaced.proofs.Files.{room-replaced}
use Rattle.replace.proofs.FileLaws.{not_converted}
use Rattle.replace.proofs.replace_cue.Goals as goal
use Rattle.replace.proofs.replace_cue.Goals.{In_ok-n}

pub returns-in_err-n-clause-answer : goal.returns-in_err-n-clause-answer
unfolding replacing_is replace_error converted_is
returns-in_err-n-clause-answer c =
    let a = c.args in
    let p = err_from_is_err_and c.from_residual.result c.from_residual.ensures.1 in
    rw (p.1, p.2) (not_converted a.raw.now a.number a.text.now a.row a.out.now (length a.scratch.now) c.in_err-n.field-0.0 c.in_err-n.ensures.answer).0

pub returns-in_err-n-clause-out : goal.returns-in_err-n-clause-out
unfolding converted_is
returns-in_err-n-clause-out c =
    let a = c.args in
    (not_converted a.raw.now a.number a.text.now a.row a.out.now (length a.scratch.now) c.in_err-n.field-0.0 c.in_err-n.ensures.answer).1

-- the plain text stands in the scratch room
converted : (c : In_ok-n) → accepted (c.in_ok-n.n ∷ []) ≡ converting c.args.raw.now (length c.args.scratch.now)
unfolding converted_is
converted c = c.in_ok-n.ensures.answer

plain : (c : In_ok-n) → Converts c.args.raw.now c.in_ok-n.n c.convert.new.room
plain c = converts c.args.raw.now c.args.scratch.now (converted c) c.convert.ensures.room

pub slice_bounds-replace_in-end : goal.slice_bounds-replace_in-end
slice_bounds-replace_in-end c = (plain (goal.at.slice_bounds-replace_in-end c).In_ok-n).fits

pub slice_bounds-replace_in-end-2 : goal.slice_bounds-replace_in-end-2
slice_bounds-replace_in-end-2 c = sym (length-take-le _ _ (plain (goal.at.slice_bounds-replace_in-end-2 c).In_ok-n).fits)

pub replace_in-requires : goal.replace_in-requires
replace_in-requires c = (plain (goal.at.replace_in-requires c).In_ok-n).text

pub returns : goal.returns
unfolding replacing replaced_room and_then if_accepted
returns c =
    let a = c.args in
    let made = c.replace_in.ensures in
    let is = converted (goal.at.returns c).In_ok-n in
    let answer : replacing_is c.replace_in.result ≡ replacing a.raw.now a.number a.text.now a.row (length a.scratch.now) (length a.out.now) = rw (← is) made.answer in
    record {
      answer = answer;
      scratch = c.convert.ensures.room;
      out = rw (← is) made.holds;
      replaced = room-replaced a.raw.now a.number a.text.now a.row (length a.scratch.now) a.out.now _ c.replace_in.result answer (rw (← is) made.holds);
    }
