use mathlib.Core.Path.{◌≡◌, refl, sym, ◌∙◌}
use lib.ListN.{length}
use lib.Seq.{length-take-le}
use Rattle.std.proofs.lemmas.Result.{err_from_is_err_and}
use Rattle.format.specs.Answers.{if_accepted, and_then}
use Rattle.format.specs.Plain.{plain_text}
use Rattle.format.specs.Lists.{lists}
use Rattle.format.specs.Rows.{region_rows, style_rows, stored_cues}
use Rattle.format.specs.Reading.{count_values, file_lists_told, file_reading_is}
use Rattle.format.specs.Writing.{writing_is, written_room}
use Rattle.format.specs.Rewriting.{rewrite_error, rewriting_is, lengths, reading_in, writing_of, rewriting, rewritten_room}
use Rattle.laws.proofs.Answers.{Converts, converts}
use Rattle.rewriting.proofs.RewriteLaws.{FileRead, file_read, not_rewritten, Starts, starts, file-is}
use Rattle.rewriting.proofs.rewrite.Goals as goal
use Rattle.rewriting.proofs.rewrite.Goals.{In_ok-lists}

-- a refusal to read is the answer, which the check finds by `not_rewritten`,
-- and it leaves the output room as it was
pub returns-in_err-lists-clause-out : goal.returns-in_err-lists-clause-out
returns-in_err-lists-clause-out c =
    let a = c.args in
    (not_rewritten a.raw.now a.text.now a.cues.now a.regions.now a.styles.now a.out.now c.in_err-lists.field-0.0 c.in_err-lists.ensures.answer).1

-- the file was read
was_read :
    (c : In_ok-lists)
    → let a = c.args in
    let n = c.in_ok-lists.lists.counts in
    FileRead a.raw.now (length a.text.now) (length a.cues.now) (length a.regions.now) (length a.styles.now) n.cues n.regions n.styles c.in_ok-lists.lists.text
unfolding file_reading_is file_lists_told count_values
was_read c = file_read _ _ _ _ _ _ _ _ _ c.in_ok-lists.ensures.answer

-- its plain text stands in its room
plain : (c : In_ok-lists) → Converts c.args.raw.now c.in_ok-lists.lists.text c.read_file.new.text
plain c =
    let a = c.args in
    converts a.raw.now a.text.now (was_read c).converted c.read_file.ensures.text

-- and its lists' rows at the tables' starts
rows :
    (c : In_ok-lists)
    → let n = c.in_ok-lists.lists.counts in
    Starts (plain_text c.args.raw.now) n.cues n.regions n.styles c.read_file.new.cues c.read_file.new.regions c.read_file.new.styles
rows c =
    let a = c.args in
    let f = was_read c in
    let read = c.read_file.ensures in
    starts (plain_text a.raw.now) a.cues.now a.regions.now a.styles.now f.lists_read (rw f.whole at read.cues) (rw f.whole at read.regions) (rw f.whole at read.styles)

pub slice_bounds-write-end : goal.slice_bounds-write-end
slice_bounds-write-end c = (plain (goal.at.slice_bounds-write-end c).In_ok-lists).fits

pub slice_bounds-write-end-2 : goal.slice_bounds-write-end-2
slice_bounds-write-end-2 c = sym (length-take-le _ _ (plain (goal.at.slice_bounds-write-end-2 c).In_ok-lists).fits)

pub slice_bounds-write-end-3 : goal.slice_bounds-write-end-3
slice_bounds-write-end-3 c = (rows (goal.at.slice_bounds-write-end-3 c).In_ok-lists).styles_reach

pub slice_bounds-write-end-4 : goal.slice_bounds-write-end-4
slice_bounds-write-end-4 c = sym (length-take-le _ _ (rows (goal.at.slice_bounds-write-end-4 c).In_ok-lists).styles_reach)

pub slice_bounds-write-end-5 : goal.slice_bounds-write-end-5
slice_bounds-write-end-5 c = (rows (goal.at.slice_bounds-write-end-5 c).In_ok-lists).regions_reach

pub slice_bounds-write-end-6 : goal.slice_bounds-write-end-6
slice_bounds-write-end-6 c = sym (length-take-le _ _ (rows (goal.at.slice_bounds-write-end-6 c).In_ok-lists).regions_reach)

pub slice_bounds-write-end-7 : goal.slice_bounds-write-end-7
slice_bounds-write-end-7 c = (rows (goal.at.slice_bounds-write-end-7 c).In_ok-lists).cues_reach

pub slice_bounds-write-end-8 : goal.slice_bounds-write-end-8
slice_bounds-write-end-8 c = sym (length-take-le _ _ (rows (goal.at.slice_bounds-write-end-8 c).In_ok-lists).cues_reach)

-- what writing the lists that were read answers is what rewriting answers,
-- and the room that it leaves is the room that rewriting leaves
answer_of :
    (c : In_ok-lists)
    → let a = c.args in
    writing_of (plain_text a.raw.now) (length a.out.now) ≡ rewriting a.raw.now (lengths a.text.now a.cues.now a.regions.now a.styles.now a.out.now)
unfolding rewriting reading_in lengths and_then if_accepted
answer_of c = rw (was_read c).whole refl

room_of :
    (c : In_ok-lists)
    → let a = c.args in
    let s = plain_text a.raw.now in
    written_room s (style_rows (lists s).styles) (region_rows (lists s).regions) (stored_cues s) a.out.now ≡ rewritten_room a.raw.now (lengths a.text.now a.cues.now a.regions.now a.styles.now a.out.now) a.out.now
unfolding rewriting rewritten_room reading_in lengths and_then if_accepted writing_of written_room
room_of c =
    let a = c.args in
    let f = was_read c in
    let file = file-is (plain_text a.raw.now) (length a.cues.now) (length a.regions.now) (length a.styles.now) _ f.lists_read in
    rw (f.whole, file) refl

pub returns-in_err-write-clause-answer : goal.returns-in_err-write-clause-answer
unfolding writing_is writing_of rewriting_is rewrite_error
returns-in_err-write-clause-answer c =
    let read = (goal.at.returns-in_err-write-clause-answer c).In_ok-lists in
    let at = rows read in
    let p = err_from_is_err_and c.from_residual-in_err-write.result c.from_residual-in_err-write.ensures.1 in
    let told = rw ((plain read).text, at.styles, at.regions, at.cues) at c.in_err-write.ensures.answer in
    rw (p.1, p.2) (told ∙ answer_of read)

pub returns-in_err-write-clause-out : goal.returns-in_err-write-clause-out
returns-in_err-write-clause-out c =
    let read = (goal.at.returns-in_err-write-clause-out c).In_ok-lists in
    let at = rows read in
    let left = rw ((plain read).text, at.styles, at.regions, at.cues) at c.in_err-write.ensures.out in
    left ∙ room_of read

pub returns-clause-answer : goal.returns-clause-answer
unfolding writing_is writing_of rewriting_is
returns-clause-answer c =
    let read = (goal.at.returns-clause-answer c).In_ok-lists in
    let at = rows read in
    let told = rw ((plain read).text, at.styles, at.regions, at.cues) at c.in_ok-write.ensures.answer in
    told ∙ answer_of read

pub returns-clause-out : goal.returns-clause-out
returns-clause-out c =
    let read = (goal.at.returns-clause-out c).In_ok-lists in
    let at = rows read in
    let left = rw ((plain read).text, at.styles, at.regions, at.cues) at c.in_ok-write.ensures.out in
    left ∙ room_of read
