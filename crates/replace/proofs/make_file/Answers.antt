use mathlib.Core.Path.{◌≡◌, ap, ◌∙◌}
use Rattle.format.specs.Replacing.{new_file}
use Rattle.blocks.specs.Collecting.{line_ends}
use Rattle.output.proofs.PutLaws.{puts_as}
use Rattle.replace.specs.NewCue.{in_place}
use Rattle.replace.proofs.FileLaws.{file-is}
use Rattle.replace.proofs.make_file.Goals as goal

-- What is put is the new file, wherever the cue's lines are found, so that what is made of it is the file,
-- or the refusal that its length gives.
pub returns : goal.returns
returns c number own =
    let args = c.args in
    let is =
    file-is args.raw.now args.s.now args.text.now args.row number args.own.from args.own.to
    c.line_ends-first.result c.line_ends-more.result c.raw_start-start.result c.raw_end-end.result
    c.requires.0 own c.requires.1
    (c.line_ends-first.ensures ∙ ap line_ends c.part.ensures)
    (c.line_ends-more.ensures ∙ ap line_ends c.part-2.ensures)
    c.raw_start-start.ensures c.raw_end-end.ensures in
    c.make_file.ensures (new_file args.raw.now number args.text.now args.row) (λ a b put. puts_as is put)
