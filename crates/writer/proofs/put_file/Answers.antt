use mathlib.Core.Path.{sym}
use mathlib.Core.List.{map}
use Rattle.format.specs.Lines.{join}
use Rattle.format.specs.Contents.{cue_of_row, region_of_row, style_of_row}
use Rattle.format.specs.Written.{style_lines, region_lines, cue_lines}
use Rattle.output.proofs.PutLaws.{puts_as, ◌then◌}
use Rattle.writer.proofs.BlockLaws.{file_form}
use Rattle.writer.proofs.put_file.Goals as goal

pub returns : goal.returns
returns c =
    let args = c.args in
    let s = args.text.now in
    let regions = map (region_of_row s) args.regions.now in
    puts_as (sym (file_form s args.styles.now args.regions.now args.cues.now))
    (c.bytes.ensures
    then c.put_blocks.ensures (λ row. join (style_lines (style_of_row s row))) (λ row a b put. put)
    then c.put_blocks-2.ensures (λ row. join (region_lines (region_of_row s row))) (λ row a b put. put)
    then c.put_blocks-3.ensures (λ row. join (cue_lines regions (cue_of_row s row))) (λ row a b put. put))
