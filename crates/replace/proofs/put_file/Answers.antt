use mathlib.Core.Path.{ap, ◌∙◌}
use Rattle.std.specs.Option.{option_copied}
use Rattle.format.specs.Texts.{bytes_at}
use Rattle.format.specs.Replacing.{name_lent}
use Rattle.output.proofs.PutLaws.{puts_as, ◌then◌}
use Rattle.replace.specs.NewCue.{in_place}
use Rattle.replace.proofs.FileLaws.{front_part, back_part, lent_form_lem}
use Rattle.replace.proofs.put_file.Goals as goal

pub returns : goal.returns
unfolding in_place name_lent
returns c =
    let args = c.args in
    let lent = c.part-name.ensures ∙ ap (λ p. bytes_at args.text.now p.from p.to) c.new_cue_name-place.ensures in
    let a = puts_as (c.part.ensures ∙ front_part args.raw.now args.start) c.bytes.ensures in
    let b = puts_as (lent_form_lem args.text.now args.row c.cue_of_new.result c.part-name.result.now (option_copied c.region_asked.result) c.cue_of_new.ensures.0 lent c.region_asked.ensures) c.cue_named.ensures in
    let d = puts_as (c.part-2.ensures ∙ back_part args.raw.now args.end) c.bytes-2.ensures in
    a then b then d
