use mathlib.Core.Path.{ap}
use Rattle.format.specs.Texts.{bytes_at}
use Rattle.output.proofs.PutLaws.{◌then◌}
use Rattle.forms.specs.Forms.{cue_form}
use Rattle.forms.proofs.FormLaws.{join-cue}
use Rattle.forms.proofs.cue_named.Goals as goal

pub returns : goal.returns
unfolding cue_form
returns c =
    let args = c.args in
    let s = args.text.now in
    rw (
      join-cue,
      ← ap (λ p. bytes_at s p.from p.to) c.id-id.ensures,
      ← ap (λ p. bytes_at s p.from p.to) c.text-words.ensures,
      ← c.part.ensures,
      ← c.part-2.ensures,
    )
    (c.line_before.ensures then c.timing_line.ensures then c.line_after.ensures)
