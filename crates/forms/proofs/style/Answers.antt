use mathlib.Core.Path.{ap}
use Rattle.format.specs.Texts.{bytes_at}
use Rattle.format.specs.Lines.{join}
use Rattle.format.specs.Written.{style_lines}
use Rattle.output.proofs.PutLaws.{◌then◌}
use Rattle.forms.proofs.FormLaws.{ended-split}
use Rattle.forms.proofs.style.Goals as goal

pub returns : goal.returns
unfolding style_lines join
returns c =
    let args = c.args in
    rw (
      ended-split,
      ← ap (λ p. bytes_at args.text.now p.from p.to) c.text-place.ensures,
      ← c.part.ensures,
    )
    (c.bytes.ensures then c.bytes-2.ensures)
