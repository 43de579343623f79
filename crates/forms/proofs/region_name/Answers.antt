use mathlib.Core.Path.{sym, ap, ◌∙◌}
use mathlib.Core.List.{[], map}
use native.Mathlib.Omega.{arith}
use lib.ListN.{length-map, get_or-map, get_or-eq_default}
use Rattle.format.specs.Texts.{bytes_at}
use Rattle.format.specs.Contents.{region_of_entry}
use Rattle.lookup.proofs.NameLaws.{name_at}
use Rattle.forms.proofs.region_name.Goals as goal

pub returns-then-regions-index : goal.returns-then-regions-index
returns-then-regions-index c =
    let args = c.args in
    let f = name_at args.text.now in
    sym (get_or-eq_default (map f args.regions.now) [] (omega (arith, length-map args.regions.now f)))

pub returns : goal.returns
unfolding region_of_entry bytes_at
returns c =
    let args = c.args in
    c.part.ensures
    ∙ ap (λ p. bytes_at args.text.now p.from p.to) c.id-id.ensures
    ∙ sym (get_or-map (name_at args.text.now) args.regions.now args.index [])
