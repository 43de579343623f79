use mathlib.Core.Path.{ap, ◌∙◌}
use Rattle.c_api.proofs.spatz_text.Goals as goal

pub returns : goal.returns
returns c =
    let place = c.text-place.ensures ∙ ap (λ e. e.text) c.row_at.ensures in
    let told = rw (c.ask.ensures, place) at c.tell_place.ensures in
    record { number = told.number; values = told.values }
