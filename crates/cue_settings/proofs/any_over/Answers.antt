use mathlib.Core.Path.{sym, ap, ◌∙◌}
use Rattle.values.proofs.CutLaws.{Cut, cut_at}
use Rattle.format.specs.CueSettings.{cue_settings}
use Rattle.cue_settings.proofs.OverLaws.{part_overs}
use Rattle.cue_settings.proofs.any_over.Goals as goal
use Rattle.cue_settings.proofs.any_over.Goals.{After-min-start}

-- the part that was cut
cut :
    (c : After-min-start)
    → let args = c.args in Cut args.text.now args.from args.to c.min-end.result c.min-start.result
cut c =
    let args = c.args in
    cut_at args.text.now args.from args.to c.min-end.result c.min-start.result c.min-end.ensures c.min-start.ensures

pub slice_bounds-any_token_over-end : goal.slice_bounds-any_token_over-end
slice_bounds-any_token_over-end c = (cut (goal.at.slice_bounds-any_token_over-end c).After-min-start).size

pub any_token_over-requires : goal.any_token_over-requires
any_token_over-requires c = (cut (goal.at.any_token_over-requires c).After-min-start).inside

pub returns : goal.returns
returns c = c.any_token_over.ensures ∙ sym (part_overs _) ∙ ap (λ p. (cue_settings p).over) (cut (goal.at.returns c).After-min-start).part
