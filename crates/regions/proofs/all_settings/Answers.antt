use mathlib.Core.Path.{ap, ◌∙◌}
use Rattle.values.proofs.CutLaws.{Cut, cut_at}
use Rattle.format.specs.RegionSettings.{region_settings}
use Rattle.regions.specs.Changes.{taken_is}
use Rattle.regions.proofs.all_settings.Goals as goal
use Rattle.regions.proofs.all_settings.Goals.{After-min-start}

-- the part that was cut
cut :
    (c : After-min-start)
    → let args = c.args in Cut args.text.now args.from args.to c.min-end.result c.min-start.result
cut c =
    let args = c.args in
    cut_at args.text.now args.from args.to c.min-end.result c.min-start.result c.min-end.ensures c.min-start.ensures

pub slice_bounds-read_region-end : goal.slice_bounds-read_region-end
slice_bounds-read_region-end c = (cut (goal.at.slice_bounds-read_region-end c).After-min-start).size

pub read_region-requires : goal.read_region-requires
read_region-requires c = (cut (goal.at.read_region-requires c).After-min-start).inside

pub returns : goal.returns
returns c = c.read_region.ensures ∙ ap (λ p. taken_is (region_settings p)) (cut (goal.at.returns c).After-min-start).part
