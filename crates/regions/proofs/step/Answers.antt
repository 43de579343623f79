use Rattle.format.specs.RegionSettings.{region_change}
use Rattle.laws.proofs.Tests.{or_false}
use Rattle.regions.proofs.step.Goals as goal

pub take_setting-requires : goal.take_setting-requires
take_setting-requires c = rw c.in-Some.is at c.name_end.ensures

pub returns-in-None : goal.returns-in-None
unfolding region_change
returns-in-None c =
    let over = c.args.taken.over in
    rw (rw c.in-None.is at c.name_end.ensures, or_false over)
