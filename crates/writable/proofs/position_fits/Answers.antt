use Rattle.format.specs.Writable.{position_fits}
use Rattle.writable.proofs.position_fits.Goals as goal

pub returns-in-Auto : goal.returns-in-Auto
unfolding position_fits
returns-in-Auto c = rw c.in-Auto.is c.is_auto.ensures

pub returns-in-At : goal.returns-in-At
unfolding position_fits
returns-in-At c = rw c.in-At.is c.at_most_100.ensures
