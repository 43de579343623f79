use Rattle.format.specs.Writable.{line_fits}
use Rattle.writable.proofs.line_fits.Goals as goal

pub returns-in-Auto : goal.returns-in-Auto
unfolding line_fits
returns-in-Auto c = rw c.in-Auto.is c.is_opening.ensures

pub returns-in-At : goal.returns-in-At
unfolding line_fits
returns-in-At c = rw c.in-At.is c.line_number_fits.ensures
