use mathlib.Core.Path.{ap}
use mathlib.Core.Bool.{not}
use Rattle.values.proofs.bytes.goes_on.Goals as goal

pub returns-in-White : goal.returns-in-White
returns-in-White c = rw c.in-White.is c.is_white.ensures

pub returns-in-Token : goal.returns-in-Token
returns-in-Token c = rw c.in-Token.is (ap not c.is_white-in-Token.ensures)

pub returns-in-Digits : goal.returns-in-Digits
returns-in-Digits c = rw c.in-Digits.is c.is_digit.ensures

pub returns-in-Until : goal.returns-in-Until
returns-in-Until c = rw c.in-Until.is

pub returns-in-Only : goal.returns-in-Only
returns-in-Only c = rw c.in-Only.is
