use native.Mathlib.Omega.{arith}
use Rattle.values.proofs.NumberLaws.{empty_is, is_empty-not}
use Rattle.replace.specs.NewCue.{asked}
use Rattle.replace.proofs.region_asked.Goals as goal

pub returns-then-name-eq0 : goal.returns-then-name-eq0
unfolding asked
returns-then-name-eq0 c = rw (empty_is c.args.name.now c.if-name-eq0.true)

pub returns : goal.returns
unfolding asked
returns c = rw (is_empty-not c.args.name.now (omega (arith, c.if-name-eq0.false)))
