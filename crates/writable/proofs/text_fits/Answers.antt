use native.Mathlib.Omega.{arith}
use Rattle.format.specs.Writable.{cue_test3}
use Rattle.values.proofs.NumberLaws.{empty_is, is_empty-not}
use Rattle.writable.proofs.text_fits.Goals as goal

pub returns-then-s-eq0 : goal.returns-then-s-eq0
unfolding cue_test3
returns-then-s-eq0 c = let a = c.args in rw (empty_is a.s.now c.if-s-eq0.true)

pub returns : goal.returns
unfolding cue_test3
returns c = let a = c.args in rw (is_empty-not a.s.now (omega arith)) c.is_unbroken.ensures
