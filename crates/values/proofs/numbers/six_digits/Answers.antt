use native.Mathlib.Omega.{arith}
use Rattle.format.specs.Numbers.{number_from}
use Rattle.laws.proofs.Numbers.{six_digits}
use Rattle.values.proofs.numbers.six_digits.Goals as goal

pub returns : goal.returns
unfolding number_from
returns c =
    let ds = c.args.ds.now in
    omega (arith, six_digits ds)
