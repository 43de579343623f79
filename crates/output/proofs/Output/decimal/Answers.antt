use Rattle.format.specs.Written.{written_decimal}
use Rattle.output.proofs.PutLaws.{◌then◌}
use borrow.Author.Rules.{rules}
use Rattle.output.proofs.Output.decimal.Goals as goal

pub returns : goal.returns
unfolding written_decimal
returns c = search (rules, ◌then◌)
