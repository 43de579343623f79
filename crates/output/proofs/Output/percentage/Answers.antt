use Rattle.format.specs.Written.{written_percentage}
use Rattle.output.proofs.PutLaws.{◌then◌}
use borrow.Author.Rules.{rules}
use Rattle.output.proofs.Output.percentage.Goals as goal

pub returns : goal.returns
unfolding written_percentage
returns c = search (rules, ◌then◌)
