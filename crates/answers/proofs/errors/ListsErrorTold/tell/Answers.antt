use Rattle.format.specs.Answers.{returned, with_values}
use Rattle.format.specs.Reading.{lists_error, counts_told, count_values}
use Rattle.answers.proofs.errors.ListsErrorTold.tell.Goals as goal

pub returns-in-TablesTooShort-clause-values : goal.returns-in-TablesTooShort-clause-values
unfolding returned lists_error counts_told
returns-in-TablesTooShort-clause-values c = rw c.in-TablesTooShort.is c.tell-in-TablesTooShort.ensures.values
