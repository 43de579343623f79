-- The token of the step is the one at the place where the reader stood.
use Rattle.tokenizer.proofs.HandedOut.{step_is_at}
use Rattle.tokenizer.proofs.reader.Tokenizer.next.Goals as goal

pub returns-clause-at : goal.returns-clause-at
returns-clause-at c = rw c.step-stepped.ensures (step_is_at c.args.self.now.text.now c.args.self.now.at)
