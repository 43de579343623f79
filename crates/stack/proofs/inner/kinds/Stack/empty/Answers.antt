use mathlib.Core.Path.{refl}
use Rattle.stack.proofs.KindLaws.{kinds-none}
use Rattle.stack.proofs.inner.kinds.Stack.empty.Goals as goal

-- `stack::inner::kinds::Stack::empty` meets its contract.
pub returns-clause-is : goal.returns-clause-is
returns-clause-is c = kinds-none c.args.words.now 0 0 0 refl refl
