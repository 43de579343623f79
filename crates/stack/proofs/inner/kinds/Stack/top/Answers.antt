use mathlib.Core.Path.{sym, ap}
use native.Mathlib.Omega.{arith}
use Rattle.stack.specs.Kinds.{top_of}
use Rattle.stack.proofs.KindLaws.{kinds-none, kinds-some}
use Rattle.stack.proofs.inner.kinds.Stack.top.Goals as goal

-- `stack::inner::kinds::Stack::top` meets its contract.
pub returns-then-self-eq0 : goal.returns-then-self-eq0
unfolding top_of
returns-then-self-eq0 c =
    let s = c.args.self.now in
    sym (ap top_of (kinds-none s.words.now s.full s.held s.top c.if-self-eq0.true (s.some c.if-self-eq0.true)))

pub returns : goal.returns
unfolding top_of
returns c =
    let s = c.args.self.now in
    sym (ap top_of (kinds-some s.words.now s.full s.held s.top (omega arith)))
