use mathlib.Core.Path.{◌≡◌, sym, ap}
use native.Mathlib.Omega.{arith}
use lib.ListN.{drop}
use Rattle.stack.proofs.KindLaws.{kinds-none, kinds-some, kinds_again}
use Rattle.stack.proofs.inner.kinds.Stack.pop.Goals as goal

-- `stack::inner::kinds::Stack::pop` meets its contract.
pub returns-then-self-gt0-clause-is : goal.returns-then-self-gt0-clause-is
returns-then-self-gt0-clause-is c =
    let s = c.args.self.now in
    kinds_again s.words.now s.full s.held s.top c.if-self-eq1.true c.if-self-gt0.true

pub returns-then-self-gt0-2-clause-is : goal.returns-then-self-gt0-2-clause-is
returns-then-self-gt0-2-clause-is c =
    let s = c.args.self.now in
    sym (ap (drop 1) (kinds-some s.words.now s.full s.held s.top c.if-self-gt0-2.true))

pub returns-else-self-gt0-2-clause-is : goal.returns-else-self-gt0-2-clause-is
returns-else-self-gt0-2-clause-is c =
    let s = c.args.self.now in
    let none : s.held ≡ 0 = omega arith in
    let e = kinds-none s.words.now s.full s.held s.top none (s.some none) in
    rw e
