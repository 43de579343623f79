use native.Mathlib.Omega.{arith}
use Prim.Native.Nat.{◌+◌, ◌*◌, ◌<◌, ◌^◌}
use mathlib.Core.Path.{◌≡◌}
use Rattle.stack.proofs.KindLaws.{length-kinds_in, room_small, kinds_put, kinds_over, set-small}
use Rattle.stack.proofs.inner.kinds.Stack.push.Goals as goal
use Rattle.stack.proofs.inner.kinds.Stack.push.Goals.{Then-self-lt21, Else-self-lt21}
use lib.ListN.{length, length-set}

-- `stack::inner::kinds::Stack::push` meets its contract.
fits : (c : Then-self-lt21) → c.args.self.now.top * 8 + c.args.kind < 8 ^ 21
fits c = let s = c.args.self.now in room_small s.held s.top c.args.kind c.if-self-lt21.true s.small c.requires.0

pub overflow_mul-self : goal.overflow_mul-self
overflow_mul-self c = omega (arith, fits (goal.at.overflow_mul-self c).Then-self-lt21)

pub overflow_add-self-then-self-lt21 : goal.overflow_add-self-then-self-lt21
overflow_add-self-then-self-lt21 c = omega (arith, fits (goal.at.overflow_add-self-then-self-lt21 c).Then-self-lt21)

pub returns-then-self-lt21-clause-is : goal.returns-then-self-lt21-clause-is
returns-then-self-lt21-clause-is c =
    let s = c.args.self.now in
    kinds_put s.words.now s.full s.held s.top c.args.kind c.requires.0

-- a word of the lent ones is left for the top word
full : (c : Else-self-lt21) → (c.args.self.now.held ≡ 21) × (c.args.self.now.full < length c.args.self.now.words.now)
full c =
    let s = c.args.self.now in
    let e : s.held ≡ 21 = omega (arith, s.most) in
    (e, omega (arith, length-kinds_in s.words.now s.full s.held s.top))

pub bounds-self-self : goal.bounds-self-self
bounds-self-self c = (full (goal.at.bounds-self-self c).Else-self-lt21).1

pub invariant_of-self-else-self-lt21-clause-fits : goal.invariant_of-self-else-self-lt21-clause-fits
invariant_of-self-else-self-lt21-clause-fits c =
    let s = c.args.self.now in
    let left = full (goal.at.invariant_of-self-else-self-lt21-clause-fits c).Else-self-lt21 in
    omega (arith, left.1, length-set s.words.now s.full s.top)

pub invariant_of-self-else-self-lt21-clause-filled : goal.invariant_of-self-else-self-lt21-clause-filled
invariant_of-self-else-self-lt21-clause-filled c =
    let s = c.args.self.now in
    let left = full (goal.at.invariant_of-self-else-self-lt21-clause-filled c).Else-self-lt21 in
    set-small s.words.now s.full s.held s.top (rw left.0 at s.small) left.1 s.filled

pub returns-else-self-lt21-clause-is : goal.returns-else-self-lt21-clause-is
returns-else-self-lt21-clause-is c =
    let s = c.args.self.now in
    let left = full (goal.at.returns-else-self-lt21-clause-is c).Else-self-lt21 in
    kinds_over s.words.now s.full s.held s.top c.args.kind c.requires.0 left.0 left.1
