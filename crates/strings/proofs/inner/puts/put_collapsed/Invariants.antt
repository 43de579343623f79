use Rattle.strings.proofs.TurnLaws.{Collapsing}
use Rattle.strings.proofs.inner.puts.put_collapsed.Given as goal

-- `strings::inner::puts::put_collapsed` meets its contract.
abbrev pub invariant-loop-c : goal.invariant-loop-c
invariant-loop-c l = Collapsing l.s l.stops l.at l.initial.room l.room l.c-index l.n l.gap
