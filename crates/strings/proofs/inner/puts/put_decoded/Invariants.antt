use Prim.Native.Nat.{◌-◌}
use lib.ListN.{length}
use Rattle.strings.proofs.TurnLaws.{Decoding}
use Rattle.strings.proofs.inner.puts.put_decoded.Given as goal

-- `strings::inner::puts::put_decoded` meets its contract.
abbrev pub invariant-loop-i : goal.invariant-loop-i
invariant-loop-i l = Decoding l.s l.at l.initial.room l.room l.i l.n

abbrev pub decreases-loop-i : goal.decreases-loop-i
decreases-loop-i l = length l.s - l.i
