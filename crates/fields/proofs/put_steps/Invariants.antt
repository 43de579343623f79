use Prim.Native.Nat.{◌-◌}
use lib.ListN.{length, drop}
use Rattle.format.specs.Fields.{unescaped}
use Rattle.output.specs.declared.Output.{Output}
use Rattle.output.specs.Puts.{Puts}
use Rattle.fields.specs.Fields.{text_of, IsGood}
use Rattle.fields.proofs.put_steps.Given as goal

-- where what is left is put after what was put, the whole text is
abbrev pub invariant-loop-byte : goal.invariant-loop-byte
invariant-loop-byte l =
    IsGood (unescaped (drop l.at l.field))
    × ((end : Output)
    → Puts (text_of (unescaped (drop l.at l.field))) l.out end
    → Puts (text_of (unescaped l.field)) l.initial.out end)

abbrev pub decreases-loop-byte : goal.decreases-loop-byte
decreases-loop-byte l = length l.field - l.at
