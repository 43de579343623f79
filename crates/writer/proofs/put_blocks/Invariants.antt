use Prim.Native.Nat.{ℕ}
use mathlib.Core.List.{List, map}
use lib.ListN.{take}
use Rattle.output.specs.Puts.{Puts, EachPuts}
use Rattle.writer.specs.Blocks.{blocks}
use Rattle.writer.proofs.put_blocks.Given as goal

-- the blocks of the rows so far are put
abbrev pub invariant-loop-row : goal.invariant-loop-row
invariant-loop-row g l =
    (form : _ → List ℕ) → ((row : _) → EachPuts (goal.F-post g l.put row) (form row)) → Puts (blocks (map form (take l.row-index l.rows))) l.initial.out l.out
