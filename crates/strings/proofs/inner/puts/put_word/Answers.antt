use Rattle.strings.specs.Turns.{word}
use Rattle.strings.proofs.StoreLaws.{byte_then}
use Rattle.strings.proofs.inner.puts.put_word.Goals as goal
use Rattle.strings.proofs.inner.puts.put_word.Goals.{then-gap, else-gap}

pub returns : goal.returns
unfolding word
returns c =
    elim c.if-gap.branch [
      | then-gap w ↦
          rw (w.if-gap.true, ← w.separator.ensures)
          (byte_then w.put-n.ensures (rw (w.room-is, w.n-is) at c.put.ensures))
      | else-gap w ↦ rw w.if-gap.false (rw (w.room-is, w.n-is) at c.put.ensures)
    ]
