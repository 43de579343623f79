use Rattle.std.proofs.Common.{sym, ◌∙◌}
use Rattle.strings.proofs.TurnLaws.{collapsing-starts, separator_passed, word_put, collapsing-ends}
use Rattle.strings.proofs.inner.puts.put_collapsed.Goals as goal
use Rattle.strings.proofs.inner.puts.put_collapsed.Goals.{then-is_separator, else-is_separator}

pub loop-c-init : goal.loop-c-init
loop-c-init c = collapsing-starts _ _ _ _

pub loop-c-preserved : goal.loop-c-preserved
loop-c-preserved c =
    elim c.if-is_separator.branch [
      | then-is_separator w ↦
          rw (w.room-is, w.n-is, w.gap-is)
          (separator_passed _ _ _ _ _ _ _ _ c.loop-c.invariant c.loop-c-test.true (sym c.is_separator.ensures ∙ w.if-is_separator.true))
      | else-is_separator w ↦
          rw (w.room-is, w.n-is, w.gap-is)
          (word_put _ _ _ _ _ _ _ _ c.loop-c.invariant c.loop-c-test.true (sym c.is_separator.ensures ∙ w.if-is_separator.false) w.put_word-n.ensures)
    ]

pub returns : goal.returns
returns c = collapsing-ends _ _ _ _ _ _ _ _ c.loop-c.invariant c.loop-c-test.false
