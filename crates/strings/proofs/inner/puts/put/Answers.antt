-- `strings::inner::puts::put` meets its contract.
use mathlib.Core.Path.{sym, ◌∙◌}
use lib.Seq.{set_out}
use Rattle.strings.proofs.StoreLaws.{stores_byte}
use Rattle.strings.proofs.inner.puts.put.Goals as goal
use Rattle.strings.proofs.inner.puts.put.Goals.{else-at-room, then-at-room}

pub returns : goal.returns
returns c =
    let args = c.args in
    stores_byte (elim c.if-at-room.branch [ then-at-room w ↦ w.room-is | else-at-room w ↦ w.room-is ∙ sym (set_out args.room.now args.at args.b w.if-at-room.false) ])
