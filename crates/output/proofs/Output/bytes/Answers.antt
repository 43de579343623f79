use native.Mathlib.Omega.{arith}
use mathlib.Core.Path.{◌≡◌, refl, sym, ◌∙◌}
use lib.Seq.{sets}
use Rattle.output.specs.Puts.{room_with}
use Rattle.output.proofs.PutLaws.{sets_outside, room_outside, room_within}
use Rattle.output.proofs.Output.bytes.Goals as goal
use Rattle.output.proofs.Output.bytes.Goals.{else-end-gt-MAX_FILE-via-then-end-gt-MAX_FILE+else-self, else-end-gt-MAX_FILE-via-else-end-gt-MAX_FILE}

pub returns-else-end-gt-MAX_FILE : goal.returns-else-end-gt-MAX_FILE
returns-else-end-gt-MAX_FILE c =
    let out = c.args.self.now in
    let s = c.args.s.now in
    let end = c.after-end.ensures.0 s refl in
    let stored : sets out.room.now out.at s ≡ room_with out.at s out.room.now = elim c.else-end-gt-MAX_FILE.branch [
      | else-end-gt-MAX_FILE-via-then-end-gt-MAX_FILE+else-self w ↦
          sets_outside out.room.now out.at s w.if-self.false ∙ sym (room_outside out.at s out.room.now w.if-self.false)
      | else-end-gt-MAX_FILE-via-else-end-gt-MAX_FILE w ↦
          let sum = c.after-end.ensures.1 w.if-end-gt-MAX_FILE.false in
          sym (room_within out.at s out.room.now (omega arith))
    ] in
    record { place = end; holds = c.store_text.ensures ∙ stored; lent = refl }
