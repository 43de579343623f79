use mathlib.Core.Path.{sym, ap, ◌∙◌}
use lib.Seq.{set_out}
use Rattle.output.specs.declared.Output.{Output}
use Rattle.output.proofs.PutLaws.{puts_within, puts_above}
use Rattle.output.proofs.Output.byte.Goals as goal
use Rattle.output.proofs.Output.byte.Goals.{then-self, else-self}

pub returns-then-self-le-MAX_FILE : goal.returns-then-self-le-MAX_FILE
returns-then-self-le-MAX_FILE c =
    let now = λ (o : Output). o.room.now in
    let name = λ (o : Output). o.room.ghost_name in
    let at = λ (o : Output). o.at in
    elim c.if-self.branch [
      | then-self w ↦ puts_within (ap now w.self-is) (ap name w.self-is) (ap at w.self-is) c.if-self-le-MAX_FILE.true
      | else-self w ↦ puts_within (ap now w.self-is ∙ sym (set_out _ _ c.args.b w.if-self.false)) (ap name w.self-is) (ap at w.self-is) c.if-self-le-MAX_FILE.true
    ]

pub returns-else-self-le-MAX_FILE : goal.returns-else-self-le-MAX_FILE
returns-else-self-le-MAX_FILE c =
    let now = λ (o : Output). o.room.now in
    let name = λ (o : Output). o.room.ghost_name in
    let at = λ (o : Output). o.at in
    elim c.if-self.branch [
      | then-self w ↦ puts_above (ap now w.self-is) (ap name w.self-is) (ap at w.self-is) c.if-self-le-MAX_FILE.false
      | else-self w ↦ puts_above (ap now w.self-is ∙ sym (set_out _ _ c.args.b w.if-self.false)) (ap name w.self-is) (ap at w.self-is) c.if-self-le-MAX_FILE.false
    ]
