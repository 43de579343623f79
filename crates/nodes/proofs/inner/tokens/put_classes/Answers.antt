use Rattle.std.proofs.Common.{inl, inr, arith}
use Rattle.tokenizer.specs.Tags.{token_is}
use Rattle.strings.proofs.StoreLaws.{stores-none, stores_as}
use Rattle.strings.proofs.TextLaws.{bytes_at-short}
use Rattle.nodes.specs.Tokens.{token_classes}
use Rattle.nodes.proofs.PartLaws.{class_part}
use Rattle.nodes.proofs.inner.tokens.put_classes.Goals as goal

pub put_collapsed-requires : goal.put_collapsed-requires
put_collapsed-requires c =
    let p = c.in-Start.classes in
    (rw c.bytes_of.ensures (omega (arith, bytes_at-short c.args.text.now p.from p.to)), c.requires.2)

pub returns-in-Start : goal.returns-in-Start
unfolding token_classes token_is
returns-in-Start c =
    let is = class_part c.args.text.now c.args.token c.requires.0 c.in-Start.name c.in-Start.classes c.in-Start.annotation c.in-Start.is in
    rw c.in-Start.is (stores_as is (rw c.bytes_of.ensures at c.put_collapsed.ensures))

pub returns-in-String : goal.returns-in-String
unfolding token_classes token_is
returns-in-String c =
    let none = stores-none c.args.at c.args.room.now in
    elim c.in-String.is [ inl (p, e) ↦ rw e none | inr (inl (p, e)) ↦ rw e none | inr (inr (p, e)) ↦ rw e none ]
