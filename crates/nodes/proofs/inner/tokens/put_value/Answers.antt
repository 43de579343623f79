use Rattle.std.proofs.Common.{inl, inr, arith, sym, ◌∙◌}
use Rattle.format.specs.Trees.{value_for}
use Rattle.tokenizer.specs.Tags.{token_is}
use Rattle.strings.proofs.StoreLaws.{stores-none}
use Rattle.strings.proofs.TextLaws.{bytes_at-short}
use Rattle.nodes.specs.Tokens.{token_value}
use Rattle.nodes.proofs.inner.tokens.put_value.Goals as goal

pub put_decoded-requires : goal.put_decoded-requires
put_decoded-requires c =
    let p = c.in-String.p in
    (rw c.bytes_of.ensures (omega (arith, bytes_at-short c.args.text.now p.from p.to)), c.requires.1)

pub put_collapsed-requires : goal.put_collapsed-requires
put_collapsed-requires c =
    let p = c.in-Start.annotation in
    (rw c.bytes_of-then-has_value.ensures (omega (arith, bytes_at-short c.args.text.now p.from p.to)), c.requires.1)

pub returns-in-String : goal.returns-in-String
unfolding token_value token_is
returns-in-String c = rw c.in-String.is (rw c.bytes_of.ensures at c.put_decoded.ensures)

pub returns-then-has_value : goal.returns-then-has_value
unfolding token_value token_is value_for
returns-then-has_value c =
    let yes = sym c.has_value.ensures ∙ c.if-has_value.true in
    rw (c.in-Start.is, yes) (rw c.bytes_of-then-has_value.ensures at c.put_collapsed.ensures)

pub returns-else-has_value : goal.returns-else-has_value
unfolding token_value token_is value_for
returns-else-has_value c =
    let no = sym c.has_value.ensures ∙ c.if-has_value.false in
    rw (c.in-Start.is, no) (stores-none c.args.at c.args.room.now)

pub returns-in-End : goal.returns-in-End
unfolding token_value token_is
returns-in-End c =
    let none = stores-none c.args.at c.args.room.now in
    elim c.in-End.is [ inl (p, e) ↦ rw e none | inr (p, e) ↦ rw e none ]
