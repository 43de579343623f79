use Rattle.std.proofs.Common.{inl, inr}
use Rattle.tokenizer.specs.Tags.{token_is}
use Rattle.nodes.specs.Tokens.{left_kind}
use Rattle.nodes.proofs.inner.tokens.left_kind.Goals as goal

pub returns-in-End : goal.returns-in-End
unfolding left_kind token_is
returns-in-End c = rw (c.in-End.is, c.kind_named.ensures, c.bytes_of.ensures)

pub returns-in-String : goal.returns-in-String
unfolding left_kind token_is
returns-in-String c = elim c.in-String.is [ inl (p, e) ↦ rw e | inr (inl (n, q, r, e)) ↦ rw e | inr (inr (p, e)) ↦ rw e ]
