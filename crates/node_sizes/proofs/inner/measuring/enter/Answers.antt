use mathlib.Core.Path.{ap, ◌∙◌}
use mathlib.Core.List.{map}
use native.Mathlib.Omega.{arith}
use borrow.Author.Tests.{lt-ltb}
use Rattle.format.specs.Trees.{kind_word, kind_numbered}
use Rattle.nodes.proofs.KindLaws.{kind_numbered_lem}
use Rattle.node_sizes.proofs.inner.measuring.enter.Goals as goal

pub returns-then-word-lt8-clause-is : goal.returns-then-word-lt8-clause-is
returns-then-word-lt8-clause-is c =
    let word = c.from-word.ensures in
    let parent = lt-ltb (kind_word c.args.kind) 8 (omega (arith, word, c.if-word-lt8.true)) in
    rw parent (ap (map kind_numbered) c.push.ensures.is ∙ rw (word, kind_numbered_lem c.args.kind))
