use Rattle.format.specs.Bytes.{white}
use Rattle.format.specs.Lists.{is_word}
use Rattle.blocks.proofs.LineLaws.{starts_prefix}
use Rattle.blocks.proofs.ItemLaws.{run_to_end}
use Rattle.blocks.proofs.inner.is_word.Goals as goal

pub returns : goal.returns
unfolding is_word
returns c =
    let rest = c.in-Some.ensures.cases in
    rw (c.past.ensures, starts_prefix c.args.word.now c.args.line.now, rest.0, ← rest.1) (run_to_end white c.in-Some.rest.now)
