use Rattle.std.proofs.Common.{◌+◌}
use Rattle.laws.proofs.Runs.{drop-take}
use Rattle.tokenizer.specs.Tags.{start_told}
use Rattle.tokenizer.proofs.start_tag.Goals as goal

pub returns : goal.returns
unfolding start_told
returns c =
    rw (drop-take c.args.from c.args.to c.args.text.now, ← c.name_length.ensures.is)
    (rw (drop-take (c.args.from + c.name_length.result) c.args.to c.args.text.now, ← c.name_length-2.ensures.is))
