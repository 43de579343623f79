use Rattle.format.specs.Replacing.{replacing_is}
use Rattle.c_api.proofs.AcceptLaws.{replacing-accepted}
use Rattle.c_api.proofs.spatz_replace.Goals as goal

pub returns : goal.returns
unfolding replacing_is
returns c =
    let told = rw c.lent_row-lent.ensures at c.replace_cue.ensures in
    rw (← told.answer)
    (record {
      number = c.tell.ensures.number;
      scratch = told.scratch;
      out = told.out;
      values = c.tell.ensures.values;
      replaced = λ n e. told.replaced n (replacing-accepted c.replace_cue.result n e);
    })
