use Rattle.format.specs.Writing.{writing_is}
use Rattle.c_api.proofs.AcceptLaws.{writing-accepted}
use Rattle.c_api.proofs.spatz_write.Goals as goal

pub returns : goal.returns
unfolding writing_is
returns c =
    rw (← c.write.ensures.answer)
    (record {
      number = c.tell.ensures.number;
      out = c.write.ensures.out;
      values = c.tell.ensures.values;
      back = λ n e. c.write.ensures.back n (writing-accepted c.write.result n e);
    })
