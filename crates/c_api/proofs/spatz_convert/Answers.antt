use Rattle.format.specs.Converting.{converted_is}
use Rattle.c_api.proofs.spatz_convert.Goals as goal

pub returns : goal.returns
unfolding converted_is
returns c =
    rw (← c.convert.ensures.answer)
    (record {
      number = c.tell.ensures.number;
      room = c.convert.ensures.room;
      values = c.tell.ensures.values;
    })
