use Rattle.format.specs.Reading.{reading_is}
use Rattle.c_api.proofs.spatz_read.Goals as goal

pub returns : goal.returns
unfolding reading_is
returns c =
    rw (← c.read.ensures.answer)
    (record {
      number = c.tell.ensures.number;
      cues = c.read.ensures.cues;
      regions = c.read.ensures.regions;
      styles = c.read.ensures.styles;
      values = c.tell.ensures.values;
    })
