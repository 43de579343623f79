use Rattle.format.specs.Reading.{file_reading_is}
use Rattle.c_api.proofs.spatz_read_file.Goals as goal

pub returns : goal.returns
unfolding file_reading_is
returns c =
    rw (← c.read_file.ensures.answer)
    (record {
      number = c.tell.ensures.number;
      text = c.read_file.ensures.text;
      cues = c.read_file.ensures.cues;
      regions = c.read_file.ensures.regions;
      styles = c.read_file.ensures.styles;
      values = c.tell.ensures.values;
    })
