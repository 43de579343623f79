use Rattle.format.specs.Rewriting.{rewriting_is}
use Rattle.c_api.proofs.spatz_rewrite.Goals as goal

pub returns : goal.returns
unfolding rewriting_is
returns c =
    rw (← c.rewrite.ensures.answer)
    (record {
      number = c.tell.ensures.number;
      text = c.rewrite.ensures.text;
      cues = c.rewrite.ensures.cues;
      regions = c.rewrite.ensures.regions;
      styles = c.rewrite.ensures.styles;
      out = c.rewrite.ensures.out;
      values = c.tell.ensures.values;
    })
