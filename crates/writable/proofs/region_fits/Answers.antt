use Rattle.format.specs.Writable.{cue_test6}
use Rattle.writable.proofs.region_fits.Goals as goal

pub returns-in-None : goal.returns-in-None
unfolding cue_test6
returns-in-None c =
    record {
      answer = rw c.in-None.is;
      known = c.requires.all_last;
    }

pub returns-in-Some : goal.returns-in-Some
unfolding cue_test6
returns-in-Some c =
    record {
      answer = rw c.in-Some.is (c.is_known_last.ensures.answer);
      known = c.is_known_last.ensures.known;
    }
