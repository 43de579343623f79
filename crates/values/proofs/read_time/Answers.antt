use lib.ListN.{length}
use Rattle.format.specs.Times.{timestamp}
use Rattle.format.specs.TellingTimes.{time_told}
use Rattle.values.proofs.AnswerLaws.{stamp_told}
use Rattle.values.proofs.read_time.Goals as goal

pub returns : goal.returns
unfolding time_told
returns c =
    let s = c.args.text.now in
    let both = stamp_told (length s) (timestamp s) c.read_timestamp.result c.read_timestamp.ensures in
    record { is = both.0; answer = both.1 }
