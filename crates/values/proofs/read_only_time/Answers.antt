use mathlib.Core.Path.{ap, ◌∙◌}
use lib.ListN.{length}
use Rattle.format.specs.Times.{only_time}
use Rattle.format.specs.TellingTimes.{tag_time_told}
use Rattle.values.specs.Times.{ended_is}
use Rattle.values.proofs.AnswerLaws.{stamp_told}
use Rattle.values.proofs.StepLaws.{ended_is_lem}
use Rattle.values.proofs.read_only_time.Goals as goal

pub returns : goal.returns
unfolding tag_time_told
returns c =
    let s = c.args.text.now in
    let both = stamp_told (length s) (only_time s) c.ended.result (c.ended.ensures ∙ ap (ended_is (length s)) c.read_timestamp.ensures ∙ ended_is_lem s) in
    record { is = both.0; answer = both.1 }
