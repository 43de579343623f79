use mathlib.Core.Path.{ap}
use Rattle.format.specs.Written.{written_time}
use Rattle.output.proofs.PutLaws.{◌then◌, puts_as}
use Rattle.forms.specs.Forms.{timing_form}
use Rattle.forms.proofs.timing_line.Goals as goal

pub returns : goal.returns
unfolding timing_form
returns c =
    puts_as (ap written_time c.start.ensures) c.time.ensures
    then c.bytes.ensures
    then puts_as (ap written_time c.end.ensures) c.time-2.ensures
    then c.settings.ensures
