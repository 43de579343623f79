use Rattle.std.proofs.Common.{rules}
use native.Mathlib.Omega.{arith}
use Rattle.format.specs.Bytes.{ascii}
use Rattle.format.specs.CueSettings.{named}
use Rattle.format.specs.Texts.{same}
use Rattle.values.proofs.WordLaws.{named as named_so}
use Rattle.cue_settings.proofs.steps.named_change.Goals as goal

pub returns-in-region : goal.returns-in-region
unfolding named same
returns-in-region c = rw (named_so c.args.name.now (ascii "region") (omega arith) (search rules))

pub returns-in-vertical : goal.returns-in-vertical
unfolding named same
returns-in-vertical c = rw (named_so c.args.name.now (ascii "vertical") (omega arith) (search rules), c.direction_of.ensures)

pub returns-in-position : goal.returns-in-position
unfolding named same
returns-in-position c = rw (named_so c.args.name.now (ascii "position") (omega arith) (search rules)) c.position_change.ensures
