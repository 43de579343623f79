use Rattle.std.proofs.Common.{rules}
use native.Mathlib.Omega.{arith}
use Rattle.format.specs.Bytes.{ascii}
use Rattle.format.specs.Texts.{same}
use Rattle.values.proofs.WordLaws.{named}
use Rattle.setting_words.proofs.cue_name.Goals as goal

pub returns-in-region : goal.returns-in-region
unfolding same
returns-in-region c = rw (named c.args.name.now (ascii "region") (omega arith) (search rules))

pub returns-in-vertical : goal.returns-in-vertical
unfolding same
returns-in-vertical c = rw (named c.args.name.now (ascii "vertical") (omega arith) (search rules))

pub returns-in-position : goal.returns-in-position
unfolding same
returns-in-position c = rw (named c.args.name.now (ascii "position") (omega arith) (search rules))

pub returns-in-size : goal.returns-in-size
unfolding same
returns-in-size c = rw (named c.args.name.now (ascii "size") (omega arith) (search rules))

pub returns-in-align : goal.returns-in-align
unfolding same
returns-in-align c = rw (named c.args.name.now (ascii "align") (omega arith) (search rules))
