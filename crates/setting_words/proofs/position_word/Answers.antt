use Rattle.std.proofs.Common.{rules}
use native.Mathlib.Omega.{arith}
use Rattle.format.specs.Bytes.{ascii}
use Rattle.format.specs.Texts.{same}
use Rattle.values.proofs.WordLaws.{named}
use Rattle.setting_words.proofs.position_word.Goals as goal

pub returns-in-center : goal.returns-in-center
unfolding same
returns-in-center c = rw (named c.args.name.now (ascii "center") (omega arith) (search rules))

pub returns-in-108 : goal.returns-in-108
unfolding same
returns-in-108 c = rw (named c.args.name.now (ascii "line-left") (omega arith) (search rules))

pub returns-in-108-2 : goal.returns-in-108-2
unfolding same
returns-in-108-2 c = rw (named c.args.name.now (ascii "line-right") (omega arith) (search rules))
