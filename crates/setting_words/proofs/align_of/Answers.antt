use Rattle.std.proofs.Common.{rules}
use native.Mathlib.Omega.{arith}
use Rattle.format.specs.Bytes.{ascii}
use Rattle.format.specs.CueSettings.{alignment}
use Rattle.format.specs.Texts.{same}
use Rattle.values.proofs.WordLaws.{named}
use Rattle.setting_words.proofs.align_of.Goals as goal

pub returns-in-center : goal.returns-in-center
unfolding alignment same
returns-in-center c = rw (named c.args.value.now (ascii "center") (omega arith) (search rules))
