use Rattle.format.specs.CueSettings.{position_align}
use Rattle.setting_words.specs.Words.{position_word}
use mathlib.Core.Path.{ap, ◌∙◌}
use Rattle.setting_words.proofs.position_align.Goals as goal

pub returns-in-Some : goal.returns-in-Some
unfolding position_align
returns-in-Some c = c.position_word.ensures ∙ ap position_word c.in-Some.ensures.1 ∙ rw c.in-Some.ensures.0

pub returns-in-None : goal.returns-in-None
unfolding position_align
returns-in-None c = rw c.in-None.ensures
