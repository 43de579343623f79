use Rattle.format.specs.CueSettings.{line_align}
use Rattle.setting_words.specs.Words.{line_word}
use mathlib.Core.Path.{ap, ◌∙◌}
use Rattle.setting_words.proofs.line_align.Goals as goal

pub returns-in-Some : goal.returns-in-Some
unfolding line_align
returns-in-Some c = c.line_word.ensures ∙ ap line_word c.in-Some.ensures.1 ∙ rw c.in-Some.ensures.0

pub returns-in-None : goal.returns-in-None
unfolding line_align
returns-in-None c = rw c.in-None.ensures
