use mathlib.Core.Path.{refl, ◌∙◌}
use lib.ListN.{length}
use borrow.Author.Tests.{eq-eqb, ne_eqb}
use Rattle.c_api.specs.Lent.{lent_words}
use Rattle.c_api.proofs.lent_row.Goals as goal

pub returns-then-row-ne-NEW_CUE_WORDS : goal.returns-then-row-ne-NEW_CUE_WORDS
unfolding lent_words
returns-then-row-ne-NEW_CUE_WORDS c = rw (ne_eqb (length c.args.row.now) 20 c.if-row-ne-NEW_CUE_WORDS.true) refl

pub returns : goal.returns
unfolding lent_words
returns c = rw (eq-eqb (length c.args.row.now) 20 c.if-row-ne-NEW_CUE_WORDS.false) c.copy_from_slice.ensures.after
