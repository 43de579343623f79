use mathlib.Core.Path.{◌≡◌, sym, ap, ◌∙◌}
use mathlib.Core.Bool.{true, false}
use lib.ListN.{length}
use borrow.Author.Tests.{le-ltb}
use Rattle.std.proofs.lemmas.Result.{err_from_is_err_and}
use Rattle.format.specs.Limits.{max_text}
use Rattle.format.specs.Plain.{first_not_plain}
use Rattle.format.specs.Blocks.{has_signature}
use Rattle.format.specs.Lists.{items_from, items}
use Rattle.reader.specs.Counting.{tally_is}
use Rattle.blocks.proofs.WalkLaws.{fresh, after-header}
use Rattle.reader.proofs.ReadLaws.{unsigned, over_limit, measured}
use Rattle.reader.proofs.counting.measure.Goals as goal
use Rattle.reader.proofs.counting.measure.Goals.{After-count_items}

pub returns-then-not-has_signature : goal.returns-then-not-has_signature
returns-then-not-has_signature c =
    let s = c.args.s.now in
    unsigned s (le-ltb max_text (length s) c.requires.0) (le-ltb (first_not_plain s) (length s) c.requires.1)
    (sym c.has_signature.ensures ∙ c.if-not-has_signature.true)

pub count_items-requires : goal.count_items-requires
count_items-requires c = rw c.requires.2 ((after-header c.args.s.now).0, c.requires.0)

-- the blocks after the header are all of the text's
told : (c : After-count_items) → tally_is (items c.args.s.now) ≡ c.count_items.result
unfolding items
told c =
    let s = c.args.s.now in
    sym
    (c.count_items.ensures
    ∙ ap (λ p. tally_is (items_from false (fresh s p))) c.requires.2
    ∙ ap (λ bs. tally_is (items_from false bs)) (sym (after-header s).1))

pub returns-in_err-count_items : goal.returns-in_err-count_items
returns-in_err-count_items c =
    let s = c.args.s.now in
    let p = err_from_is_err_and c.from_residual.result c.from_residual.ensures.1 in
    rw (p.1, p.2)
    (over_limit s (le-ltb max_text (length s) c.requires.0) (le-ltb (first_not_plain s) (length s) c.requires.1)
    (sym c.has_signature.ensures ∙ c.if-not-has_signature.false)
    c.in_err-count_items.field-0.0 (told (goal.at.returns-in_err-count_items c).After-count_items ∙ c.in_err-count_items.was))

pub returns : goal.returns
returns c =
    let s = c.args.s.now in
    measured s (le-ltb max_text (length s) c.requires.0) (le-ltb (first_not_plain s) (length s) c.requires.1)
    (sym c.has_signature.ensures ∙ c.if-not-has_signature.false)
    c.in_ok-count_items.field-0 (told (goal.at.returns c).After-count_items ∙ c.in_ok-count_items.was)
