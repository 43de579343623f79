use Prim.Native.Nat.{◌+◌}
use mathlib.Core.Path.{◌≡◌, ap, sym, ◌∙◌}
use lib.ListN.{length}
use borrow.Author.Tests.{lt-ltb, le-ltb}
use Rattle.tokenizer.specs.Tags.{after_tag, stepped}
use Rattle.tokenizer.proofs.Spans.{tag_bounds, step_none, step_string, step_tag}
use Rattle.tokenizer.proofs.step.Goals as goal

-- `tokenizer::step` meets its contract.
pub returns-then-text-at : goal.returns-then-text-at
returns-then-text-at c = step_none c.args.text.now c.args.at c.if-text-at.true

pub returns-then-text-at-ne60 : goal.returns-then-text-at-ne60
returns-then-text-at-ne60 c =
    step_string c.args.text.now c.args.at c.if-text-at.false c.if-text-at-ne60.true c.past-to.result c.past-to.ensures

pub tag-token-requires : goal.tag-token-requires
tag-token-requires c =
    tag_bounds c.args.text.now c.args.at c.if-text-at.false c.past-to-2.result 0 c.if-text-at-ne60.false c.past-to-2.ensures

pub returns-then-to-text : goal.returns-then-to-text
returns-then-to-text c =
    let s = c.args.text.now in
    let to = c.past-to-2.result in
    let next : after_tag s to ≡ to + 1 = rw (lt-ltb to (length s) c.if-to-text.true) in
    ap (stepped c.tag-token.result) (sym next)
    ∙ step_tag s c.args.at c.if-text-at.false c.if-text-at-ne60.false to c.past-to-2.ensures c.tag-token.result c.tag-token.ensures

pub returns-else-to-text : goal.returns-else-to-text
returns-else-to-text c =
    let s = c.args.text.now in
    let to = c.past-to-2.result in
    let next : after_tag s to ≡ to = rw (le-ltb to (length s) c.if-to-text.false) in
    ap (stepped c.tag-token.result) (sym next)
    ∙ step_tag s c.args.at c.if-text-at.false c.if-text-at-ne60.false to c.past-to-2.ensures c.tag-token.result c.tag-token.ensures
