use mathlib.Core.Path.{sym, ◌∙◌}
use Rattle.tokenizer.proofs.Spans.{tag_none, tag_end_lem, tag_time_lem, tag_start}
use Rattle.tokenizer.proofs.tag.Goals as goal

pub returns-then-to-from : goal.returns-then-to-from
returns-then-to-from c =
    let s = c.args.text.now in
    c.start_tag.ensures ∙ tag_none s c.args.from c.args.to c.if-to-from.true

pub returns-then-b-eq47 : goal.returns-then-b-eq47
returns-then-b-eq47 c =
    let s = c.args.text.now in
    let some = c.if-to-from.false in
    tag_end_lem s c.args.from c.args.to some c.if-b-eq47.true

pub returns-then-is_digit : goal.returns-then-is_digit
returns-then-is_digit c =
    let s = c.args.text.now in
    let some = c.if-to-from.false in
    let other = c.if-b-eq47.false in
    let d = sym c.is_digit.ensures ∙ c.if-is_digit.true in
    tag_time_lem s c.args.from c.args.to some other d

pub returns : goal.returns
returns c =
    let s = c.args.text.now in
    let some = c.if-to-from.false in
    let other = c.if-b-eq47.false in
    let d = sym c.is_digit.ensures ∙ c.if-is_digit.false in
    c.start_tag-2.ensures ∙ tag_start s c.args.from c.args.to some other d
