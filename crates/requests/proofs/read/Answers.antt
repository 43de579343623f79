use mathlib.Core.Path.{sym, ap, ◌∙◌}
use mathlib.Core.List.{[]}
use Rattle.std.specs.Prelude.{option_map}
use Rattle.std.specs.Option.{option_map_or}
use borrow.Author.Tests.{not-true, not-false}
use Rattle.format.specs.Bytes.{ascii}
use Rattle.format.specs.Texts.{same}
use Rattle.format.specs.Requests.{lent_text}
use Rattle.output.specs.Puts.{room_with}
use Rattle.requests.specs.Asked.{asking_for}
use Rattle.requests.proofs.RequestLaws.{bad_is, count_bad, word_bad, fields_are}
use Rattle.requests.proofs.read.Goals as goal

pub returns-then-count-ne7 : goal.returns-then-count-ne7
returns-then-count-ne7 c =
    let args = c.args in
    let both = bad_is _ args.room.now (count_bad args.line.now (λ e. c.if-count-ne7.true (c.count.ensures ∙ e))) in
    record { answer = both.0; room = both.1 }

pub returns-then-not-same_bytes : goal.returns-then-not-same_bytes
returns-then-not-same_bytes c =
    let args = c.args in
    let other = sym c.same_bytes.ensures ∙ not-true c.same_bytes.result c.if-not-same_bytes.true-raw in
    let word = ap (λ f. same f (ascii "mend")) (sym c.nth.ensures) ∙ other in
    let both = bad_is _ args.room.now (word_bad args.line.now word) in
    record { answer = both.0; room = both.1 }

pub returns : goal.returns
returns c =
    let args = c.args in
    let there = sym c.same_bytes.ensures ∙ not-false c.same_bytes.result c.if-not-same_bytes.false-raw in
    let word = ap (λ f. same f (ascii "mend")) (sym c.nth.ensures) ∙ there in
    let is = fields_are args.line.now (sym c.count.ensures ∙ c.if-count-ne7.false) word in
    record {
      answer = c.read_fields.ensures.answer ∙ ap (option_map asking_for) (sym is);
      room = c.read_fields.ensures.room ∙ ap (λ o. room_with 0 (option_map_or lent_text o []) args.room.now) (sym is);
    }
