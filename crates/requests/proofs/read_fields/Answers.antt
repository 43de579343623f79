use mathlib.Core.Path.{sym, ap, ◌∙◌}
use mathlib.Core.List.{[]}
use Rattle.std.specs.Prelude.{option_map}
use Rattle.std.specs.Option.{option_map_or}
use Rattle.format.specs.Fields.{fields}
use Rattle.format.specs.Requests.{lent_text}
use Rattle.output.specs.Puts.{room_with}
use Rattle.requests.specs.Asked.{asking_for}
use Rattle.requests.proofs.RequestLaws.{bad_is, numbers_bad, numbers_are}
use Rattle.requests.proofs.read_fields.Goals as goal

pub returns-in_err-numbers : goal.returns-in_err-numbers
returns-in_err-numbers c =
    let args = c.args in
    let both = bad_is _ args.room.now (numbers_bad (fields args.line.now) (sym c.numbers_of.ensures ∙ c.in_err-numbers.was)) in
    record { answer = c.from_residual.ensures ∙ both.0; room = both.1 }

pub returns : goal.returns
returns c =
    let args = c.args in
    let is = numbers_are (fields args.line.now) c.in_ok-numbers.numbers (sym c.numbers_of.ensures ∙ c.in_ok-numbers.was) in
    record {
      answer = c.read_rest.ensures.answer ∙ ap (option_map asking_for) (sym is);
      room = c.read_rest.ensures.room ∙ ap (λ o. room_with 0 (option_map_or lent_text o []) args.room.now) (sym is);
    }
