use mathlib.Core.Path.{sym, ap, ◌∙◌}
use Rattle.std.specs.Prelude.{Some}
use native.Mathlib.Omega.{arith}
use lib.ListN.{length}
use Rattle.format.specs.Fields.{fields}
use Rattle.format.specs.Requests.{settings_field}
use Rattle.output.specs.Puts.{room_with}
use Rattle.cue_settings.specs.declared.steps.CueTaken.{CueTaken}
use Rattle.requests.specs.Asked.{field_of, asking_is}
use Rattle.requests.proofs.RequestLaws.{bad_is, texts_bad, settings-over, asked_is_lem, text-is, asked-fits}
use Rattle.requests.proofs.read_rest.Goals as goal

pub returns-in_err-lengths : goal.returns-in_err-lengths
returns-in_err-lengths c =
    let args = c.args in
    let both = bad_is _ args.room.now (texts_bad (fields args.line.now) args.numbers (sym c.lengths_of.ensures ∙ c.in_err-lengths.was)) in
    record { answer = c.from_residual.ensures ∙ both.0; room = both.1 }

pub returns-then-taken : goal.returns-then-taken
returns-then-taken c =
    let args = c.args in
    let over = ap (λ (t : CueTaken). t.over) (sym c.settings_of-taken.ensures) ∙ c.if-taken.true in
    let both = bad_is _ args.room.now (settings-over (fields args.line.now) args.numbers over) in
    record { answer = both.0; room = both.1 }

pub asking_of-requires : goal.asking_of-requires
asking_of-requires c =
    let read = sym c.lengths_of.ensures ∙ c.in_ok-lengths.was in
    let line = c.args.line.now in
    omega (arith, asked-fits line c.in_ok-lengths.lengths read, ap length c.name_of-name.ensures)

pub returns : goal.returns
returns c =
    let l = c.in_ok-lengths.lengths in
    let read = sym c.lengths_of.ensures ∙ c.in_ok-lengths.was in
    let args = c.args in
    let line = args.line.now in
    let under = ap (λ (t : CueTaken). t.over) (sym c.settings_of-taken.ensures) ∙ c.if-taken.false in
    record {
      answer = ap Some
          (c.asking_of.ensures
          ∙ ap (λ (t : CueTaken). asking_is args.numbers t.settings l (length c.name_of-name.result.now)) c.settings_of-taken.ensures
          ∙ ap (λ x. asking_is args.numbers (settings_field (field_of line 5)).value.settings l (length x)) c.name_of-name.ensures)
          ∙ asked_is_lem (fields line) args.numbers l read under;
      room = c.put_parts.ensures ∙ ap (λ x. room_with 0 x args.room.now) (text-is (fields line) args.numbers l read under);
    }
