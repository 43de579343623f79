use Rattle.std.proofs.Common.{refl}
use Rattle.format.specs.Answers.{refusal_number, returned, if_accepted}
use Rattle.format.specs.Parts.{span_told, part_answer_is}
use Rattle.c_api.specs.Lent.{place_told}
use Rattle.c_api.proofs.RowLaws.{told-refused}
use Rattle.c_api.proofs.tell_place.Goals as goal

pub returns-in-Ok : goal.returns-in-Ok
unfolding place_told part_answer_is refusal_number returned if_accepted span_told
returns-in-Ok c = rw c.in-Ok.is (record { number = c.tell.ensures.number; values = c.tell.ensures.values })

pub returns-in-Err : goal.returns-in-Err
unfolding place_told part_answer_is
returns-in-Err c =
    rw (c.in-Err.is, told-refused c.in-Err.error _)
    (record { number = c.tell-in-Err.ensures.number; values = c.tell-in-Err.ensures.values })
