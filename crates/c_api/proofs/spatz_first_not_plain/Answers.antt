use Rattle.c_api.proofs.spatz_first_not_plain.Goals as goal

pub returns : goal.returns
returns c = rw (← c.first_not_plain.ensures) (record { number = c.tell.ensures.number; values = c.tell.ensures.values })
