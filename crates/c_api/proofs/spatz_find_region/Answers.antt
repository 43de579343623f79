use Rattle.format.specs.LookingUp.{looking_up}
use Rattle.c_api.proofs.spatz_find_region.Goals as goal

pub returns : goal.returns
unfolding looking_up
returns c =
    let found = c.find_region.ensures.found in
    rw (← found)
    (record {
      number = c.tell.ensures.number;
      values = c.tell.ensures.values;
    })
