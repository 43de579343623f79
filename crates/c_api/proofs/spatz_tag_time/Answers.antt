use Rattle.c_api.proofs.spatz_tag_time.Goals as goal

pub returns : goal.returns
returns c =
    let told = c.read_only_time.ensures.answer in
    rw (← told)
    (record {
      number = c.tell.ensures.number;
      values = c.tell.ensures.values;
    })
