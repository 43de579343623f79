use Prim.Native.Nat.{◌≤◌}
use lib.ListN.{length}
use Rattle.std.proofs.Common.{rules}
use Rattle.rows.proofs.RowLaws.{same_entry, same_codes, no_lines}
use Rattle.rows.proofs.inner.cue_of_new.Goals as goal

pub returns : goal.returns
returns c =
    let row = c.args.row in
    let long : 16 ≤ length row = search rules in
    rw c.copy_from_slice.ensures.after (same_entry row long, same_codes row long, no_lines row long)
