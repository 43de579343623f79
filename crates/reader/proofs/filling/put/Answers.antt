use mathlib.Core.Path.{sym, ◌∙◌}
use Prim.Native.Nat.{◌<◌}
use lib.ListN.{length}
use Rattle.format.specs.Rows.{region_words}
use Rattle.lookup.proofs.KnownLaws.{right_grown}
use Rattle.reader.proofs.filling.put.Goals as goal
use Rattle.reader.proofs.filling.put.Goals.{In-Region}

region-room : (c : In-Region) → let a = c.args in a.n.regions < length a.regions.now
region-room c = rw (sym c.item_at.ensures ∙ c.in-Region.is) at c.requires.room_for

pub returns-in-Cue-clause-cues : goal.returns-in-Cue-clause-cues
returns-in-Cue-clause-cues c =
    rw (sym c.item_at.ensures ∙ c.in-Cue.is, c.cue_row.ensures, c.entry.ensures.is, c.lines_of-lines.ensures)

pub returns-in-Region-clause-known : goal.returns-in-Region-clause-known
returns-in-Region-clause-known c =
    let a = c.args in
    let grown = right_grown a.text.now a.regions.now a.known.now a.n.regions (region_words c.in-Region.region) (region-room (goal.at.returns-in-Region-clause-known c).In-Region) c.requires.all_right in
    rw (sym c.item_at.ensures ∙ c.in-Region.is, c.region_row.ensures) grown
