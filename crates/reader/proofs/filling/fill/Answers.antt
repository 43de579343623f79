use Prim.Native.Nat.{suc, ◌+◌, ◌-◌, ◌<◌}
use mathlib.Core.Path.{◌≡◌, refl, sym, ◌∙◌}
use mathlib.Core.List.{[]}
use native.Mathlib.Omega.{arith}
use lib.Dec.{ltb}
use lib.ListN.{length, take}
use Rattle.format.specs.declared.rows.LineSpan.{LineSpan}
use Rattle.format.specs.Lists.{Item}
use Rattle.blocks.specs.Collecting.{line_ends}
use Rattle.blocks.specs.Items.{meaning_at, NextAt, item_is}
use Rattle.blocks.proofs.LineLaws.{ends_few}
use Rattle.blocks.proofs.WalkLaws.{fresh, next-none, next-found, lines-found, line_left, few_lines, moves, places_in}
use Rattle.lookup.proofs.KnownLaws.{right_none}
use Rattle.reader.specs.Counting.{with_item}
use Rattle.reader.specs.Filling.{cues_with, regions_with, styles_with}
use Rattle.reader.proofs.FillLaws.{Fits, fits_of, Filled, fill_start, fill_room, fill_next, fill_end}
use Rattle.reader.proofs.filling.fill.Goals as goal
use Rattle.reader.proofs.filling.fill.Goals.{After-put-kind, In-Some, Start}

-- the number of the first line there
pub overflow_add-line : goal.overflow_add-line
overflow_add-line c = let a = c.args in omega (arith, c.line_ends-line.ensures, ends_few a.text.now a.from)

fits : (c : Start) → let a = c.args in Fits a.text.now a.cues.now a.regions.now a.styles.now
fits c =
    let a = c.args in
    let pre = c.requires.text_in_bounds in
    fits_of a.text.now a.cues.now a.regions.now a.styles.now pre.0 pre.1 pre.2

pub loop-block-init : goal.loop-block-init
loop-block-init c =
    let a = c.args in
    let pre = c.requires.from_in_bounds in
    record {
      filled = fill_start a.text.now a.cues.now a.regions.now a.styles.now a.from pre.0 pre.2 pre.3;
      known_len = refl;
      right = right_none a.text.now [] 256;
      numbered = λ l. omega (arith, c.line_ends-line.ensures);
    }

pub returns : goal.returns
returns c =
    let a = c.args in
    let s = a.text.now in
    let none : fresh s c.loop-block.at ≡ [] = next-none s c.loop-block.at c.next_block.result c.next_block.ensures c.in_default.is in
    let full = fill_end s a.cues.now a.regions.now a.styles.now (fits (goal.at.returns c).Start) c.loop-block.at c.loop-block.n c.loop-block.cues c.loop-block.regions c.loop-block.styles c.loop-block.invariant.filled none in
    record {
      cues = full.0;
      regions = full.1;
      styles = full.2;
    }

-- the block that was found, and the number of its first line
found : (c : In-Some) → NextAt c.args.text.now c.loop-block.at c.in-Some.block
found c = next-found c.args.text.now c.loop-block.at c.next_block.result c.next_block.ensures c.in-Some.block c.in-Some.is

inside : (c : In-Some) → c.loop-block.at < length c.args.text.now
inside c =
    let next = found c in
    omega (arith, moves c.args.text.now c.loop-block.at c.in-Some.block next, next.block.inside)

pub overflow_sub-first : goal.overflow_sub-first
overflow_sub-first c = (found (goal.at.overflow_sub-first c).In-Some).skipped

pub overflow_add-first : goal.overflow_add-first
overflow_add-first c =
    let next = found (goal.at.overflow_add-first c).In-Some in
    omega (
      arith,
      ends_few c.args.text.now c.in-Some.block.from,
      c.loop-block.invariant.numbered (inside (goal.at.overflow_add-first c).In-Some),
      next.skipped,
      next.empties,
      c.requires.from_in_bounds.1,
    )

pub put-kind-requires : goal.put-kind-requires
put-kind-requires c =
    let a = c.args in
    let next = found (goal.at.put-kind-requires c).In-Some in
    record {
      known_len = c.loop-block.invariant.known_len;
      all_right = c.loop-block.invariant.right;
      places_in = places_in a.text.now c.loop-block.at c.in-Some.block next;
      room_for = fill_room a.text.now a.cues.now a.regions.now a.styles.now c.loop-block.at c.in-Some.block next c.loop-block.n c.loop-block.cues c.loop-block.regions c.loop-block.styles c.loop-block.invariant.filled (fits (goal.at.put-kind-requires c).Start);
    }

pub overflow_add-line-in-Some : goal.overflow_add-line-in-Some
overflow_add-line-in-Some c =
    let at = (goal.at.overflow_add-line-in-Some c).In-Some in
    let next = found at in
    omega (
      arith,
      few_lines c.args.text.now c.in-Some.block next.block,
      ends_few c.args.text.now c.in-Some.block.from,
      c.loop-block.invariant.numbered (inside at),
      next.skipped,
      next.empties,
      c.requires.from_in_bounds.1,
    )

pub loop-block-smaller : goal.loop-block-smaller
loop-block-smaller c =
    let next = found (goal.at.loop-block-smaller c).In-Some in
    omega (arith, moves c.args.text.now c.loop-block.at c.in-Some.block next, next.block.inside)

pub loop-block-preserved : goal.loop-block-preserved
loop-block-preserved c =
    let a = c.args in
    let at = (goal.at.loop-block-preserved c).In-Some in
    let next = found at in
    let number = c.loop-block.invariant.numbered (inside at) in
    rw (c.with_kind-n.ensures, c.put-kind.ensures.kind, c.put-kind.ensures.cues, c.put-kind.ensures.regions, c.put-kind.ensures.styles)
    (record {
      filled =
          fill_next a.text.now a.cues.now a.regions.now a.styles.now c.loop-block.at c.in-Some.block next c.loop-block.n c.loop-block.cues c.loop-block.regions c.loop-block.styles c.loop-block.invariant.filled (fits (goal.at.loop-block-preserved c).Start) _
          (lines-found a.text.now c.loop-block.at c.in-Some.block c.loop-block.line next number);
      known_len = c.put-kind.auto.known ∙ c.loop-block.invariant.known_len;
      right = rw c.put-kind.ensures.regions at c.put-kind.ensures.known;
      numbered = line_left a.text.now c.loop-block.at c.in-Some.block c.loop-block.line next number;
    })
