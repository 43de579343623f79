use native.Mathlib.Omega.{arith}
use Prim.Native.Nat.{◌≤◌, ◌<◌}
use mathlib.Core.Path.{sym, ◌∙◌}
use lib.ListN.{length}
use Rattle.format.specs.Texts.{bytes_at}
use Rattle.strings.proofs.TextLaws.{piece-within, part_length}
use Rattle.strings.proofs.TurnLaws.{decoding_starts, escape_put, plain_put, decoding_ends}
use Rattle.strings.proofs.inner.puts.put_decoded.Goals as goal
use Rattle.strings.proofs.inner.puts.put_decoded.Goals.{After-is_escape}

pub loop-i-init : goal.loop-i-init
loop-i-init c = let args = c.args in decoding_starts args.s.now args.at args.room.now

-- the piece lies within the text
within :
    (c : After-is_escape) → (c.loop-i.i < c.piece_end-end.result) × (c.piece_end-end.result ≤ length c.args.s.now)
within c =
    piece-within c.args.s.now c.loop-i.i c.piece_end-end.result
    c.loop-i-test.true c.piece_end-end.ensures

pub slice_bounds-put_escaped-count : goal.slice_bounds-put_escaped-count
slice_bounds-put_escaped-count c = let found = within (goal.at.slice_bounds-put_escaped-count c).After-is_escape in omega arith

pub slice_bounds-put_escaped-start : goal.slice_bounds-put_escaped-start
slice_bounds-put_escaped-start c = let found = within (goal.at.slice_bounds-put_escaped-start c).After-is_escape in omega arith

pub slice_bounds-put_escaped-end : goal.slice_bounds-put_escaped-end
slice_bounds-put_escaped-end c = let found = within (goal.at.slice_bounds-put_escaped-end c).After-is_escape in omega arith

pub put_escaped-n-requires : goal.put_escaped-n-requires
unfolding bytes_at
put_escaped-n-requires c =
    let s = c.args.s.now in
    let found = within (goal.at.put_escaped-n-requires c).After-is_escape in
    let size = part_length s c.loop-i.i c.piece_end-end.result (omega arith) found.1 in
    (omega arith, omega arith)

pub overflow_add-i : goal.overflow_add-i
overflow_add-i c = let found = within (goal.at.overflow_add-i c).After-is_escape in omega arith

pub loop-i-smaller-then-is_escape : goal.loop-i-smaller-then-is_escape
loop-i-smaller-then-is_escape c = let found = within (goal.at.loop-i-smaller-then-is_escape c).After-is_escape in omega arith

pub loop-i-preserved-then-is_escape : goal.loop-i-preserved-then-is_escape
unfolding bytes_at
loop-i-preserved-then-is_escape c =
    let args = c.args in
    escape_put args.s.now args.at args.room.now c.loop-i.room c.loop-i.i c.loop-i.n c.loop-i.invariant
    c.loop-i-test.true
    c.piece_end-end.ensures
    (sym c.is_escape.ensures ∙ c.if-is_escape.true)
    c.put_escaped-n.ensures

pub slice_bounds-put_part-count : goal.slice_bounds-put_part-count
slice_bounds-put_part-count c = let found = within (goal.at.slice_bounds-put_part-count c).After-is_escape in omega arith

pub slice_bounds-put_part-start : goal.slice_bounds-put_part-start
slice_bounds-put_part-start c = let found = within (goal.at.slice_bounds-put_part-start c).After-is_escape in omega arith

pub slice_bounds-put_part-end : goal.slice_bounds-put_part-end
slice_bounds-put_part-end c = let found = within (goal.at.slice_bounds-put_part-end c).After-is_escape in omega arith

pub put_part-n-requires : goal.put_part-n-requires
unfolding bytes_at
put_part-n-requires c =
    let s = c.args.s.now in
    let found = within (goal.at.put_part-n-requires c).After-is_escape in
    let size = part_length s c.loop-i.i c.piece_end-end.result (omega arith) found.1 in
    (omega arith, omega arith)

pub loop-i-smaller : goal.loop-i-smaller
loop-i-smaller c = let found = within (goal.at.loop-i-smaller c).After-is_escape in omega arith

pub loop-i-preserved : goal.loop-i-preserved
unfolding bytes_at
loop-i-preserved c =
    let args = c.args in
    plain_put args.s.now args.at args.room.now c.loop-i.room c.loop-i.i c.loop-i.n c.loop-i.invariant
    c.loop-i-test.true
    c.piece_end-end.ensures
    (sym c.is_escape.ensures ∙ c.if-is_escape.false)
    c.put_part-n.ensures

pub returns : goal.returns
returns c =
    let args = c.args in
    decoding_ends args.s.now args.at args.room.now c.loop-i.room c.loop-i.i c.loop-i.n c.loop-i.invariant
    c.loop-i-test.false
