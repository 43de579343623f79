use Prim.Native.Nat.{◌+◌, ◌<◌}
use mathlib.Core.Path.{◌≡◌, sym, ◌∙◌}
use lib.ListN.{length, get_or}
use native.Mathlib.Omega.{arith}
use Rattle.std.proofs.Common.{rules}
use Rattle.format.specs.Bytes.{lf}
use Rattle.plain.proofs.PieceLaws.{piece_nul, piece_pair, piece_line, piece_run}
use Rattle.plain.proofs.pieces.piece_at.Goals as goal

pub returns-in-0 : goal.returns-in-0
returns-in-0 c = sym (piece_nul c.args.s.now c.args.at (omega arith) c.in-0.is)

pub returns-in-13 : goal.returns-in-13
returns-in-13 c =
    let s = c.args.s.now in
    let next = c.args.at + 1 in
    let inside : next < length s = search rules in
    let is : get_or s next 0 ≡ lf = search rules in
    sym (piece_pair s c.args.at (omega arith) c.in-13.is inside is)

pub returns-in-13-2 : goal.returns-in-13-2
returns-in-13-2 c =
    let s = c.args.s.now in
    let next = c.args.at + 1 in
    let other : next < length s → get_or s next 0 ≡ lf → ⊥ = search rules in
    sym (piece_line s c.args.at (omega arith) c.in-13.is other)

pub returns-in_default : goal.returns-in_default
returns-in_default c =
    c.run_at.ensures ∙ sym (piece_run c.args.s.now c.args.at (omega arith) (λ z. omega arith) (λ z. omega arith))
