use Prim.Native.Nat.{◌<◌}
use mathlib.Core.Path.{ap, ◌∙◌}
use mathlib.Core.Bool.{not}
use native.Mathlib.Omega.{arith}
use lib.ListN.{length}
use Rattle.format.specs.Bytes.{white}
use Rattle.laws.proofs.Runs.{RunAt, run_at, run-after, run-moves, drop-take}
use Rattle.laws.proofs.Tokens.{inside, tokens-end, tokens-next}
use Rattle.values.proofs.inner.tokens.next_token.Goals as goal
use Rattle.values.proofs.inner.tokens.next_token.Goals.{After-past-from}

-- the whitespace before the token
whites : (c : After-past-from) → let args = c.args in RunAt white args.s.now args.i c.past-from.result
whites c = let args = c.args in run_at white args.s.now args.i c.past-from.result (omega arith) c.past-from.ensures

pub returns-then-from-s : goal.returns-then-from-s
returns-then-from-s c =
    let args = c.args in
    tokens-end args.s.now args.i c.past-from.result (whites (goal.at.returns-then-from-s c).After-past-from) (omega arith)

pub returns : goal.returns
returns c =
    let args = c.args in
    let s = args.s.now in
    let from = c.past-from.result in
    let to = c.past-to.result in
    let w = whites (goal.at.returns c).After-past-from in
    let t = run_at inside s from to w.inside c.past-to.ensures in
    let l : from < length s = omega (arith, w.inside, c.if-from-s.false) in
    let out = run-after white s args.i from w l in
    record {
      first = tokens-next s args.i from w to l out t ∙ rw (drop-take from to s);
      moves = omega (arith, w.from, run-moves inside s from to t l (ap not out));
      some = t.from;
      inside = t.inside;
    }
