use Prim.Native.Nat.{◌+◌, ◌-◌, ◌<◌}
use mathlib.Core.Path.{◌≡◌, ap, ◌∙◌}
use native.Mathlib.Omega.{arith}
use lib.ListN.{length, take, drop, length-drop}
use Rattle.format.specs.Bytes.{colon}
use Rattle.format.specs.Texts.{before_first}
use Rattle.values.proofs.CutLaws.{first-is, before-length, rest-is, no_name, no_value, named_at_lem}
use Rattle.values.proofs.inner.tokens.name_end.Goals as goal
use Rattle.values.proofs.inner.tokens.name_end.Goals.{After-past-colon}

-- where the first colon stands in the token
colon-at : (c : After-past-colon) → let args = c.args in c.past-colon.result ≡ length (before_first colon (drop args.from args.s.now))
colon-at c =
    let args = c.args in
    let s = args.s.now in
    let from = args.from in
    first-is colon (take (length s - from) (drop from s)) c.past-colon.result c.past-colon.ensures
    ∙ ap (λ x. length (before_first colon x)) (rest-is s from)

pub returns-then-colon-eq0 : goal.returns-then-colon-eq0
returns-then-colon-eq0 c =
    let args = c.args in
    no_name args.s.now args.from c.past-colon.result (colon-at (goal.at.returns-then-colon-eq0 c).After-past-colon) c.if-colon-eq0.true

pub overflow_add-colon : goal.overflow_add-colon
overflow_add-colon c =
    let args = c.args in
    omega (arith, colon-at (goal.at.overflow_add-colon c).After-past-colon, before-length colon (drop args.from args.s.now), length-drop args.from args.s.now)

pub returns-then-token-colon : goal.returns-then-token-colon
returns-then-token-colon c =
    let args = c.args in
    no_value args.s.now args.from c.past-colon.result (colon-at (goal.at.returns-then-token-colon c).After-past-colon) (rw (rest-is args.s.now args.from) at c.if-token-colon.true)

pub returns : goal.returns
returns c =
    let args = c.args in
    let long : c.past-colon.result + 1 < length (drop args.from args.s.now) = rw (rest-is args.s.now args.from) at c.if-token-colon.false in
    named_at_lem args.s.now args.from c.past-colon.result (colon-at (goal.at.returns c).After-past-colon) (omega arith) long
