use Prim.Native.Nat.{◌+◌}
use mathlib.Core.Path.{◌≡◌, sym, ap, ◌∙◌}
use native.Mathlib.Omega.{arith}
use Rattle.format.specs.CueSettings.{span_is}
use Rattle.format.specs.Tokens.{value_of}
use Rattle.format.specs.RegionSettings.{region_change}
use Rattle.values.specs.Tokens.{token_from}
use Rattle.values.proofs.CutLaws.{rest-is, span_is_lem}
use Rattle.regions.proofs.take_setting.Goals as goal
use Rattle.regions.proofs.take_setting.Goals.{After-named_change-change, After-span}

-- what the token changes
change-is :
    (c : After-named_change-change)
    → let args = c.args in c.named_change-change.result ≡ region_change (token_from args.s.now args.from)
unfolding region_change
change-is c =
    let n = c.requires in
    c.named_change-change.ensures ∙ rw (n.both, n.name, n.value, rest-is c.args.s.now (c.args.colon + 1))

-- where its value stands
value-is : (c : After-span) → let args = c.args in c.span.result ≡ span_is (value_of (token_from args.s.now args.from))
value-is c =
    c.span.ensures ∙ span_is_lem c.args.s.now (c.args.colon + 1) (omega (arith, c.requires.inside)) ∙ sym (ap span_is c.requires.value)

pub returns-then-taken : goal.returns-then-taken
returns-then-taken c =
    rw (c.id_after.ensures, c.changed.ensures, c.if-taken.true, value-is (goal.at.returns-then-taken c).After-span, change-is (goal.at.returns-then-taken c).After-named_change-change)

pub returns-else-taken : goal.returns-else-taken
returns-else-taken c =
    rw (c.id_after.ensures, c.changed.ensures, c.if-taken.false, c.is_over.ensures, value-is (goal.at.returns-else-taken c).After-span, change-is (goal.at.returns-else-taken c).After-named_change-change)
