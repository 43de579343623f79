use Rattle.std.proofs.Common.{rules}
use mathlib.Core.Path.{refl, sym, ◌∙◌}
use native.Mathlib.Omega.{arith}
use Rattle.format.specs.Bytes.{ascii}
use Rattle.format.specs.RegionSettings.{region_named}
use Rattle.format.specs.Texts.{same}
use Rattle.values.proofs.WordLaws.{named}
use Rattle.regions.proofs.named_change.Goals as goal

pub returns-in-regionanchor : goal.returns-in-regionanchor
unfolding region_named same
returns-in-regionanchor c = rw (named c.args.name.now (ascii "regionanchor") (omega arith) (search rules)) (search rules)

pub returns-in-viewportanchor : goal.returns-in-viewportanchor
unfolding region_named same
returns-in-viewportanchor c = rw (named c.args.name.now (ascii "viewportanchor") (omega arith) (search rules)) (search rules)

pub returns-then-same_bytes : goal.returns-then-same_bytes
unfolding region_named
returns-then-same_bytes c =
    let up = sym c.same_bytes.ensures ∙ c.if-same_bytes.true in
    let scroll = named c.args.name.now (ascii "scroll") (omega arith) (search rules) in
    rw (scroll, up) (unfold same in refl)
