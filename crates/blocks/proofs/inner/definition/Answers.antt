use Prim.Native.Nat.{◌+◌}
use mathlib.Core.Path.{sym, ap, ◌∙◌}
use native.Mathlib.Omega.{arith}
use Rattle.format.specs.RegionSettings.{region_settings}
use Rattle.regions.specs.Changes.{taken_is}
use Rattle.blocks.specs.Items.{part, region_item}
use Rattle.blocks.specs.declared.items.Item.TheVariants as Read
use Rattle.blocks.proofs.ItemLaws.{part_of_lem, span_part, region_is_lem}
use Rattle.blocks.proofs.inner.definition.Goals as goal

pub returns-then-is_word : goal.returns-then-is_word
returns-then-is_word c =
    let a = c.args in
    rw (c.span.ensures, c.if-seen.false, sym c.is_word.ensures ∙ c.if-is_word.true)
    (ap Read.Style (span_part a.s.now (a.first + 1) a.to (omega arith) (omega arith)))

pub returns-then-is_word-2 : goal.returns-then-is_word-2
returns-then-is_word-2 c =
    let a = c.args in
    c.region_item.ensures
    ∙ ap region_item c.all_settings.ensures
    ∙ ap (λ p. region_item (taken_is (region_settings p))) (part_of_lem a.s.now (a.first + 1) a.to (omega arith) (omega arith))
    ∙ region_is_lem (region_settings (part a.s.now (a.first + 1) a.to))
    ∙ rw (c.if-seen.false, sym c.is_word.ensures ∙ c.if-is_word.false, sym c.is_word-2.ensures ∙ c.if-is_word-2.true)
