-- What the blocks of a file give: it divides where the blocks do, and no style and no region comes after a cue.
use mathlib.Core.Path.{◌≡◌, refl, ap, ◌∙◌}
use mathlib.Core.Bool.{Bool, true, false, cond, ◌||◌, true≢false}
use mathlib.Core.List.{List, [], ◌∷◌, ◌++◌}
use Rattle.std.specs.Prelude.{Option, None, Some}
use Rattle.format.specs.Texts.{Part, empty_part}
use Rattle.format.specs.TimingLines.{Timing, timing_line}
use Rattle.format.specs.Blocks.{Line, line_part, holds_arrow}
use Rattle.format.specs.Lists.{Item, nothing, cue, style, region, cue_of, definition, meaning, is_cue, items_from, Lists, into, listed}

-- whether a cue has succeeded after these blocks
unfoldable pub succeeded : Bool → List (List Line) → Bool
succeeded seen [] = seen
succeeded seen (b ∷ bs) = succeeded (seen || is_cue (meaning seen b)) bs

pub items_append :
    (seen : Bool) (bs cs : List (List Line)) → items_from seen (bs ++ cs) ≡ items_from seen bs ++ items_from (succeeded seen bs) cs
unfolding items_from succeeded
items_append seen [] cs = refl
items_append seen (b ∷ bs) cs = ap (λ r. meaning seen b ∷ r) (items_append (seen || is_cue (meaning seen b)) bs cs)

-- a style or a region
unfoldable pub is_definition : Item → Bool
is_definition nothing = false
is_definition (cue c over) = false
is_definition (style text) = true
is_definition (region r over) = true

cue_defines_none : (id : Part) (ls : List Line) (t : Option Timing) → is_definition (cue_of id ls t) ≡ false
unfolding is_definition cue_of
cue_defines_none id ls None = refl
cue_defines_none id ls (Some t) = refl

either_none : (t : Bool) (a b : Item) → is_definition a ≡ false → is_definition b ≡ false → is_definition (cond t a b) ≡ false
either_none true a b p q = p
either_none false a b p q = q

-- once a cue has succeeded, no block is a style or a region
pub no_definition-after : (b : List Line) → is_definition (meaning true b) ≡ false
unfolding meaning definition is_definition
no_definition-after [] = refl
no_definition-after (first ∷ []) =
    either_none (holds_arrow first.bytes) (cue_of empty_part [] (timing_line (line_part first))) nothing (cue_defines_none empty_part [] (timing_line (line_part first))) refl
no_definition-after (first ∷ (second ∷ ls)) =
    let timed = cue_of (line_part first) ls (timing_line (line_part second)) in
    let rest = cond (holds_arrow second.bytes) timed nothing in
    either_none
    (holds_arrow first.bytes)
    (cue_of empty_part (second ∷ ls) (timing_line (line_part first)))
    rest
    (cue_defines_none empty_part (second ∷ ls) (timing_line (line_part first)))
    (either_none (holds_arrow second.bytes) timed nothing (cue_defines_none (line_part first) ls (timing_line (line_part second))) refl)

no_region_lem : (i : Item) (l : Lists) → is_definition i ≡ false → (into i l).regions ≡ l.regions
unfolding is_definition into
no_region_lem nothing l e = refl
no_region_lem (cue c over) l e = refl
no_region_lem (style text) l e = absurd (true≢false e)
no_region_lem (region r over) l e = absurd (true≢false e)

-- regions never come after a cue
pub no_regions-after : (bs : List (List Line)) → (listed (items_from true bs)).regions ≡ []
unfolding items_from listed
no_regions-after [] = refl
no_regions-after (b ∷ bs) =
    no_region_lem (meaning true b) (listed (items_from true bs)) (no_definition-after b) ∙ no_regions-after bs
