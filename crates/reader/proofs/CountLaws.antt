-- The counts of items, one after the other.
use Prim.Native.Nat.{ℕ, suc, ◌+◌, ◌≤◌}
use mathlib.Core.Path.{◌≡◌, refl, sym, ◌∙◌}
use mathlib.Core.Bool.{true, false, ◌||◌}
use mathlib.Core.List.{List, [], ◌∷◌}
use native.Mathlib.Nat.{add-zero}
use native.Mathlib.Omega.{arith}
use lib.Dec.{ltb}
use lib.ListN.{length}
use borrow.Author.Tests.{lt-ltb}
use Rattle.format.specs.Lists.{Item, nothing, cue, style, region, is_cue, into, listed, item_over, any_over}
use Rattle.laws.proofs.Tests.{or_true, or_false}
use Rattle.blocks.specs.declared.items.Item as Read
use Rattle.blocks.specs.declared.items.Item.TheVariants as Made
use Rattle.blocks.specs.Items.{item_is}
use Rattle.std.specs.Prelude.{Ok, Err}
use Rattle.format.specs.declared.Counts.{Counts}
use Rattle.reader.specs.Counting.{with_item, tally_with}

pub tally_end : (n : Counts) → tally_with n [] ≡ Ok n
unfolding tally_with any_over listed
tally_end n = rw (add-zero n.cues, add-zero n.regions, add-zero n.styles)

pub tally_over : (n : Counts) (i : Item) (is : List Item) → item_over i ≡ true → tally_with n (i ∷ is) ≡ Err (record {})
unfolding tally_with any_over
tally_over n i is e = rw e

one_more_lem : (a b : ℕ) → a + suc b ≡ a + 1 + b
one_more_lem a b = omega arith

pub tally_next : (n : Counts) (i : Item) (is : List Item) → item_over i ≡ false → tally_with n (i ∷ is) ≡ tally_with (with_item (item_is i) n) is
unfolding tally_with any_over item_over listed into
tally_next n nothing is e = refl
tally_next n (cue c over) is e = rw (e, one_more_lem n.cues (length (listed is).cues))
tally_next n (style t) is e = rw (one_more_lem n.styles (length (listed is).styles))
tally_next n (region r over) is e = rw (e, one_more_lem n.regions (length (listed is).regions))

-- a cue has succeeded where there is one
pub seen_next : (n : Counts) (i : Item) → item_over i ≡ false → ltb 0 (with_item (item_is i) n).cues ≡ ltb 0 n.cues || is_cue i
unfolding item_over is_cue
seen_next n nothing e = sym (or_false (ltb 0 n.cues))
seen_next n (cue c over) e = rw e (lt-ltb 0 (n.cues + 1) (omega arith) ∙ sym (or_true (ltb 0 n.cues)))
seen_next n (style t) e = sym (or_false (ltb 0 n.cues))
seen_next n (region r over) e = rw e (sym (or_false (ltb 0 n.cues)))

-- an item adds at most one to each count
pub with_most :
    (i : Read.Item) (n : Counts)
    → ((with_item i n).cues ≤ n.cues + 1) × ((with_item i n).regions ≤ n.regions + 1) × ((with_item i n).styles ≤ n.styles + 1)
with_most Made.Nothing n = (omega arith, omega arith, omega arith)
with_most Made.Over n = (omega arith, omega arith, omega arith)
with_most (Made.Cue c) n = (omega arith, omega arith, omega arith)
with_most (Made.Style t) n = (omega arith, omega arith, omega arith)
with_most (Made.Region r) n = (omega arith, omega arith, omega arith)
