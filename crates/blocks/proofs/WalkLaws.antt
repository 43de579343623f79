-- Items one after the other, as a loop over the blocks of a text finds them.
use Prim.Native.Nat.{ℕ, zero, suc, ◌+◌, ◌-◌, ◌≤◌, ◌<◌}
use mathlib.Core.Path.{◌≡◌, refl, sym, ap, ◌∙◌}
use mathlib.Core.Bool.{Bool, true, false, not, ◌&&◌, ◌||◌, true≢false}
use mathlib.Core.List.{List, [], ◌∷◌, ◌++◌}
use native.Mathlib.Omega.{arith}
use lib.Dec.{eqb, ltb}
use lib.ListN.{length, length-drop, get_or, take, drop}
use borrow.Author.Tests.{eqb-true, eqb-false, ltb-true, ltb-false}
use Rattle.format.specs.Bytes.{lf}
use Rattle.format.specs.Texts.{is_empty}
use Rattle.format.specs.Blocks.{Line, between, blocks_from, blocks, holds_arrow}
use Rattle.format.specs.Lists.{Item, nothing, cue, style, region, is_cue, items_from, item_over}
use Rattle.format.specs.LineNumbers.{block_of_cue, cue_blocks_from, first_number, line_span}
use Rattle.laws.proofs.Tests.{by-test, and_left, and_right}
use Rattle.laws.proofs.Standing.{length-bytes}
use Rattle.laws.proofs.Runs.{run-next, run-stop, run_end, run_at, run-after, run_length}
use Rattle.blocks.specs.declared.collecting.Head.{Head}
use Rattle.blocks.specs.declared.collecting.Stop.{Stop}
use Rattle.blocks.specs.declared.collecting.Why.{Why}
use Rattle.std.specs.Prelude.{Option, None, Some}
use denote.Enum.Bare.{sameb}
use Rattle.blocks.specs.contracts.items.ItemKind.{the_type}
use Rattle.blocks.specs.declared.items.ItemKind.{ItemKind}
use Rattle.blocks.specs.declared.collecting.Block.{Block}
use Rattle.blocks.specs.Collecting.{line_ends, lines_from, head_after, collect_from, opening, in_line, line_at, first_end, header_end, past_empty, next_is, is_end, WhyIs}
use Rattle.blocks.specs.Items.{meaning_at, PlacesIn, BlockAt, NextAt, NextIs, item_is, kind_is, kind_over}
use Rattle.blocks.proofs.LineLaws.{ends_few, ends-split, ends-run, line_from, lines_next, lines_end, collect_empty, collect_arrow, collect_line}
use Rattle.blocks.proofs.BlockLaws.{fresh_empty, fresh_after, block_at, header_at, blocks-after, no_blocks, line_inside}
use Rattle.blocks.proofs.ItemLaws.{no_bytes, some_bytes}

-- the blocks from a place on
abbrev pub fresh : List ℕ → ℕ → List (List Line)
fresh s at = blocks_from between (lines_from s at)

-- the blocks of a text are those after its header
pub after-header : (s : List ℕ) → (header_end s ≤ length s) × (blocks s ≡ fresh s (header_end s))
unfolding header_end
after-header s =
    let e = first_end s in
    by-test (eqb e (length s))
    (λ y. let l = eqb-true e (length s) y in rw y (omega arith, no_blocks s e refl l))
    (λ n. let l : e + 1 ≤ length s = omega (arith, run_length in_line s, eqb-false e (length s) n) in
    let head = header_at s (e + 1) l in
    rw n (head.1, blocks-after s e refl ∙ head.0))

-- empty lines begin no block
skipped : (s : List ℕ) (k at : ℕ) → length s ≤ at + k → fresh s at ≡ fresh s (past_empty s at)
unfolding is_empty
skipped s zero at l = let e : past_empty s at ≡ at = omega (arith, ap length (run_end (λ b. eqb b lf) s at (omega arith))) in rw e refl
skipped s (suc k) at l =
    by-test (ltb at (length s))
    (λ y. let i = ltb-true at (length s) y in
    by-test (eqb (get_or s at 0) lf)
    (λ f. let none : line_at s at ≡ [] = run-stop in_line s at i (ap not f) in
    let lines = lines_next s at at (omega arith) (omega (arith, ap length none)) in
    let e : past_empty s (at + 1) ≡ past_empty s at = omega (arith, ap length (run-next (λ b. eqb b lf) s at i f)) in
    ap (blocks_from between) lines ∙ fresh_empty (line_from s at) (lines_from s (at + 1)) (rw none refl) ∙ skipped s k (at + 1) (omega arith) ∙ ap (fresh s) e)
    (λ n. let e : past_empty s at ≡ at = omega (arith, ap length (run-stop (λ b. eqb b lf) s at i n)) in rw e refl))
    (λ z. let e : past_empty s at ≡ at = omega (arith, ap length (run_end (λ b. eqb b lf) s at (ltb-false at (length s) z))) in rw e refl)

-- why collecting stopped, the last line that was taken ending at e
why_is :
    (s : List ℕ) (k p : ℕ) (h : Head) (e : ℕ)
    → length s < p + k
    → (length s < p → e ≡ length s)
    → let st = collect_from h e (lines_from s p) in WhyIs s st.why st.at
unfolding collect_from
why_is s zero p h e l q = rw (lines_end s p (omega arith)) (q (omega arith))
why_is s (suc k) p h e l q =
    by-test (ltb (length s) p)
    (λ y. let i = ltb-true (length s) p y in rw (lines_end s p i) (q i))
    (λ z. let i = ltb-false (length s) p z in
    by-test (is_empty (line_at s p))
    (λ y. let none = no_bytes (line_at s p) y in rw (collect_empty s p h e i none) none)
    (λ n. let some = some_bytes (line_at s p) n in
    by-test (eqb h.left 0 && holds_arrow (line_at s p))
    (λ y. let a = and_right (eqb h.left 0) (holds_arrow (line_at s p)) y in
    rw (collect_arrow s p h e i some (eqb-true h.left 0 (and_left (eqb h.left 0) (holds_arrow (line_at s p)) y)) a) a)
    (λ f. let end = p + length (line_at s p) in
    rw (collect_line s p h e i some end refl f)
    (why_is s k (end + 1) (head_after h end (holds_arrow (line_at s p))) end (omega arith) (λ o. omega (arith, line_inside s p i))))))

-- what the next block is
next_is_lem : (s : List ℕ) (at : ℕ) → NextIs s at (next_is s at)
unfolding next_is
next_is_lem s at =
    let from = past_empty s at in
    let same = skipped s (length s) at (omega arith) in
    by-test (ltb from (length s))
    (λ y. let l = ltb-true from (length s) y in
    let ran = run_at (λ b. eqb b lf) s at from (omega arith) refl in
    rw y
    (record {
      skipped = ran.from;
      empties = omega (arith, ends-run s at);
      same = same;
      block = block_at s from l (ap not (run-after (λ b. eqb b lf) s at from ran l));
      stopped = why_is s (length s + 1) from opening from (omega arith) (λ o. absurd (omega arith));
    }))
    (λ n. rw n (same ∙ fresh_after s from (ltb-false from (length s) n)))

-- and what it is by the code's answer
module _ (s : List ℕ) (at : ℕ) (r : Option Block) (e : r ≡ next_is s at) where
  pub next-none : r ≡ None → fresh s at ≡ []
  next-none k = rw (← e, k) at (next_is_lem s at)

  pub next-found : (b : Block) → r ≡ Some b → NextAt s at b
  next-found b k = rw (← e, k) at (next_is_lem s at)

-- the item of the next block, and those after it
pub items-next :
    (s : List ℕ) (at : ℕ) (b : Block) (seen : Bool)
    → NextAt s at b
    → items_from seen (fresh s at) ≡ meaning_at seen s b ∷ items_from (seen || is_cue (meaning_at seen s b)) (fresh s b.stop.at)
unfolding items_from
items-next s at b seen n =
    let block = n.block in
    ap (items_from seen) (n.same ∙ block.divides) ∙ rw (block.meant seen)

-- the same of the blocks that give cues
pub cues-next :
    (s : List ℕ) (at : ℕ) (b : Block) (seen : Bool) (next : NextAt s at b)
    → let i = meaning_at seen s b in
    cue_blocks_from seen (fresh s at) ≡ block_of_cue i next.block.lines ++ cue_blocks_from (seen || is_cue i) (fresh s b.stop.at)
unfolding cue_blocks_from
cues-next s at b seen n =
    let block = n.block in
    ap (cue_blocks_from seen) (n.same ∙ block.divides) ∙ rw (block.meant seen)

-- the lines of the next block, where the line at the place has the number n, from 1
pub lines-found :
    (s : List ℕ) (at : ℕ) (b : Block) (n : ℕ) (next : NextAt s at b)
    → n ≡ suc (line_ends (take at s))
    → record { first = n + (b.from - at); count = b.stop.lines } ≡ line_span next.block.lines
unfolding line_span
lines-found s at b n next e =
    let block = next.block in
    let first : n + (b.from - at) ≡ suc (first_number block.lines) = omega (arith, next.skipped, next.empties, block.begins) in
    rw (first, block.counted)

-- where text is left after a block, its end did not stop it
not_end : (s : List ℕ) (w : Why) (at : ℕ) → WhyIs s w at → at < length s → is_end w ≡ false
not_end s Why.EmptyLine at k l = refl
not_end s Why.End at k l = absurd (omega arith)
not_end s Why.Arrow at k l = refl

-- and the number of the line after it, where there is one
pub line_after :
    (s : List ℕ) (at : ℕ) (b : Block) (n : ℕ)
    → NextAt s at b
    → n ≡ suc (line_ends (take at s))
    → is_end b.stop.why ≡ false
    → n + (b.from - at) + b.stop.lines ≡ suc (line_ends (take b.stop.at s))
line_after s at b n next e k = omega (arith, next.skipped, next.empties, next.block.numbers k)

-- as a walk asks it: a place of the text is left
pub line_left :
    (s : List ℕ) (at : ℕ) (b : Block) (n : ℕ)
    → NextAt s at b
    → n ≡ suc (line_ends (take at s))
    → b.stop.at < length s
    → n + (b.from - at) + b.stop.lines ≡ suc (line_ends (take b.stop.at s))
line_left s at b n next e l = line_after s at b n next e (not_end s b.stop.why b.stop.at next.stopped l)

-- a block has no more lines than the text has bytes, and one
pub few_lines : (s : List ℕ) (b : Block) → BlockAt s b → b.stop.lines ≤ length s + 1
few_lines s b block =
    let own = take (b.stop.to - b.from) (drop b.from s) in
    omega (
      arith,
      block.counted,
      length-bytes block.lines,
      ap length block.covers,
      ends-split own,
      ends_few (drop b.from s) (b.stop.to - b.from),
      length-drop b.from s,
    )

-- a block takes at least one byte
pub moves : (s : List ℕ) (at : ℕ) (b : Block) → NextAt s at b → at < b.stop.at
moves s at b n =
    let block = n.block in
    omega (arith, n.skipped, block.starts, block.first_end_lem, block.end_to, block.to_at)

-- what the functions ask for that tell what a block gives
pub places_in : (s : List ℕ) (at : ℕ) (b : Block) → NextAt s at b → PlacesIn s b
places_in s at b n =
    let block = n.block in
    (block.starts, block.first_end_lem, block.end_to, omega (arith, block.to_at, block.inside))

-- the test for a number above its limit, as the code makes it
pub over_told : (k : ItemKind) → sameb the_type k ItemKind.Over ≡ kind_over k
over_told ItemKind.Nothing = refl
over_told ItemKind.Over = refl
over_told ItemKind.Cue = refl
over_told ItemKind.Style = refl
over_told ItemKind.Region = refl

pub over-is : (i : Item) → kind_over (kind_is (item_is i)) ≡ item_over i
unfolding item_over
over-is nothing = refl
over-is (cue c over) = by-test over (λ y. rw y) (λ n. rw n)
over-is (style t) = refl
over-is (region r over) = by-test over (λ y. rw y) (λ n. rw n)
