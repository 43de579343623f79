-- The walk over a text's blocks: what has been found so far, with what is to come, is what the text has.
use Prim.Native.Nat.{ℕ, suc, ◌+◌, ◌-◌, ◌≤◌, ◌<◌}
use mathlib.Core.Path.{◌≡◌, refl, sym, ap, ◌∙◌}
use mathlib.Core.Bool.{Bool, true, false, cond, ◌||◌, or_assoc}
use mathlib.Core.List.{List, [], ◌∷◌, ◌++◌}
use Rattle.std.specs.Prelude.{Option, None, Some}
use native.Mathlib.Omega.{arith}
use lib.Dec.{eqb, ltb}
use lib.ListN.{length, get_or, take, drop}
use lib.Seq.{get_or-drop, drop-drop}
use borrow.Author.Tests.{eqb-true, eqb-false, ne_eqb, lt-ltb}
use Rattle.format.specs.Bytes.{lf}
use Rattle.format.specs.Texts.{same}
use Rattle.format.specs.Lines.{split_list_at, split, before, on_first}
use Rattle.format.specs.RegionSettings.{later_or, last_named}
use Rattle.format.specs.Blocks.{Line, has_signature, blocks}
use Rattle.format.specs.Lists.{Item, nothing, cue, style, region, is_cue, items_from, items, into, listed, lists, item_over, any_over}
use Rattle.format.specs.Rows.{ids}
use Rattle.format.specs.LineNumbers.{block_of_cue, cue_blocks_from, cue_blocks, first_number}
use Rattle.format.specs.Replacing.{first_line, last_line, is_there, region_names}
use Rattle.format.specs.declared.settings.Span.{Span}
use Rattle.laws.proofs.Tests.{by-test, or_true, or_false}
use Rattle.laws.proofs.Standing.{All, ItemStands, items_stand, blocks_follow, length-bytes}
use Rattle.blocks.specs.declared.collecting.Block.{Block}
use Rattle.blocks.specs.declared.items.Item as Read
use Rattle.blocks.specs.declared.items.Item.TheVariants as Made
use Rattle.blocks.specs.Collecting.{line_ends}
use Rattle.blocks.specs.Items.{meaning_at, BlockAt, NextAt, item_is}
use Rattle.laws.proofs.Rows.{stands_bytes}
use Rattle.blocks.proofs.LineLaws.{ends-split, ends_more}
use Rattle.blocks.proofs.WalkLaws.{fresh, items-next, cues-next, moves}
use Rattle.places.specs.declared.inner.finding.Found.{Found}
use Rattle.places.specs.Places.{OwnLines}
use Rattle.places.specs.Finding.{lines_of, with_item, OwnIn, FoundIn}

-- the block of a cue, by its places
module _ (s : List ℕ) (number : ℕ) (block : Block) (b : BlockAt s block) (is : get_or (cue_blocks s) number [] ≡ b.lines) where
  abbrev own : List ℕ
  own = take (block.stop.to - block.from) (drop block.from s)

  first_line_lem : first_line s number ≡ line_ends (take block.from s)
  unfolding first_line
  first_line_lem = ap first_number is ∙ b.begins

  block-length : length (get_or (cue_blocks s) number []) ≡ suc (line_ends own)
  block-length = ap length is ∙ sym (length-bytes b.lines) ∙ ap length (sym b.covers) ∙ ends-split own

  own-lines : OwnLines s number block.from block.stop.to
  unfolding last_line
  own-lines =
      let l : block.from ≤ block.stop.to = omega (arith, b.starts, b.first_end_lem, b.end_to) in
      record {
        some = l;
        inside = omega (arith, b.to_at, b.inside);
        first = first_line_lem;
        last = omega (arith, first_line_lem, block-length, ends_more s block.from block.stop.to l);
      }

-- has one of these names, in whatever order they are looked through
any_named : List ℕ → List (List ℕ) → Bool
any_named x [] = false
any_named x (id ∷ names) = same id x || any_named x names

there_later : (o : Option ℕ) (t : Bool) (k : ℕ) → is_there (later_or o (cond t (Some k) None)) ≡ t || is_there o
unfolding is_there later_or
there_later None t k = by-test t (λ y. rw y) (λ n. rw n)
there_later (Some i) t k = sym (or_true t)

there_is : (k : ℕ) (x : List ℕ) (names : List (List ℕ)) → is_there (last_named k x names) ≡ any_named x names
unfolding last_named any_named is_there
there_is k x [] = refl
there_is k x (id ∷ names) = there_later (last_named (k + 1) x names) (same id x) k ∙ ap (λ t. same id x || t) (there_is (k + 1) x names)

-- another cue than the one asked for is passed over
own_later : (s : List ℕ) (number cues : ℕ) → (cues ≡ number → ⊥) → (o : Option Span) → OwnIn s number cues o → OwnIn s number (cues + 1) o
own_later s number cues n None h = omega arith
own_later s number cues n (Some lines) h = (omega (arith, h.0), h.1)

-- this has been found, and these items and these blocks of cues are to come
record Left (s : List ℕ) (number : ℕ) (name : List ℕ) (is : List Item) (cs : List (List Line)) (f : Found) : Type 0 where
  blocks : drop f.cues (cue_blocks s) ≡ cs
  over : any_over (items s) ≡ any_over is
  stand : All (ItemStands s) is
  counted : f.cues + length (listed is).cues ≡ length (lists s).cues
  own : OwnIn s number f.cues f.own
  named : f.named || any_named name (ids (listed is).regions) ≡ is_there (last_named 0 name (region_names s))

-- one item more, of the block b, whose lines stand there
module _
    (s : List ℕ) (number : ℕ) (name : List ℕ) (is : List Item) (b : List Line) (cs : List (List Line)) (f : Found) (lines : Span)
    (stand-there : get_or (cue_blocks s) number [] ≡ b → OwnLines s number lines.from lines.to)
  where
    -- the block of the cue asked for
    own-here : drop f.cues (cue_blocks s) ≡ b ∷ cs → f.cues ≡ number → OwnLines s number lines.from lines.to
    own-here e q =
        let z : f.cues + 0 ≡ number = omega arith in
        stand-there
        (ap (λ k. get_or (cue_blocks s) k []) (sym z) ∙ sym (get_or-drop f.cues (cue_blocks s) 0 []) ∙ ap (λ bs. get_or bs 0 []) e)

    -- what the item adds to what has been found, it takes from what is to come
    left-next :
        (i : Item)
        → item_over i ≡ false
        → Left s number name (i ∷ is) (block_of_cue i b ++ cs) f
        → Left s number name is cs (with_item s number name (item_is i) lines f)
    unfolding block_of_cue is_cue any_over item_over listed into ids any_named
    left-next nothing w h =
        record { blocks = h.blocks; over = h.over; stand = h.stand.1; counted = h.counted; own = h.own; named = h.named }
    left-next (cue c over) w h =
        rw w
        (record {
          blocks = sym (drop-drop 1 f.cues (cue_blocks s)) ∙ ap (drop 1) h.blocks;
          over = rw w at h.over;
          stand = h.stand.1;
          counted = omega (arith, h.counted);
          own =
              by-test (eqb f.cues number)
              (λ y. let e = eqb-true f.cues number y in rw y (omega arith, own-here h.blocks e))
              (λ z. rw z (own_later s number f.cues (eqb-false f.cues number z) f.own h.own));
          named = h.named;
        })
    left-next (style text) w h =
        record { blocks = h.blocks; over = h.over; stand = h.stand.1; counted = h.counted; own = h.own; named = h.named }
    left-next (region r over) w h =
        rw w
        (record {
          blocks = h.blocks;
          over = rw w at h.over;
          stand = h.stand.1;
          counted = h.counted;
          own = h.own;
          named = rw (stands_bytes s r.id h.stand.0) (or_assoc f.named (same r.id.bytes name) _ ∙ h.named);
        })

module _ (s : List ℕ) (number : ℕ) (name : List ℕ) (lines : Span) (f : Found) where
  -- a cue has succeeded where there is one
  seen_next : (i : Item) → item_over i ≡ false → ltb 0 (with_item s number name (item_is i) lines f).cues ≡ ltb 0 f.cues || is_cue i
  unfolding item_over is_cue
  seen_next nothing w = sym (or_false (ltb 0 f.cues))
  seen_next (cue c over) w = rw w (lt-ltb 0 (f.cues + 1) (omega arith) ∙ sym (or_true (ltb 0 f.cues)))
  seen_next (style text) w = sym (or_false (ltb 0 f.cues))
  seen_next (region r over) w = rw w (sym (or_false (ltb 0 f.cues)))

  -- an item is at most one cue
  with_most : (i : Read.Item) → (with_item s number name i lines f).cues ≤ f.cues + 1
  with_most Made.Nothing = omega arith
  with_most Made.Over = omega arith
  with_most (Made.Cue c) = omega arith
  with_most (Made.Style t) = omega arith
  with_most (Made.Region r) = omega arith

-- this has been found in the blocks before a place
pub record Walking (s : List ℕ) (number : ℕ) (name : List ℕ) (at : ℕ) (f : Found) : Type 0 where
  pub inside : at ≤ length s
  pub few : f.cues ≤ at
  left : Left s number name (items_from (ltb 0 f.cues) (fresh s at)) (cue_blocks_from (ltb 0 f.cues) (fresh s at)) f

module _ (s : List ℕ) (number : ℕ) (name : List ℕ) (at : ℕ) where
  -- before the first block nothing has been found
  pub walk_start : at ≤ length s → blocks s ≡ fresh s at → Walking s number name at (record { cues = 0; own = None; named = false })
  unfolding items lists cue_blocks region_names
  walk_start l e =
      record {
        inside = l;
        few = omega arith;
        left = rw (sym e)
            (record {
              blocks = refl;
              over = refl;
              stand = items_stand s false (blocks s) (blocks_follow s);
              counted = omega arith;
              own = omega arith;
              named = sym (there_is 0 name (region_names s));
            });
      }

  module _ (f : Found) (h : Walking s number name at f) where
    abbrev seen : Bool
    seen = ltb 0 f.cues

    -- after the last block all has been found
    pub walk_end : has_signature s ≡ true → fresh s at ≡ [] → FoundIn s number name f
    unfolding items_from cue_blocks_from any_over listed ids any_named
    walk_end y e =
        let left : Left s number name [] [] f = rw e at h.left in
        record {
          signature = y;
          within = left.over;
          counted = omega (arith, left.counted);
          own = left.own;
          named = sym (or_false f.named) ∙ left.named;
        }

    module _ (block : Block) (next : NextAt s at block) where
      abbrev item : Item
      item = meaning_at seen s block

      abbrev lines : Span
      lines = lines_of block

      abbrev more : Found
      more = with_item s number name (item_is item) lines f

      -- the items and the blocks of cues to come
      abbrev later : List Item
      later = items_from (seen || is_cue item) (fresh s block.stop.at)

      abbrev later_cues : List (List Line)
      later_cues = cue_blocks_from (seen || is_cue item) (fresh s block.stop.at)

      -- what is to come begins with this block
      with_next : Left s number name (item ∷ later) (block_of_cue item next.block.lines ++ later_cues) f
      with_next = rw (items-next s at block seen next, cues-next s at block seen next) at h.left

      -- a block with a number above its limit, and any other block
      pub walk_over : item_over item ≡ true → any_over (items s) ≡ true
      unfolding any_over
      walk_over y = with_next.over ∙ rw y

      pub walk_next : item_over item ≡ false → Walking s number name block.stop.at more
      walk_next w =
          let b = next.block in
          record {
            inside = b.inside;
            few = omega (arith, h.few, moves s at block next, with_most s number name lines f (item_is item));
            left = rw (seen_next s number name lines f item w)
                (left-next s number name later b.lines later_cues f lines (own-lines s number block b) item w with_next);
          }
