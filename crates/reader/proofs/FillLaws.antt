-- The second pass over a text: the rows that are stored item by item are the rows of the text's lists.
use Prim.Native.Nat.{ℕ, ◌+◌, ◌≤◌}
use mathlib.Core.Path.{◌≡◌, refl, sym, ap, subst, ◌∙◌}
use mathlib.Core.Bool.{Bool, true, false, ◌||◌}
use mathlib.Core.List.{List, [], ◌∷◌, ◌++◌, map}
use native.Mathlib.Omega.{arith}
use lib.Dec.{ltb}
use lib.ListN.{length, length-map, take, set}
use lib.Seq.{take-length}
use Rattle.format.specs.Texts.{Part}
use Rattle.format.specs.CueSettings.{span_is}
use Rattle.format.specs.RegionSettings.{RegionValues, region_is}
use Rattle.format.specs.Blocks.{Line, blocks}
use Rattle.format.specs.Answers.{placed}
use Rattle.format.specs.Lists.{Cue, Item, nothing, cue, style, region, is_cue, items_from, items, into, listed, lists, item_over, any_over}
use Rattle.format.specs.Contents.{region_of_entry}
use Rattle.format.specs.Writable.{names_of}
use Rattle.format.specs.Replacing.{region_asked}
use Rattle.format.specs.Rows.{cue_words, region_words, style_words, ids, region_for, entry_is, cue_rows, region_rows, style_rows, stored_cues}
use Rattle.format.specs.LineNumbers.{block_of_cue, cue_blocks_from, cue_blocks, line_span, line_spans}
use Rattle.format.specs.declared.rows.LineSpan.{LineSpan}
use Rattle.laws.proofs.Tests.{or_true, or_first, or_second}
use Rattle.laws.proofs.Filling.{Fills, fills_start, fills_room, fills_some, fills_next, fills_all, fills_end, fills_front}
use Rattle.laws.proofs.Standing.{Stands, All, CueStands, ItemStands, items_stand, blocks_follow, lists_stand}
use Rattle.laws.proofs.Lists.{no_regions-after}
use Rattle.laws.proofs.Rows.{stands_bytes, stored-length}
use Rattle.lookup.specs.Known.{asked_at}
use Rattle.blocks.specs.declared.collecting.Block.{Block}
use Rattle.blocks.specs.Items.{meaning_at, NextAt, cue_is, item_is}
use Rattle.format.specs.declared.Counts.{Counts}
use Rattle.reader.specs.Counting.{with_item}
use Rattle.reader.specs.Filling.{entry_of, cues_with, regions_with, styles_with, RoomFor}
use Rattle.blocks.proofs.WalkLaws.{fresh, items-next, cues-next, moves}
use Rattle.reader.proofs.CountLaws.{seen_next, with_most}

rows-ids : (s : List ℕ) (rs : List RegionValues) → All (λ r. Stands s r.id) rs → names_of s (region_rows rs) ≡ ids rs
unfolding region_rows ids region_of_entry
rows-ids s [] h = refl
rows-ids s (r ∷ rs) h = let a = stands_bytes s r.id h.0 in let b = rows-ids s rs h.1 in rw (a, b)

-- the region that a cue asks for, looked up in the rows of all regions
region-found :
    (s : List ℕ) (rs : List RegionValues) (name : Part)
    → All (λ r. Stands s r.id) rs
    → Stands s name
    → asked_at s (region_rows rs) (span_is name) ≡ (region_for rs name)
unfolding region_for region_asked
region-found s rs name all h = rw (stands_bytes s name h, rows-ids s rs all)

entry_is_lem :
    (s : List ℕ) (rs : List RegionValues) (c : Cue)
    → All (λ r. Stands s r.id) rs
    → CueStands s c
    → entry_of s (region_rows rs) (cue_is c) ≡ entry_is rs c
unfolding entry_is
entry_is_lem s rs c all h = rw (region-found s rs c.region all h.region)

-- the tables are long enough
pub record Fits (s : List ℕ) (cues₀ regions₀ styles₀ : List (List ℕ)) : Type 0 where
  pub cues : length (stored_cues s) ≤ length cues₀
  pub regions : length (region_rows (lists s).regions) ≤ length regions₀
  pub styles : length (style_rows (lists s).styles) ≤ length styles₀

module _ (s : List ℕ) (cues₀ regions₀ styles₀ : List (List ℕ)) where
  abbrev all_regions : List RegionValues
  all_regions = (lists s).regions

  -- the rows of cues that have the lines of these blocks
  abbrev rows_of : List Cue → List (List Line) → List (List ℕ)
  rows_of cs bs = cue_rows all_regions cs (map line_span bs)

  -- n entries are stored, and these items and these blocks of cues are to come
  pub record Stored (n : Counts) (is : List Item) (bs : List (List Line)) (cues regions styles : List (List ℕ)) : Type 0 where
    pub within : any_over is ≡ false
    pub stand : All (ItemStands s) is
    pub cues_full : Fills (stored_cues s) cues₀ cues (rows_of (listed is).cues bs) n.cues
    pub regions_full : Fills (region_rows all_regions) regions₀ regions (region_rows (listed is).regions) n.regions
    pub styles_full : Fills (style_rows (lists s).styles) styles₀ styles (style_rows (listed is).styles) n.styles

  module _ (fits : Fits s cues₀ regions₀ styles₀) (n : Counts) (is : List Item) (b : List Line) (bs : List (List Line)) (cues regions styles : List (List ℕ)) where
    pub room : (i : Item) → Stored n (i ∷ is) (block_of_cue i b ++ bs) cues regions styles → RoomFor (item_is i) n (length cues) (length regions) (length styles)
    unfolding listed into any_over item_over is_cue block_of_cue cue_rows region_rows style_rows
    room nothing st = tt
    room (cue c over) st =
        let f = st.cues_full in
        let g = st.regions_full in
        let left = rows_of (listed is).cues bs in
        let row = cue_words (entry_is all_regions c) (line_span b) in
        rw (or_first over (any_over is) st.within) (
          omega (arith, fits.cues, fills_room (stored_cues s) cues₀ fits.cues cues n.cues (row ∷ left) f, fills_some (stored_cues s) cues₀ fits.cues cues n.cues row left f),
          omega (arith, fits.regions, g.most, fills_room (region_rows all_regions) regions₀ fits.regions regions n.regions (region_rows (listed is).regions) g),
        )
    room (style t) st =
        let f = st.styles_full in
        let row = style_words (span_is t) in
        let left = style_rows (listed is).styles in
        omega (arith, fits.styles, fills_room (style_rows (lists s).styles) styles₀ fits.styles styles n.styles (row ∷ left) f, fills_some (style_rows (lists s).styles) styles₀ fits.styles styles n.styles row left f)
    room (region r over) st =
        let f = st.regions_full in
        let row = region_words (region_is r) in
        let left = region_rows (listed is).regions in
        rw (or_first over (any_over is) st.within)
        (omega (arith, fits.regions, fills_room (region_rows all_regions) regions₀ fits.regions regions n.regions (row ∷ left) f, fills_some (region_rows all_regions) regions₀ fits.regions regions n.regions row left f))

    -- all regions are stored where none is to come
    regions-stored : (listed is).regions ≡ [] → Fills (region_rows all_regions) regions₀ regions (region_rows (listed is).regions) n.regions → take n.regions regions ≡ region_rows all_regions
    unfolding region_rows
    regions-stored none f =
        let g : Fills (region_rows all_regions) regions₀ regions [] n.regions = rw none at f in
        fills_front (region_rows all_regions) regions₀ fits.regions regions n.regions [] g
        ∙ ap (λ k. take k (region_rows all_regions)) (fills_all (region_rows all_regions) regions₀ fits.regions regions n.regions g)
        ∙ take-length (region_rows all_regions)

    pub store :
        (i : Item)
        → (is_cue i ≡ true → (listed is).regions ≡ [])
        → Stored n (i ∷ is) (block_of_cue i b ++ bs) cues regions styles
        → Stored (with_item (item_is i) n) is bs (cues_with s (item_is i) (line_span b) n regions cues) (regions_with (item_is i) n regions) (styles_with (item_is i) n styles)
    unfolding listed into any_over item_over is_cue block_of_cue cue_rows region_rows style_rows
    store nothing only st =
        record { within = st.within; stand = st.stand.1; cues_full = st.cues_full; regions_full = st.regions_full; styles_full = st.styles_full }
    store (cue c over) only st =
        let entry : entry_of s (take n.regions regions) (cue_is c) ≡ entry_is all_regions c =
        ap (λ rows. entry_of s rows (cue_is c)) (regions-stored (only refl) st.regions_full) ∙ entry_is_lem s all_regions c (lists_stand s).regions st.stand.0 in
        let whole = stored_cues s in
        let left = rows_of (listed is).cues bs in
        rw (or_first over (any_over is) st.within)
        (record {
          within = or_second over (any_over is) st.within;
          stand = st.stand.1;
          cues_full =
              subst (λ e. Fills whole cues₀ (set cues n.cues (cue_words e (line_span b))) left (n.cues + 1)) (sym entry)
              (fills_next whole cues₀ fits.cues cues n.cues (cue_words (entry_is all_regions c) (line_span b)) left st.cues_full);
          regions_full = st.regions_full;
          styles_full = st.styles_full;
        })
    store (style t) only st =
        record {
          within = st.within;
          stand = st.stand.1;
          cues_full = st.cues_full;
          regions_full = st.regions_full;
          styles_full = fills_next (style_rows (lists s).styles) styles₀ fits.styles styles n.styles (style_words (span_is t)) (style_rows (listed is).styles) st.styles_full;
        }
    store (region r over) only st =
        rw (or_first over (any_over is) st.within)
        (record {
          within = or_second over (any_over is) st.within;
          stand = st.stand.1;
          cues_full = st.cues_full;
          regions_full = fills_next (region_rows all_regions) regions₀ fits.regions regions n.regions (region_words (region_is r)) (region_rows (listed is).regions) st.regions_full;
          styles_full = st.styles_full;
        })

  -- the blocks from a place on are to come
  pub record Filled (at : ℕ) (n : Counts) (cues regions styles : List (List ℕ)) : Type 0 where
    pub inside : at ≤ length s
    pub cues-most : n.cues ≤ at
    pub regions-most : n.regions ≤ at
    pub styles-most : n.styles ≤ at
    pub stored : Stored n (items_from (ltb 0 n.cues) (fresh s at)) (cue_blocks_from (ltb 0 n.cues) (fresh s at)) cues regions styles

  pub fill_start :
      (from : ℕ)
      → from ≤ length s
      → blocks s ≡ fresh s from
      → any_over (items s) ≡ false
      → Filled from (record { cues = 0; regions = 0; styles = 0 }) cues₀ regions₀ styles₀
  unfolding items lists stored_cues line_spans cue_blocks
  fill_start from l e w =
      record {
        inside = l;
        cues-most = omega arith;
        regions-most = omega arith;
        styles-most = omega arith;
        stored =
            rw (sym e)
            (record {
              within = w;
              stand = items_stand s false (blocks s) (blocks_follow s);
              cues_full = fills_start (stored_cues s) cues₀;
              regions_full = fills_start (region_rows all_regions) regions₀;
              styles_full = fills_start (style_rows (lists s).styles) styles₀;
            });
      }

  module _ (at : ℕ) (b : Block) (next : NextAt s at b) (n : Counts) (cues regions styles : List (List ℕ)) (f : Filled at n cues regions styles) (fits : Fits s cues₀ regions₀ styles₀) where
    abbrev seen : Bool
    seen = ltb 0 n.cues

    abbrev item : Item
    item = meaning_at seen s b

    abbrev beyond : List Item
    beyond = items_from (seen || is_cue item) (fresh s b.stop.at)

    abbrev block : List Line
    block = next.block.lines

    abbrev later_cues : List (List Line)
    later_cues = cue_blocks_from (seen || is_cue item) (fresh s b.stop.at)

    now_stored : Stored n (item ∷ beyond) (block_of_cue item block ++ later_cues) cues regions styles
    now_stored = rw (items-next s at b seen next, cues-next s at b seen next) at f.stored

    only : is_cue item ≡ true → (listed beyond).regions ≡ []
    only y = rw (y, or_true seen) (no_regions-after (fresh s b.stop.at))

    within : item_over item ≡ false
    unfolding any_over
    within = or_first (item_over item) (any_over beyond) now_stored.within

    pub fill_room : RoomFor (item_is item) n (length cues) (length regions) (length styles)
    fill_room = room fits n beyond block later_cues cues regions styles item now_stored

    pub fill_next :
        (lines : LineSpan)
        → lines ≡ line_span block
        → Filled b.stop.at (with_item (item_is item) n) (cues_with s (item_is item) lines n regions cues) (regions_with (item_is item) n regions) (styles_with (item_is item) n styles)
    fill_next lines e =
        let far = moves s at b next in
        let most = with_most (item_is item) n in
        record {
          inside = next.block.inside;
          cues-most = omega (arith, far, most.0, f.cues-most);
          regions-most = omega (arith, far, most.1, f.regions-most);
          styles-most = omega (arith, far, most.2, f.styles-most);
          stored = rw (e, seen_next n item within) (store fits n beyond block later_cues cues regions styles item only now_stored);
        }

  -- the tables when no block is left
  module _ (fits : Fits s cues₀ regions₀ styles₀) (at : ℕ) (n : Counts) (cues regions styles : List (List ℕ)) (f : Filled at n cues regions styles) (none : fresh s at ≡ []) where
    pub fill_end :
        (cues ≡ placed (stored_cues s) cues₀)
        × (regions ≡ placed (region_rows all_regions) regions₀)
        × (styles ≡ placed (style_rows (lists s).styles) styles₀)
    unfolding placed items_from listed cue_blocks_from cue_rows region_rows style_rows
    fill_end =
        let st : Stored n [] [] cues regions styles = rw none at f.stored in (
          fills_end (stored_cues s) cues₀ fits.cues cues n.cues st.cues_full,
          fills_end (region_rows all_regions) regions₀ fits.regions regions n.regions st.regions_full,
          fills_end (style_rows (lists s).styles) styles₀ fits.styles styles n.styles st.styles_full,
        )

pub fits_of :
    (s : List ℕ) (cues₀ regions₀ styles₀ : List (List ℕ))
    → length (lists s).cues ≤ length cues₀
    → length (lists s).regions ≤ length regions₀
    → length (lists s).styles ≤ length styles₀
    → Fits s cues₀ regions₀ styles₀
unfolding region_rows style_rows
fits_of s cues₀ regions₀ styles₀ a b c =
    record {
      cues = rw (stored-length s) a;
      regions = rw (length-map (lists s).regions (λ r. region_words (region_is r))) b;
      styles = rw (length-map (lists s).styles (λ t. style_words (span_is t))) c;
    }

-- no table's length has changed
pub fill_lengths :
    (s : List ℕ) (cues₀ regions₀ styles₀ : List (List ℕ)) (at : ℕ) (n : Counts) (cues regions styles : List (List ℕ))
    → Fits s cues₀ regions₀ styles₀
    → Filled s cues₀ regions₀ styles₀ at n cues regions styles
    → (length cues ≡ length cues₀) × (length regions ≡ length regions₀) × (length styles ≡ length styles₀)
fill_lengths s cues₀ regions₀ styles₀ at n cues regions styles fits f =
    let st = f.stored in
    let seen = ltb 0 n.cues in
    let left = listed (items_from seen (fresh s at)) in (
      fills_room (stored_cues s) cues₀ fits.cues cues n.cues (rows_of s cues₀ regions₀ styles₀ left.cues (cue_blocks_from seen (fresh s at))) st.cues_full,
      fills_room (region_rows (lists s).regions) regions₀ fits.regions regions n.regions (region_rows left.regions) st.regions_full,
      fills_room (style_rows (lists s).styles) styles₀ fits.styles styles n.styles (style_rows left.styles) st.styles_full,
    )
