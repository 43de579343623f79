-- Where the block of a cue stands among a text's lines, and what the text with another cue's lines in their place reads as.
use Prim.Native.Nat.{ℕ, zero, suc, ◌+◌, ◌-◌, ◌≤◌, ◌<◌}
use mathlib.Core.Path.{◌≡◌, refl, sym, ap, ap₂, subst, subst₂, ◌∙◌}
use mathlib.Core.Bool.{Bool, true, false, not, ◌&&◌, ◌||◌, true≢false, false≢true}
use mathlib.Core.List.{List, [], ◌∷◌, ◌++◌, map, append_assoc}
use native.Mathlib.Omega.{arith}
use lib.Dec.{eqb, ltb}
use lib.ListN.{length, get_or, set, take, drop, length-append}
use lib.Seq.{take_at, drop_at, get_or-append-add}
use borrow.Author.Tests.{eqb-true, ltb-true, ltb-false, not-false}
use Rattle.format.specs.Bytes.{ascii, lf}
use Rattle.format.specs.Texts.{starts_with, is_empty}
use Rattle.format.specs.Lines.{split_list_at, split, on_first, before}
use Rattle.format.specs.Blocks.{Line, has_signature, lines_at, between, header, inside, stops, collected, blocks_from}
use Rattle.format.specs.Blocks.{after_signature, blocks, bytes_of}
use Rattle.format.specs.Lists.{Cue, Item, nothing, cue, style, region, meaning, is_cue, items_from, items, into, listed, lists, item_over, any_over}
use Rattle.format.specs.Contents.{CueContents, RegionContents, cue_contents, contents}
use Rattle.format.specs.Written.{written_timing, lines_of, cue_lines}
use Rattle.format.specs.LineNumbers.{block_of_cue, cue_blocks_from, cue_blocks, first_number}
use Rattle.format.specs.Replacing.{first_line, line_up_to, with_cue}
use Rattle.laws.proofs.Tests.{and_left, or_first, or_second, by-test}
use Rattle.laws.proofs.Lines.{Split, splits}
use Rattle.laws.proofs.Standing.{bytes_append, bytes-lines, length-bytes}
use Rattle.laws.proofs.Blocks.{state_after}
use Rattle.laws.proofs.Lists.{succeeded, items_append}
use Rattle.laws.proofs.LineNumbers.{cues-into}
use Rattle.roundtrip.proofs.Cues.{CueWritable, timing_arrow}
use Rattle.roundtrip.proofs.Files.{cue_read, ids-contents, cue_blocks_lem}
use Rattle.replaced.proofs.Places.{contents_placed, over_placed}
use Rattle.replaced.proofs.OneBlock.{Stop, Begun, begun, stops_timed, blocks_with, gap_before, timed_once, written-begins}

-- an item that is a cue
pub record IsCue (i : Item) : Type 0 where
  pub values : Cue
  pub over : Bool
  pub is : i ≡ cue values over

-- a block is the block of a cue or of none
one-cue : (b : List Line) (i : Item) (k : ℕ) → k < length (block_of_cue i b) → (k ≡ 0) × IsCue i
unfolding block_of_cue is_cue
one-cue b nothing k h = absurd (omega arith)
one-cue b (cue c over) k h = (omega arith, record { values = c; over = over; is = refl })
one-cue b (style text) k h = absurd (omega arith)
one-cue b (region r over) k h = absurd (omega arith)

-- the block that gives the k-th cue, among all blocks
record CueAt (seen : Bool) (bs : List (List Line)) (k : ℕ) : Type 0 where
  earlier : List (List Line)
  block : List Line
  later : List (List Line)
  is : bs ≡ earlier ++ block ∷ later
  found : get_or (cue_blocks_from seen bs) k [] ≡ block
  count : length (listed (items_from seen earlier)).cues ≡ k
  gives : IsCue (meaning (succeeded seen earlier) block)

module _ (seen : Bool) (b : List Line) (bs : List (List Line)) where
  abbrev first : Item
  first = meaning seen b

  cue-here : IsCue first → CueAt seen (b ∷ bs) 0
  unfolding cue_blocks_from block_of_cue is_cue items_from listed succeeded
  cue-here c = record { earlier = []; block = b; later = bs; is = refl; found = rw c.is; count = refl; gives = c }

  cue-after : (k : ℕ) → CueAt (seen || is_cue first) bs k → CueAt seen (b ∷ bs) (length (block_of_cue first b) + k)
  unfolding cue_blocks_from items_from listed succeeded
  cue-after k h =
      record {
        earlier = b ∷ h.earlier;
        block = h.block;
        later = h.later;
        is = ap (λ r. b ∷ r) h.is;
        found = get_or-append-add (block_of_cue first b) (cue_blocks_from (seen || is_cue first) bs) k [] ∙ h.found;
        count =
            cues-into b first (listed (items_from (seen || is_cue first) h.earlier))
            ∙ ap (λ n. length (block_of_cue first b) + n) h.count;
        gives = h.gives;
      }

  cue_step :
      (k : ℕ)
      → k < length (into first (listed (items_from (seen || is_cue first) bs))).cues
      → ((k : ℕ) → k < length (listed (items_from (seen || is_cue first) bs)).cues → CueAt (seen || is_cue first) bs k)
      → CueAt seen (b ∷ bs) k
  cue_step k h again =
      let n = length (block_of_cue first b) in
      by-test (ltb k n)
      (λ y. let c = one-cue b first k (ltb-true k n y) in rw c.0 (cue-here c.1))
      (λ y. let few = ltb-false k n y in
      let e : k ≡ n + (k - n) = omega arith in
      rw e (cue-after (k - n) (again (k - n) (omega (arith, cues-into b first (listed (items_from (seen || is_cue first) bs)))))))

cue_at : (seen : Bool) (bs : List (List Line)) (k : ℕ) → k < length (listed (items_from seen bs)).cues → CueAt seen bs k
unfolding items_from listed
cue_at seen [] k h = absurd (omega arith)
cue_at seen (b ∷ bs) k h = cue_step seen b bs k h (cue_at (seen || is_cue (meaning seen b)) bs)

-- the lists with another cue in one place
listed-set :
    (is js : List Item) (c d : Cue) (o p : Bool)
    → let l = listed (is ++ cue c o ∷ js) in
    listed (is ++ cue d p ∷ js) ≡ record { cues = set l.cues (length (listed is).cues) d; regions = l.regions; styles = l.styles }
unfolding listed into
listed-set [] js c d o p = refl
listed-set (nothing ∷ is) js c d o p = listed-set is js c d o p
listed-set (cue e over ∷ is) js c d o p = ap (into (cue e over)) (listed-set is js c d o p)
listed-set (style text ∷ is) js c d o p = ap (into (style text)) (listed-set is js c d o p)
listed-set (region r over ∷ is) js c d o p = ap (into (region r over)) (listed-set is js c d o p)

map-set : {A B : Type 0} (f : A → B) (xs : List A) (k : ℕ) (a : A) → map f (set xs k a) ≡ set (map f xs) k (f a)
map-set f [] k a = refl
map-set f (x ∷ xs) zero a = refl
map-set f (x ∷ xs) (suc k) a = ap (λ r. f x ∷ r) (map-set f xs k a)

contents-set :
    (is js : List Item) (c d : Cue) (o p : Bool)
    → let l = listed (is ++ cue c o ∷ js) in
    contents (listed (is ++ cue d p ∷ js)) ≡ with_cue (length (listed is).cues) (cue_contents l.regions d) (contents l)
unfolding contents with_cue
contents-set is js c d o p =
    let l = listed (is ++ cue c o ∷ js) in
    ap contents (listed-set is js c d o p) ∙ rw (map-set (cue_contents l.regions) l.cues (length (listed is).cues) d)

over-set : (is js : List Item) (c d : Cue) (o : Bool) → any_over (is ++ cue c o ∷ js) ≡ false → any_over (is ++ cue d false ∷ js) ≡ false
unfolding any_over item_over
over-set [] js c d o e = or_second o (any_over js) e
over-set (i ∷ is) js c d o e =
    rw (or_first (item_over i) (any_over (is ++ cue c o ∷ js)) e)
    (over-set is js c d o (or_second (item_over i) (any_over (is ++ cue c o ∷ js)) e))

-- the items of blocks of which one gives a cue
items-cue :
    (seen : Bool) (bs : List (List Line)) (b : List Line) (cs : List (List Line)) (c : Cue) (o : Bool)
    → meaning (succeeded seen bs) b ≡ cue c o
    → items_from seen (bs ++ b ∷ cs) ≡ items_from seen bs ++ cue c o ∷ items_from (succeeded seen bs || true) cs
unfolding items_from is_cue
items-cue seen bs b cs c o e = items_append seen bs (b ∷ cs) ∙ rw e

-- the number of a line among a text's lines
number_at :
    (n p : ℕ) (ls : List (List ℕ)) (xs : List Line) (l : Line) (ys : List Line)
    → lines_at n p ls ≡ xs ++ l ∷ ys
    → l.number ≡ n + length xs
unfolding lines_at
number_at n p [] [] l ys e = cc
number_at n p [] (x ∷ xs) l ys e = cc
number_at n p (k ∷ ls) [] l ys e = let m : l.number ≡ n = cc in omega arith
number_at n p (k ∷ ls) (x ∷ xs) l ys e = omega (arith, number_at (suc n) (p + suc (length k)) ls xs l ys (cc))

-- the lines around the block of a cue: the signature's line, those before the block, the block's own and those after it; and the blocks
-- before and after it
pub record Around (s : List ℕ) (number : ℕ) : Type 0 where
  pub title : List ℕ
  pub xs : List Line
  pub first : Line
  pub others : List Line
  pub ys : List Line
  pub lines : lines_at 0 0 (split s) ≡ record { number = 0; place = 0; bytes = title } ∷ (xs ++ (first ∷ (others ++ ys)))
  pub block : get_or (cue_blocks s) number [] ≡ first ∷ others
  pub counted : first.number ≡ suc (length xs)
  pub begins : stops (state_after header xs) first ≡ true
  pub full : is_empty first.bytes ≡ false
  pub ends : Stop (inside (first ∷ others)) ys
  pub divides : blocks s ≡ blocks_from header xs ++ (first ∷ others) ∷ blocks_from between ys
  pub count : length (listed (items_from false (blocks_from header xs))).cues ≡ number
  pub gives : IsCue (meaning (succeeded false (blocks_from header xs)) (first ∷ others))

around_of :
    (s : List ℕ) (number : ℕ) (t : Split s) (a : CueAt false (blocks s) number)
    → Begun header (lines_at 1 (0 + suc (length t.first)) t.rest) a.earlier a.block a.later
    → Around s number
unfolding lines_at cue_blocks
around_of s number t a g =
    let r = g.rest in
    record {
      title = t.first;
      xs = g.xs;
      first = g.first;
      others = r.more;
      ys = r.ys;
      lines =
          ap (lines_at 0 0) t.is
          ∙ ap (λ k. record { number = 0; place = 0; bytes = t.first } ∷ k) (g.lines ∙ ap (λ k. g.xs ++ g.first ∷ k) r.lines);
      block = a.found ∙ r.is;
      counted = omega (arith, number_at 1 (0 + suc (length t.first)) t.rest g.xs g.first g.others g.lines);
      begins = g.begins;
      full = g.full;
      ends = subst (λ b. Stop (inside b) r.ys) r.is r.ends;
      divides = a.is ∙ ap₂ (λ x y. x ++ y) (sym g.earlier) (ap₂ (λ x y. x ∷ y) r.is (sym r.later));
      count = ap (λ x. length (listed (items_from false x)).cues) g.earlier ∙ a.count;
      gives = subst₂ (λ x b. IsCue (meaning (succeeded false x) b)) (sym g.earlier) r.is a.gives;
    }

pub around : (s : List ℕ) (number : ℕ) → number < length (lists s).cues → Around s number
unfolding lists items blocks lines_at after_signature collected
around s number h =
    let t = splits s in
    let rest = lines_at 1 (0 + suc (length t.first)) t.rest in
    let a = cue_at false (blocks s) number h in
    let e : blocks_from header rest ≡ blocks s = sym (ap (λ k. after_signature (lines_at 0 0 k)) t.is) in
    around_of s number t a (begun a.block a.later header rest a.earlier (e ∙ a.is) (omega arith))

-- where the block of a cue stands among the lines
pub record CueBlock (s : List ℕ) (number : ℕ) : Type 0 where
  pub after_first_lem : 0 < first_line s number
  pub some : 0 < length (get_or (cue_blocks s) number [])
  pub inside : first_line s number + length (get_or (cue_blocks s) number []) ≤ length (split s)

module _ (s : List ℕ) (number : ℕ) (a : Around s number) where
  pub first_line_lem : first_line s number ≡ suc (length a.xs)
  unfolding first_line first_number
  first_line_lem = ap first_number a.block ∙ a.counted

  pub block-length : length (get_or (cue_blocks s) number []) ≡ suc (length a.others)
  block-length = ap length a.block

  -- the text's lines: up to the block, the block's and those after it
  abbrev pub front_lines : List (List ℕ)
  front_lines = a.title ∷ bytes_of a.xs

  abbrev pub own-lines : List (List ℕ)
  own-lines = bytes_of (a.first ∷ a.others)

  pub lines_around : split s ≡ front_lines ++ (own-lines ++ bytes_of a.ys)
  unfolding bytes_of
  lines_around =
      sym (bytes-lines 0 0 (split s))
      ∙ ap bytes_of a.lines
      ∙ ap (λ r. a.title ∷ r)
      (bytes_append a.xs (a.first ∷ (a.others ++ a.ys)) ∙ ap (λ r. bytes_of a.xs ++ a.first.bytes ∷ r) (bytes_append a.others a.ys))

  pub lines-before : take (first_line s number) (split s) ≡ front_lines
  lines-before =
      rw lines_around
      (take_at front_lines (own-lines ++ bytes_of a.ys) (first_line s number) (omega (arith, first_line_lem, length-bytes a.xs)))

  pub lines_after : drop (first_line s number + length (get_or (cue_blocks s) number [])) (split s) ≡ bytes_of a.ys
  lines_after =
      let n = length-append front_lines own-lines in
      let bytes = length-bytes (a.first ∷ a.others) in
      rw (lines_around, ← append_assoc front_lines own-lines (bytes_of a.ys))
      (drop_at (front_lines ++ own-lines) (bytes_of a.ys) (first_line s number + length (get_or (cue_blocks s) number []))
      (omega (arith, first_line_lem, block-length, length-bytes a.xs)))

  lines-inside : first_line s number + length (get_or (cue_blocks s) number []) ≤ length (split s)
  lines-inside =
      let n = length-append front_lines (own-lines ++ bytes_of a.ys) in
      let m = length-append own-lines (bytes_of a.ys) in
      let bytes = length-bytes (a.first ∷ a.others) in
      omega (arith, ap length lines_around, first_line_lem, block-length, length-bytes a.xs)

pub cue-block_at : (s : List ℕ) (number : ℕ) → number < length (lists s).cues → CueBlock s number
cue-block_at s number h =
    let a = around s number h in
    record {
      after_first_lem = omega (arith, first_line_lem s number a);
      some = omega (arith, block-length s number a);
      inside = lines-inside s number a;
    }

-- the signature's line is not empty
signature_line : (s l : List ℕ) (ls : List (List ℕ)) → has_signature s ≡ true → split s ≡ l ∷ ls → is_empty l ≡ false
unfolding has_signature starts_with split_list_at before on_first is_empty
signature_line [] l ls h e = absurd (false≢true h)
signature_line (b ∷ s) l ls h e =
    let t = splits s in
    let w : b ≡ 0x57 = eqb-true b 0x57 (and_left (eqb b 0x57) _ (and_left (starts_with (ascii "WEBVTT") (b ∷ s)) _ h)) in
    let n : eqb b lf ≡ false = rw w in
    let f : (b ∷ t.first) ∷ t.rest ≡ l ∷ ls = rw (n, t.is) at e in
    let one : b ∷ t.first ≡ l = cc in
    ap is_empty (sym one)

-- a text whose lines are those of another with the lines of one cue replaced by those of a writable cue
pub record Reads (s t : List ℕ) (number : ℕ) (asked : CueContents) : Type 0 where
  pub same : contents (lists t) ≡ with_cue number asked (contents (lists s))
  pub within : any_over (items t) ≡ false

module _ (s : List ℕ) (number : ℕ) (asked : CueContents) (a : Around s number) where
  abbrev pub rs : List RegionContents
  rs = (contents (lists s)).regions

  abbrev new : List Line
  new = lines_at 0 0 (cue_lines rs asked)

  -- the lines with the new ones in the place of the block's
  abbrev placed : List Line
  placed = record { number = 0; place = 0; bytes = a.title } ∷ (a.xs ++ (new ++ a.ys))

  placed_bytes :
      bytes_of placed
      ≡ take (first_line s number) (split s)
      ++ cue_lines rs asked
      ++ drop (first_line s number + length (get_or (cue_blocks s) number [])) (split s)
  unfolding bytes_of
  placed_bytes =
      rw (lines-before s number a, lines_after s number a, append_assoc (front_lines s number a) (cue_lines rs asked) (bytes_of a.ys))
      (rw (bytes_append a.xs (new ++ a.ys), bytes_append new a.ys, bytes-lines 0 0 (cue_lines rs asked)))

  -- the line before the block is empty where an identifier is to come
  pub block_gap :
      has_signature s ≡ true
      → not (is_empty asked.id) && not (is_empty (line_up_to s number)) ≡ false
      → is_empty asked.id ≡ false
      → state_after header a.xs ≡ between
  unfolding line_up_to bytes_of
  block_gap signed g f =
      let rest = own-lines s number a ++ bytes_of a.ys in
      let around = lines_around s number a in
      let full = signature_line s a.title (bytes_of a.xs ++ rest) signed around in
      let n : first_line s number - 1 ≡ length a.xs = omega (arith, first_line_lem s number a) in
      let empty : is_empty (line_up_to s number) ≡ true = not-false (is_empty (line_up_to s number)) (rw f at g) in
      gap_before header a.title a.xs rest (λ y. absurd (true≢false (sym y ∙ full))) (rw (n, around) at empty)

  abbrev pub earlier : List (List Line)
  earlier = blocks_from header a.xs

  abbrev later : List (List Line)
  later = blocks_from between a.ys

  -- they divide as the old ones do, whatever numbers and places they have
  pub blocks_around :
      (n p : ℕ) (ys : List Line)
      → CueWritable rs asked
      → (is_empty asked.id ≡ false → state_after header a.xs ≡ between)
      → Stop (inside (a.first ∷ a.others)) ys
      → blocks_from header (a.xs ++ (lines_at n p (cue_lines rs asked) ++ ys)) ≡ earlier ++ lines_at n p (cue_lines rs asked) ∷ blocks_from between ys
  unfolding cue_lines
  blocks_around n p ys w gap ends =
      blocks_with header a.xs n p (cue_lines rs asked) ys (cue_blocks_lem rs asked w).closed
      (written-begins (state_after header a.xs) a.first n p rs asked ys a.begins a.full gap)
      (stops_timed (a.first ∷ a.others) (lines_at n p (cue_lines rs asked)) ys
      (timed_once n p (lines_of asked.id) (written_timing rs asked) (lines_of asked.text) (timing_arrow rs asked))
      ends)

  placed_blocks :
      CueWritable rs asked
      → (is_empty asked.id ≡ false → state_after header a.xs ≡ between)
      → after_signature placed ≡ earlier ++ new ∷ later
  unfolding after_signature
  placed_blocks w gap = blocks_around 0 0 a.ys w gap a.ends

  -- a text of these lines
  reads :
      (t : List ℕ)
      → bytes_of placed ≡ split t
      → after_signature placed ≡ earlier ++ new ∷ later
      → CueWritable rs asked
      → any_over (items s) ≡ false
      → Reads s t number asked
  unfolding contents lists items
  reads t bytes divides w over =
      let seen = succeeded false earlier in
      let is = items_from false earlier in
      let js = items_from (seen || true) later in
      let c = a.gives in
      let old = ap (items_from false) a.divides ∙ items-cue false earlier (a.first ∷ a.others) later c.values c.over c.is in
      let l = listed (is ++ cue c.values c.over ∷ js) in
      let was : contents (lists s) ≡ contents l = ap (λ i. contents (listed i)) old in
      let names = ids-contents l.regions ∙ ap (λ k. map (λ r. r.id) k.regions) (sym was) in
      let d = cue_read rs l.regions seen asked names w in
      let now = ap (items_from false) divides ∙ items-cue false earlier new later d.values false d.is in
      record {
        same =
            contents_placed t placed bytes
            ∙ ap (λ i. contents (listed i)) now
            ∙ contents-set is js c.values d.values c.over false
            ∙ ap (λ n. with_cue n (cue_contents l.regions d.values) (contents l)) a.count
            ∙ ap (λ k. with_cue number k (contents l)) d.same
            ∙ ap (with_cue number asked) (sym was);
        within =
            over_placed t placed bytes
            ∙ ap any_over now
            ∙ over-set is js c.values d.values c.over (sym (ap any_over old) ∙ over);
      }

-- the lines of a text t are those of another with the written lines of a cue in the place of one cue's own
abbrev pub LinesReplaced : List ℕ → List ℕ → ℕ → CueContents → Type 0
LinesReplaced s t number asked =
    split t
    ≡ take (first_line s number) (split s)
    ++ cue_lines (contents (lists s)).regions asked
    ++ drop (first_line s number + length (get_or (cue_blocks s) number [])) (split s)

-- (without the signature, an empty first line may stand right before the block, and an identifier would go into the header block)
pub lines_read :
    (s t : List ℕ) (number : ℕ) (asked : CueContents)
    → has_signature s ≡ true
    → number < length (lists s).cues
    → any_over (items s) ≡ false
    → CueWritable (contents (lists s)).regions asked
    → not (is_empty asked.id) && not (is_empty (line_up_to s number)) ≡ false
    → LinesReplaced s t number asked
    → Reads s t number asked
lines_read s t number asked signed h over w gap e =
    let a = around s number h in
    reads s number asked a t (placed_bytes s number asked a ∙ sym e)
    (placed_blocks s number asked a w (block_gap s number asked a signed gap)) w over
