-- The lines of a text's cues where another cue's lines stand in the place of one: only the cues after it move.
use Prim.Native.Nat.{ℕ, suc, ◌+◌, ◌<◌}
use mathlib.Core.Path.{◌≡◌, refl, sym, ap, ap₂, ◌∙◌}
use mathlib.Core.Bool.{Bool, true, false, not, ◌&&◌, ◌||◌}
use mathlib.Core.List.{List, [], ◌∷◌, ◌++◌, map, map-append, append_assoc}
use native.Mathlib.Omega.{arith}
use lib.ListN.{length, get_or, drop, length-append, length-map}
use lib.Seq.{take_at, drop_at, get_or_at, split_at, append_snoc}
use Rattle.format.specs.Texts.{is_empty}
use Rattle.format.specs.Lines.{split}
use Rattle.format.specs.Blocks.{Line, has_signature, lines_at, between, header, inside, blocks_from, after_signature, blocks, bytes_of}
use Rattle.format.specs.Lists.{meaning, is_cue, lists}
use Rattle.format.specs.LineNumbers.{block_of_cue, cue_blocks_from, cue_blocks, first_number, line_span, line_spans, span_at, later, LinesMoved}
use Rattle.format.specs.declared.rows.LineSpan.{LineSpan}
use Rattle.format.specs.Contents.{CueContents, contents}
use Rattle.format.specs.Written.{lines_of, line_ended, cue_lines}
use Rattle.format.specs.Replacing.{line_up_to}
use Rattle.laws.proofs.Tests.{or_true, by-test}
use Rattle.laws.proofs.Standing.{bytes-lines, length-bytes}
use Rattle.laws.proofs.Blocks.{state_after}
use Rattle.laws.proofs.Lists.{succeeded}
use Rattle.laws.proofs.Contents.{is_cue_unplaced}
use Rattle.laws.proofs.LineNumbers.{blocks_of_cues}
use Rattle.laws.proofs.Rows.{lines-length}
use Rattle.roundtrip.proofs.Shape.{lines_append}
use Rattle.roundtrip.proofs.Cues.{CueWritable}
use Rattle.roundtrip.proofs.Files.{cue_read, ids-contents}
use Rattle.replaced.proofs.Places.{moved_line, moved_lines, blocks_moved, unplaced_same}
use Rattle.replaced.proofs.OneBlock.{stop_anywhere}
use Rattle.replaced.proofs.CueBlocks.{Around, around, front_lines, lines-before, lines_after, LinesReplaced, block_gap, blocks_around}

-- lines k numbers later
abbrev later_line : ℕ → Line → Line
later_line k = moved_line (λ l. l.number + k) (λ l. 0)

abbrev later_lines : ℕ → List Line → List Line
later_lines k = moved_lines (λ l. l.number + k) (λ l. 0)

-- whether a block gives a cue is said by its lines' bytes
cue_anywhere : (seen : Bool) (b c : List Line) → bytes_of b ≡ bytes_of c → is_cue (meaning seen b) ≡ is_cue (meaning seen c)
cue_anywhere seen b c e = sym (is_cue_unplaced seen b) ∙ ap (λ u. is_cue (meaning seen u)) (unplaced_same b c e) ∙ is_cue_unplaced seen c

bytes-later : (k : ℕ) (ls : List Line) → bytes_of (later_lines k ls) ≡ bytes_of ls
unfolding bytes_of
bytes-later k [] = refl
bytes-later k (l ∷ ls) = ap (λ r. l.bytes ∷ r) (bytes-later k ls)

-- the cue of a block k lines later has its lines k lines later, and an empty block gives none
one_later :
    (k : ℕ) (seen : Bool) (b : List Line)
    → map line_span (block_of_cue (meaning seen (later_lines k b)) (later_lines k b)) ≡ map (later k) (map line_span (block_of_cue (meaning seen b) b))
unfolding block_of_cue meaning is_cue line_span first_number later
one_later k seen [] = refl
one_later k seen (l ∷ ls) =
    let same = cue_anywhere seen (later_lines k (l ∷ ls)) (l ∷ ls) (bytes-later k (l ∷ ls)) in
    by-test (is_cue (meaning seen (l ∷ ls)))
    (λ y. let n : suc l.number + k ≡ suc (l.number + k) = omega arith in rw (same, y, length-map ls (later_line k), n))
    (λ n. rw (same, n))

-- so it is with all of them
spans_later :
    (k : ℕ) (seen : Bool) (bs : List (List Line))
    → map line_span (cue_blocks_from seen (map (later_lines k) bs)) ≡ map (later k) (map line_span (cue_blocks_from seen bs))
unfolding cue_blocks_from
spans_later k seen [] = refl
spans_later k seen (b ∷ bs) =
    let same = cue_anywhere seen (later_lines k b) b (bytes-later k b) in
    simp (map-append, same, one_later k seen b, spans_later k (seen || is_cue (meaning seen b)) bs)

-- lines whose numbers differ, moved so that they are the same
lines-later :
    (n p m q j k : ℕ) (ls : List (List ℕ)) → n + j ≡ m + k → later_lines j (lines_at n p ls) ≡ later_lines k (lines_at m q ls)
unfolding lines_at
lines-later n p m q j k [] e = refl
lines-later n p m q j k (l ∷ ls) e = rw (e, lines-later (suc n) (p + suc (length l)) (suc m) (q + suc (length l)) j k ls (omega arith))

-- so their cues' lines differ by the same
abbrev spans_of : Bool → List Line → List LineSpan
spans_of seen ls = map line_span (cue_blocks_from seen (blocks_from between ls))

spans_moving : (k : ℕ) (seen : Bool) (ls : List Line) → spans_of seen (later_lines k ls) ≡ map (later k) (spans_of seen ls)
spans_moving k seen ls =
    ap (λ bs. map line_span (cue_blocks_from seen bs)) (blocks_moved (λ l. l.number + k) (λ l. 0) ls) ∙ spans_later k seen (blocks_from between ls)

spans_apart :
    (n p m q j k : ℕ) (seen : Bool) (ls : List (List ℕ))
    → n + j ≡ m + k
    → map (later j) (spans_of seen (lines_at n p ls)) ≡ map (later k) (spans_of seen (lines_at m q ls))
spans_apart n p m q j k seen ls e =
    sym (spans_moving j seen (lines_at n p ls))
    ∙ ap (spans_of seen) (lines-later n p m q j k ls e)
    ∙ spans_moving k seen (lines_at m q ls)

-- the blocks of cues where one block gives a cue
cues_around :
    (seen : Bool) (bs : List (List Line)) (b : List Line) (cs : List (List Line))
    → is_cue (meaning (succeeded seen bs) b) ≡ true
    → cue_blocks_from seen (bs ++ b ∷ cs) ≡ cue_blocks_from seen bs ++ b ∷ cue_blocks_from true cs
unfolding cue_blocks_from block_of_cue succeeded
cues_around seen [] b cs e = rw (e, or_true seen)
cues_around seen (a ∷ bs) b cs e =
    let i = meaning seen a in
    rw (cues_around (seen || is_cue i) bs b cs e, append_assoc (block_of_cue i a))

spans_around :
    (s : List ℕ) (bs : List (List Line)) (b : List Line) (cs : List (List Line))
    → blocks s ≡ bs ++ b ∷ cs
    → is_cue (meaning (succeeded false bs) b) ≡ true
    → line_spans s ≡ map line_span (cue_blocks_from false bs) ++ line_span b ∷ map line_span (cue_blocks_from true cs)
unfolding line_spans cue_blocks
spans_around s bs b cs e i =
    ap (λ bs. map line_span (cue_blocks_from false bs)) e
    ∙ ap (map line_span) (cues_around false bs b cs i)
    ∙ map-append line_span (cue_blocks_from false bs) (b ∷ cue_blocks_from true cs)

-- numbered lines in two parts: each part's lines have the numbers that the part's bytes give
record Parted (n p : ℕ) (xs ys : List Line) : Type 0 where
  front : lines_at n p (bytes_of xs) ≡ xs
  place : ℕ
  back : lines_at (n + length xs) place (bytes_of ys) ≡ ys

parted : (n p : ℕ) (ls : List (List ℕ)) (xs ys : List Line) → lines_at n p ls ≡ xs ++ ys → Parted n p xs ys
unfolding lines_at bytes_of
parted n p ls [] ys e =
    let z : n + 0 ≡ n = omega arith in
    record { front = refl; place = p; back = rw (z, ← e, bytes-lines n p ls) }
parted n p [] (x ∷ xs) ys e = let z : ◌≡◌ {A = ℕ} 0 1 = cc in absurd (omega arith)
parted n p (l ∷ ls) (x ∷ xs) ys e =
    let bytes : l ≡ x.bytes = cc in
    let first : record { number = n; place = p; bytes = x.bytes } ≡ x = cc in
    let r = parted (suc n) (p + suc (length x.bytes)) ls xs ys (cc) in
    let z : n + suc (length xs) ≡ suc n + length xs = omega arith in
    record { front = ap₂ (λ l ls. l ∷ ls) first r.front; place = r.place; back = rw z r.back }

-- the lines of cues, of which one has others in its place
moved :
    (number lines : ℕ) (before : List LineSpan) (l : LineSpan) (after more : List LineSpan)
    → length before ≡ number
    → map (later l.count) more ≡ map (later lines) after
    → LinesMoved number lines (before ++ l ∷ after) (before ++ record { first = l.first; count = lines } ∷ more)
unfolding span_at
moved number lines before l after more n e =
    let past : (m : LineSpan) (ms : List LineSpan) → drop (suc number) (before ++ m ∷ ms) ≡ ms =
    λ m ms. ap (drop (suc number)) (sym (append_snoc before m ms))
    ∙ drop_at (before ++ m ∷ []) ms (suc number) (omega (arith, length-append before (m ∷ []))) in
    let here : (m : LineSpan) (ms : List LineSpan) → get_or (before ++ m ∷ ms) number (record { first = 0; count = 0 }) ≡ m =
    λ m ms. get_or_at before m ms (record { first = 0; count = 0 }) number n in
    record {
      before = take_at before _ number n ∙ sym (take_at before _ number n);
      here = simp here;
      after = simp (past, here) e;
    }

-- the first number of lines of which there is one
first_at : (n p : ℕ) (ks : List (List ℕ)) (l : List ℕ) (ls : List (List ℕ)) → first_number (lines_at n p (ks ++ l ∷ ls)) ≡ n
unfolding first_number lines_at
first_at n p [] l ls = refl
first_at n p (k ∷ ks) l ls = refl

module _ (s : List ℕ) (number : ℕ) (asked : CueContents) (a : Around s number) where
  abbrev form : List (List ℕ)
  form = cue_lines (contents (lists s)).regions asked

  abbrev title : Line
  title = record { number = 0; place = 0; bytes = a.title }

  abbrev front : List (List ℕ)
  front = front_lines s number a

  abbrev own : List Line
  own = a.first ∷ a.others

  -- the blocks before that of the cue, and the lines of their cues
  abbrev earlier : List (List Line)
  earlier = blocks_from header a.xs

  abbrev spans : List LineSpan
  spans = map line_span (cue_blocks_from false earlier)

  -- the lines before the block, its own and those after it have the numbers that their bytes give
  lines-parted : Parted 0 0 (title ∷ a.xs) (own ++ a.ys)
  lines-parted = parted 0 0 (split s) (title ∷ a.xs) (own ++ a.ys) a.lines

  after-parted : Parted (0 + suc (length a.xs)) lines-parted.place own a.ys
  after-parted = parted _ _ (bytes_of (own ++ a.ys)) own a.ys lines-parted.back

  -- the number of the first line after the block
  abbrev past : ℕ
  past = 0 + suc (length a.xs) + length own

  -- the new block, and the lines after it
  abbrev new : List Line
  new = lines_at (0 + length front) (0 + length (line_ended front)) form

  abbrev ys : List Line
  ys = lines_at (0 + length (front ++ form)) (0 + length (line_ended (front ++ form))) (bytes_of a.ys)

  new_lines_lem : lines_at 0 0 (front ++ form ++ bytes_of a.ys) ≡ title ∷ (a.xs ++ (new ++ ys))
  unfolding bytes_of
  new_lines_lem =
      lines_append 0 0 (front ++ form) (bytes_of a.ys)
      ∙ ap (λ r. r ++ ys) (lines_append 0 0 front form ∙ ap (λ r. r ++ new) lines-parted.front)
      ∙ append_assoc (title ∷ a.xs) new ys

  -- a text that has these lines: its blocks, of which the new one gives a cue
  module _ (t : List ℕ) (e : split t ≡ front ++ form ++ bytes_of a.ys) (w : CueWritable (contents (lists s)).regions asked)
      (gap : is_empty asked.id ≡ false → state_after header a.xs ≡ between) where
    new_blocks : blocks t ≡ earlier ++ new ∷ blocks_from between ys
    unfolding blocks after_signature
    new_blocks =
        ap (λ ls. after_signature (lines_at 0 0 ls)) e
        ∙ ap after_signature new_lines_lem
        ∙ blocks_around s number asked a _ _ ys w gap
        (stop_anywhere (inside own) past after-parted.place _ _ (bytes_of a.ys) (rw after-parted.back a.ends))

    new_cue_lem : is_cue (meaning (succeeded false earlier) new) ≡ true
    unfolding contents is_cue
    new_cue_lem =
        let d = cue_read (contents (lists s)).regions (lists s).regions (succeeded false earlier) asked (ids-contents (lists s).regions) w in
        cue_anywhere (succeeded false earlier) new (lines_at 0 0 form) (bytes-lines _ _ form ∙ sym (bytes-lines 0 0 form)) ∙ ap is_cue d.is

    -- that many cues stand before it
    number-counted : length spans ≡ number
    number-counted = length-map (cue_blocks_from false earlier) line_span ∙ blocks_of_cues false earlier ∙ a.count

    -- the new block begins where the old one did
    new_span : line_span new ≡ record { first = (line_span own).first; count = length form }
    unfolding line_span first_number cue_lines
    new_span =
        let first : first_number new ≡ 0 + length front = first_at _ _ (lines_of asked.id) _ (lines_of asked.text) in
        let n : first_number new ≡ a.first.number = omega (arith, a.counted, length-bytes a.xs) in
        rw (n, lines-length _ _ form)

    -- and what follows differs by the two blocks' lengths
    after_spans : map (later (length own)) (spans_of true ys) ≡ map (later (length form)) (spans_of true a.ys)
    after_spans =
        let all = length-append front form in
        let n : 0 + length (front ++ form) + length own ≡ past + length form = omega (arith, length-bytes a.xs) in
        spans_apart _ _ past after-parted.place (length own) (length form) true (bytes_of a.ys) n
        ∙ rw after-parted.back

    spans_moved : LinesMoved number (length form) (line_spans s) (line_spans t)
    unfolding line_span is_cue
    spans_moved =
        let old = spans_around s earlier own (blocks_from between a.ys) a.divides (ap is_cue a.gives.is) in
        let now = spans_around t earlier new (blocks_from between ys) new_blocks new_cue_lem in
        rw (old, now, new_span) (moved number (length form) spans (line_span own) _ _ number-counted after_spans)

-- a text whose lines are those of another with the lines of one cue replaced by those of a writable cue
pub lines_moved :
    (s t : List ℕ) (number : ℕ) (asked : CueContents)
    → has_signature s ≡ true
    → number < length (lists s).cues
    → CueWritable (contents (lists s)).regions asked
    → not (is_empty asked.id) && not (is_empty (line_up_to s number)) ≡ false
    → LinesReplaced s t number asked
    → LinesMoved number (length (cue_lines (contents (lists s)).regions asked)) (line_spans s) (line_spans t)
lines_moved s t number asked signed h w gap e =
    let a = around s number h in
    spans_moved s number asked a t (e ∙ rw (lines-before s number a, lines_after s number a)) w (block_gap s number asked a signed gap)

-- lines that are as many lines later are the same
later_same : (k : ℕ) (ls ms : List LineSpan) → map (later k) ls ≡ map (later k) ms → ls ≡ ms
unfolding later
later_same k [] [] e = refl
later_same k [] (m ∷ ms) e = cc
later_same k (l ∷ ls) [] e = cc
later_same k (l ∷ ls) (m ∷ ms) e =
    let one : later k l ≡ later k m = cc in
    let first : l.first ≡ m.first = omega (arith, ap (λ x. x.first) one) in
    ap₂ (λ x xs. x ∷ xs) (ap₂ (λ x y. record { first = x; count = y }) first (ap (λ x. x.count) one)) (later_same k ls ms (cc))

-- the old lines, the cue's number and its new count of lines say all the new ones
pub moved_once :
    (number lines : ℕ) (old new other : List LineSpan)
    → LinesMoved number lines old new
    → LinesMoved number lines old other
    → number < length new
    → number < length other
    → new ≡ other
unfolding span_at
moved_once number lines old new other a b n m =
    let d : LineSpan = record { first = 0; count = 0 } in
    let after = later_same (span_at number old).count (drop (suc number) new) (drop (suc number) other) (a.after ∙ sym b.after) in
    cc (split_at new number d n, split_at other number d m)

-- a cue that is put back, in as many lines as it had, gives the old lines; a cue that was read has as many as its written form (`read_lines`)
pub put_back :
    (number lines : ℕ) (old changed new : List LineSpan)
    → LinesMoved number lines old changed
    → LinesMoved number (span_at number old).count changed new
    → number < length old
    → number < length new
    → new ≡ old
unfolding span_at
put_back number lines old changed new a b n m =
    let d : LineSpan = record { first = 0; count = 0 } in
    let count : (span_at number changed).count ≡ lines = ap (λ l. l.count) a.here in
    let first : (span_at number changed).first ≡ (span_at number old).first = ap (λ l. l.first) a.here in
    let here : get_or new number d ≡ get_or old number d =
    b.here ∙ ap (λ k. record { first = k; count = (span_at number old).count }) first in
    let after = later_same lines (drop (suc number) new) (drop (suc number) old) (rw count at b.after ∙ a.after) in
    cc (split_at new number d m, split_at old number d n)
