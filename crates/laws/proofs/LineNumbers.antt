-- The lines of a text's cues: there are as many as cues, they follow each other, and each cue has as many lines as its written form.
use Prim.Native.Nat.{ℕ, suc, ◌+◌, ◌≤◌}
use mathlib.Core.Path.{◌≡◌, refl, sym, ap, ◌∙◌}
use mathlib.Core.Bool.{Bool, true, false, ◌||◌, true≢false}
use mathlib.Core.List.{List, [], ◌∷◌, ◌++◌, map, append-nil, map-append, map-map}
use Rattle.std.specs.Prelude.{Option, None, Some}
use native.Mathlib.Omega.{arith}
use lib.ListN.{length, length-append, length-map}
use Rattle.format.specs.Bytes.{ascii, lf}
use Rattle.format.specs.Texts.{Part, empty_part, is_empty}
use Rattle.format.specs.Lines.{split, join, after_line_ends}
use Rattle.format.specs.Blocks.{Line, lines_at, line_part, holds_arrow, Collecting, between, header, inside, stops, begin, go_on, collected, ended, next, blocks_from}
use Rattle.format.specs.Blocks.{after_signature, blocks, bytes_of, joined}
use Rattle.format.specs.Written.{lines_of, cue_lines}
use Rattle.format.specs.RegionSettings.{RegionValues}
use Rattle.format.specs.TimingLines.{Timing}
use Rattle.format.specs.Lists.{Cue, Item, nothing, cue, style, region, cue_of, region_of, is_word, definition, meaning, is_cue, items_from, items}
use Rattle.format.specs.Lists.{Lists, into, listed, lists}
use Rattle.format.specs.Contents.{RegionContents, cue_contents, contents}
use Rattle.format.specs.declared.rows.LineSpan.{LineSpan}
use Rattle.format.specs.LineNumbers.{block_of_cue, cue_blocks_from, cue_blocks, first_number, line_span, line_spans}
use Rattle.laws.proofs.Tests.{by-test, and_left, and_right, and_both, or_first, absent}
use Rattle.laws.proofs.Standing.{All, all_append, either, length-bytes}
use Rattle.laws.proofs.Lines.{unbroken, split-last, split-join, splits}

-- a block gives a cue and is the block of one, or does neither
pub cues-into : (b : List Line) (i : Item) (l : Lists) → length (into i l).cues ≡ length (block_of_cue i b) + length l.cues
unfolding block_of_cue is_cue into
cues-into b nothing l = omega arith
cues-into b (cue c over) l = omega arith
cues-into b (style text) l = omega arith
cues-into b (region r over) l = omega arith

-- so there are as many such blocks as cues
pub blocks_of_cues : (seen : Bool) (bs : List (List Line)) → length (cue_blocks_from seen bs) ≡ length (listed (items_from seen bs)).cues
unfolding cue_blocks_from items_from listed
blocks_of_cues seen [] = refl
blocks_of_cues seen (b ∷ bs) =
    let i = meaning seen b in
    let later = cue_blocks_from (seen || is_cue i) bs in
    omega (arith, length-append (block_of_cue i b) later, cues-into b i (listed (items_from (seen || is_cue i) bs)), blocks_of_cues (seen || is_cue i) bs)

pub spans_length : (s : List ℕ) → length (line_spans s) ≡ length (lists s).cues
unfolding line_spans cue_blocks lists items
spans_length s = length-map (cue_blocks s) line_span ∙ blocks_of_cues false (blocks s)

-- lines one after the other, from line n on at the earliest and before line m
abbrev pub FollowFrom : ℕ → ℕ → List LineSpan → Type 0
FollowFrom n m [] = n ≤ m
FollowFrom n m (l ∷ ls) = (n ≤ l.first) × (1 ≤ l.count) × FollowFrom (l.first + l.count) m ls

-- they may begin later
follow_looser : (k n m : ℕ) (ls : List LineSpan) → k ≤ n → FollowFrom n m ls → FollowFrom k m ls
follow_looser k n m [] h f = omega arith
follow_looser k n m (l ∷ ls) h f = (omega (arith, f.0), f.1, f.2)

-- what collecting has where line n comes next: lines up to that one, and the number of their first
abbrev Held : ℕ → Collecting → Type 0
Held n between = Unit
Held n header = Unit
Held n (inside ls) = (1 ≤ length ls) × (first_number ls + length ls ≡ n)

abbrev held_from : ℕ → Collecting → ℕ
held_from n between = n
held_from n header = n
held_from n (inside ls) = first_number ls

-- what has been collected comes before what follows from line n on
follow_collected :
    (n m : ℕ) (st : Collecting) (ls : List LineSpan)
    → Held n st
    → FollowFrom (suc n) m ls
    → FollowFrom (suc (held_from n st)) m (map line_span (collected st) ++ ls)
unfolding collected line_span
follow_collected n m between ls h f = f
follow_collected n m header ls h f = f
follow_collected n m (inside ks) ls h f =
    let e : suc (first_number ks) + length ks ≡ suc n = omega arith in
    (omega arith, h.0, rw e f)

-- line n taken up: it begins a block, or goes on in it
abbrev Taken : ℕ → ℕ → Collecting → Type 0
Taken k n st = Held (suc n) st × (k ≤ held_from (suc n) st)

taken_begin : (n p : ℕ) (x : List ℕ) → Taken n n (begin (record { number = n; place = p; bytes = x }))
unfolding begin first_number
taken_begin n p x = either (Taken n n) (is_empty x) (omega arith) (omega arith)

taken_on : (n p : ℕ) (x : List ℕ) (st : Collecting) → Held n st → Taken (held_from n st) n (go_on st (record { number = n; place = p; bytes = x }))
unfolding go_on first_number
taken_on n p x between h = taken_begin n p x
taken_on n p x header h = omega arith
taken_on n p x (inside []) h = absurd (omega arith)
taken_on n p x (inside (l ∷ ls)) h = omega (arith, length-append ls (record { number = n; place = p; bytes = x } ∷ []))

-- the blocks of lines follow each other
blocks_follow :
    (n p m : ℕ) (st : Collecting) (ls : List (List ℕ))
    → m ≡ suc (n + length ls)
    → Held n st
    → FollowFrom (suc (held_from n st)) m (map line_span (blocks_from st (lines_at n p ls)))
unfolding blocks_from lines_at ended next
blocks_follow n p m st [] e h = rw (append-nil (map line_span (collected st))) at (follow_collected n m st [] h (omega arith))
blocks_follow n p m st (x ∷ ls) e h =
    let l : Line = record { number = n; place = p; bytes = x } in
    let q = p + suc (length x) in
    let rest : Collecting → List LineSpan = λ st. map line_span (blocks_from st (lines_at (suc n) q ls)) in
    let more : (k : ℕ) (st : Collecting) → Taken k n st → FollowFrom (suc k) m (rest st) =
    λ k st t. follow_looser (suc k) (suc (held_from (suc n) st)) m (rest st) (omega (arith, t.1))
    (blocks_follow (suc n) q m st ls (omega arith) t.0) in
    by-test (stops st l)
    (λ y. rw (y, map-append line_span (collected st) (blocks_from (begin l) (lines_at (suc n) q ls)))
    (follow_collected n m st _ h (more n (begin l) (taken_begin n p x))))
    (λ z. rw z (more (held_from n st) (go_on st l) (taken_on n p x st h)))

-- so do those that give cues
cues_follow :
    (seen : Bool) (n m : ℕ) (bs : List (List Line))
    → FollowFrom n m (map line_span bs)
    → FollowFrom n m (map line_span (cue_blocks_from seen bs))
unfolding cue_blocks_from block_of_cue
cues_follow seen n m [] f = f
cues_follow seen n m (b ∷ bs) f =
    let i = is_cue (meaning seen b) in
    let past = (line_span b).first + (line_span b).count in
    let rest = cue_blocks_from (seen || i) bs in
    let more = cues_follow (seen || i) past m bs f.2 in
    either (λ bs. FollowFrom n m (map line_span (bs ++ rest))) i
    (f.0, f.1, more)
    (follow_looser n past m (map line_span rest) (omega arith) more)

-- the lines of cues follow each other, after the signature's line and within the text
pub spans_follow : (s : List ℕ) → FollowFrom 2 (suc (length (split s))) (line_spans s)
unfolding line_spans cue_blocks blocks after_signature lines_at
spans_follow s =
    let t = splits s in
    let q = 0 + suc (length t.first) in
    rw t.is (cues_follow false 2 _ (blocks_from header (lines_at 1 q t.rest)) (blocks_follow 1 q _ header t.rest (omega arith) tt))

-- a line that is not empty and holds no LF
abbrev pub Sound : Line → Type 0
Sound l = (is_empty l.bytes ≡ false) × (absent lf l.bytes ≡ true)

-- where collecting stands with such lines
abbrev SoundState : Collecting → Type 0
SoundState between = Unit
SoundState header = Unit
SoundState (inside ls) = All Sound ls

sound_collected : (st : Collecting) → SoundState st → All (All Sound) (collected st)
unfolding collected
sound_collected between h = tt
sound_collected header h = tt
sound_collected (inside ls) h = (h, tt)

sound_begin : (l : Line) → absent lf l.bytes ≡ true → SoundState (begin l)
unfolding begin
sound_begin l a = by-test (is_empty l.bytes) (λ y. rw y tt) (λ n. rw n ((n, a), tt))

sound_on : (st : Collecting) (l : Line) → stops st l ≡ false → absent lf l.bytes ≡ true → SoundState st → SoundState (go_on st l)
unfolding go_on stops
sound_on between l n a h = sound_begin l a
sound_on header l n a h = tt
sound_on (inside ls) l n a h = all_append Sound ls (l ∷ []) h ((or_first (is_empty l.bytes) _ n, a), tt)

-- a block's lines are not empty and hold no LF
sound_blocks :
    (n p : ℕ) (st : Collecting) (ls : List (List ℕ))
    → unbroken ls ≡ true
    → SoundState st
    → All (All Sound) (blocks_from st (lines_at n p ls))
unfolding blocks_from lines_at ended next unbroken
sound_blocks n p st [] u h = sound_collected st h
sound_blocks n p st (x ∷ ls) u h =
    let l : Line = record { number = n; place = p; bytes = x } in
    let a = and_left (absent lf x) (unbroken ls) u in
    let more : (st : Collecting) → SoundState st → All (All Sound) (blocks_from st (lines_at (suc n) (p + suc (length x)) ls)) =
    λ st. sound_blocks (suc n) (p + suc (length x)) st ls (and_right (absent lf x) (unbroken ls) u) in
    by-test (stops st l)
    (λ y. rw y (all_append (All Sound) (collected st) _ (sound_collected st h) (more (begin l) (sound_begin l a))))
    (λ z. rw z (more (go_on st l) (sound_on st l z a h)))

pub blocks_sound : (s : List ℕ) → All (All Sound) (blocks s)
unfolding blocks after_signature lines_at unbroken
blocks_sound s =
    let t = splits s in
    let q = 0 + suc (length t.first) in
    rw t.is (sound_blocks 1 q header t.rest (and_right (absent lf t.first) _ t.whole) tt)

-- so lines joined are split into as many
sound_unbroken : (ls : List Line) → All Sound ls → unbroken (bytes_of ls) ≡ true
unfolding unbroken bytes_of
sound_unbroken [] h = refl
sound_unbroken (l ∷ ls) h = and_both (absent lf l.bytes) (unbroken (bytes_of ls)) h.0.1 (sound_unbroken ls h.1)

full_append : (x y : List ℕ) → is_empty x ≡ false → is_empty (x ++ y) ≡ false
unfolding is_empty
full_append [] y e = absurd (true≢false e)
full_append (b ∷ x) y e = refl

text-lines : (ls : List Line) → All Sound ls → length (lines_of (joined ls).bytes) ≡ length ls
unfolding lines_of joined bytes_of join is_empty
text-lines [] h = refl
text-lines (l ∷ ls) h =
    rw (full_append l.bytes (after_line_ends (bytes_of ls)) h.0.0, split-join l.bytes (bytes_of ls) (sound_unbroken (l ∷ ls) h))
    (ap suc (length-bytes ls))

id_line : (l : Line) → Sound l → length (lines_of l.bytes) ≡ 1
unfolding lines_of
id_line l h = rw (h.0, split-last l.bytes h.1)

-- a cue's written form, with any regions, of the cue as it is read with any regions
module _ (rs : List RegionContents) (read : List RegionValues) where
  abbrev form_length : Cue → ℕ
  form_length c = length (cue_lines rs (cue_contents read c))

  -- an item that is no cue, or a cue of that many lines
  abbrev Counted : ℕ → Item → Type 0
  Counted n nothing = Unit
  Counted n (cue c over) = form_length c ≡ n
  Counted n (style text) = Unit
  Counted n (region r over) = Unit

  cue-counted :
      (n : ℕ) (id : Part) (ls : List Line) (o : Option Timing)
      → length (lines_of id.bytes) + suc (length (lines_of (joined ls).bytes)) ≡ n
      → Counted n (cue_of id ls o)
  unfolding cue_of cue_lines cue_contents
  cue-counted n id ls None e = tt
  cue-counted n id ls (Some t) e = length-append (lines_of id.bytes) _ ∙ e

  block-counted : (seen : Bool) (b : List Line) → All Sound b → Counted (length b) (meaning seen b)
  unfolding meaning definition region_of lines_of is_empty
  block-counted seen [] h = tt
  block-counted seen (first ∷ []) h =
      either (Counted 1) (holds_arrow first.bytes) (cue-counted 1 empty_part [] _ (omega (arith, text-lines [] tt))) tt
  block-counted seen (first ∷ (second ∷ ls)) h =
      let ls₂ = second ∷ ls in
      let n = length (first ∷ ls₂) in
      either (Counted n) (holds_arrow first.bytes)
      (cue-counted n empty_part ls₂ _ (omega (arith, text-lines ls₂ h.1)))
      (either (Counted n) (holds_arrow second.bytes)
      (cue-counted n (line_part first) ls _ (omega (arith, id_line first h.0, text-lines ls h.1.1)))
      (either (Counted n) seen tt
      (either (Counted n) (is_word (ascii "STYLE") first.bytes) tt
      (either (Counted n) (is_word (ascii "REGION") first.bytes) tt tt))))

  -- so it is with the cues of all blocks
  into-counted :
      (b : List Line) (i : Item) (l : Lists) (bs : List (List Line))
      → Counted (length b) i
      → map form_length l.cues ≡ map length bs
      → map form_length (into i l).cues ≡ map length (block_of_cue i b ++ bs)
  unfolding block_of_cue is_cue into
  into-counted b nothing l bs n e = e
  into-counted b (cue c over) l bs n e = rw (n, e)
  into-counted b (style text) l bs n e = e
  into-counted b (region r over) l bs n e = e

  cues-counted :
      (seen : Bool) (bs : List (List Line))
      → All (All Sound) bs
      → map form_length (listed (items_from seen bs)).cues ≡ map length (cue_blocks_from seen bs)
  unfolding items_from listed cue_blocks_from
  cues-counted seen [] h = refl
  cues-counted seen (b ∷ bs) h =
      let i = meaning seen b in
      into-counted b i (listed (items_from (seen || is_cue i) bs)) (cue_blocks_from (seen || is_cue i) bs) (block-counted seen b h.0)
      (cues-counted (seen || is_cue i) bs h.1)

-- a cue that was read has as many lines as its written form, whatever regions it is written with
pub read_lines :
    (rs : List RegionContents) (s : List ℕ)
    → map (λ c. length (cue_lines rs c)) (contents (lists s)).cues ≡ map (λ l. l.count) (line_spans s)
unfolding contents lists items line_spans cue_blocks line_span
read_lines rs s =
    map-map (λ c. length (cue_lines rs c)) (cue_contents (lists s).regions) (lists s).cues
    ∙ cues-counted rs (lists s).regions false (blocks s) (blocks_sound s)
    ∙ sym (map-map (λ l. l.count) line_span (cue_blocks s))
