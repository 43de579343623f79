-- What is written of plain parts is plain.
use Prim.Native.Nat.{ℕ, zero, suc, pred, ◌+◌, ◌≤◌}
use mathlib.Core.Path.{◌≡◌, refl, sym, ap, ◌∙◌}
use mathlib.Core.Bool.{Bool, true, false, not, ◌&&◌}
use mathlib.Core.List.{List, [], ◌∷◌, ◌++◌, map, append_assoc}
use Rattle.std.specs.Prelude.{Option, None, Some}
use native.Mathlib.Omega.{arith}
use lib.Dec.{leb, ltb, eqb}
use lib.ListN.{length, get_or, take, drop, length-append, take-append-drop}
use borrow.Author.Tests.{ltb-true, ltb-false, eqb-false, not-true}
use Rattle.format.specs.Bytes.{ascii, digit, nul, cr, lf, space, comma, hyphen, colon}
use Rattle.format.specs.Texts.{is_empty, all, bytes_at}
use Rattle.format.specs.Lines.{on_first, before, split_list_at, split, after_line_ends, join}
use Rattle.format.specs.Plain.{sequence, repair, plain_start, plain_from, first_not_plain, Plain}
use Rattle.format.specs.Contents.{CueContents, RegionContents, Contents, contents_of_rows, cue_of_entry, region_of_entry, cue_of_row, region_of_row, style_of_row}
use Rattle.format.specs.Rows.{cue_codes_named, region_codes_named, cue_entry, region_entry, style_entry}
use Rattle.format.specs.Writable.{part_plain, cue_test1, region_test1, style_test1}
use Rattle.format.specs.Written.{decimal_in, written_time, written_decimal, written_percentage, setting, written_vertical, written_line_align}
use Rattle.format.specs.Written.{written_line_number, written_line, written_position_align, written_position, written_size, written_align}
use Rattle.format.specs.Written.{written_region_name, written_five, written_settings, after_spaces, written_timing, lines_of, cue_lines, written_point, written_id}
use Rattle.format.specs.Written.{written_scroll, region_lines, style_lines, apart, file_lines, line_ended, written}
use Rattle.format.specs.declared.settings.Direction.{Direction}
use Rattle.format.specs.declared.settings.Line.{Line}
use Rattle.format.specs.declared.settings.LineAlign.{LineAlign}
use Rattle.format.specs.declared.settings.Position.{Position}
use Rattle.format.specs.declared.settings.PositionAlign.{PositionAlign}
use Rattle.format.specs.declared.settings.Align.{Align}
use Rattle.format.specs.declared.regions.Point.{Point}
use Rattle.format.specs.declared.regions.Scroll.{Scroll}
use Rattle.laws.proofs.Tests.{by-test, and_left, and_right, and_both, absent}
use Rattle.laws.proofs.Sequences.{sequence-length, sequence-take, sequence-ascii}
use Rattle.laws.proofs.Plainness.{Start, start_is, start_has, plain-sequence, plain-repair, plain_absent, repair-plain}
use Rattle.laws.proofs.Lines.{split-repair}
use Rattle.laws.proofs.Standing as Standing
use Rattle.laws.proofs.Standing.{All, either}
use Rattle.roundtrip.proofs.Numbers.{all_weaker, numeral, numeral_other, numeral_ascii, written_time_numeral, written_decimal_numeral}
use Rattle.roundtrip.proofs.Numbers.{written_percentage_numeral, decimal_in_numeral}
use Rattle.roundtrip.proofs.Regions.{later_lines, region_lines_lem}

-- a text that begins with a plain one is plain as far as the rest is
sequence-more : (b : ℕ) (x y : List ℕ) (n : ℕ) → sequence (b ∷ x) ≡ suc n → sequence (b ∷ (x ++ y)) ≡ suc n
sequence-more b x y n q =
    let e : take n x ++ (drop n x ++ y) ≡ x ++ y = sym (append_assoc (take n x) (drop n x) y) ∙ ap (λ r. r ++ y) (take-append-drop n x) in
    rw e at (sequence-take b x (drop n x ++ y) n q)

start-more : (b : ℕ) (x y : List ℕ) (n : ℕ) → Start b x n → Start b (x ++ y) n
start-more b x y n p = record { not_nul = p.not_nul; not_cr = p.not_cr; stands = sequence-more b x y n p.stands }

-- the two cases of a byte at the start
plain_goes : (b : ℕ) (s : List ℕ) (n : ℕ) → Start b s n → first_not_plain (b ∷ s) ≡ suc (plain_from n s)
unfolding plain_from
plain_goes b s n p = rw (start_is b s n p, p.stands)

plain-stops : (b : ℕ) (s : List ℕ) → plain_start (b ∷ s) ≡ false → first_not_plain (b ∷ s) ≡ 0
unfolding plain_from
plain-stops b s e = rw e

plain_over :
    (n : ℕ) (x y : List ℕ)
    → n ≤ length x
    → plain_from n x ≡ length x
    → plain_from n (x ++ y) ≡ length x + first_not_plain y
unfolding plain_from
plain_over zero [] y h p = omega arith
plain_over (suc n) [] y h p = absurd (omega arith)
plain_over (suc n) (b ∷ x) y h p = omega (arith, plain_over n x y (omega arith) (omega arith))
plain_over zero (b ∷ x) y h p =
    by-test (plain_start (b ∷ x))
    (λ t. let n = pred (sequence (b ∷ x)) in
    let q : Start b x n = start_has b x t in
    let here = plain_goes b x n q in
    omega (
      arith,
      plain_goes b (x ++ y) n (start-more b x y n q),
      plain_over n x y (sequence-length b x n q.stands) (omega (arith, p, here)),
    ))
    (λ f. absurd (omega (arith, p, plain-stops b x f)))

pub plain_front : (x y : List ℕ) → Plain x → first_not_plain (x ++ y) ≡ length x + first_not_plain y
plain_front x y p = plain_over 0 x y (omega arith) p

pub plain_append : (x y : List ℕ) → Plain x → Plain y → Plain (x ++ y)
plain_append x y p q = omega (arith, plain_front x y p, q, length-append x y)

-- ASCII, but NUL and CR
unfoldable pub plain_byte : ℕ → Bool
plain_byte b = ltb b 0x80 && (not (eqb b nul) && not (eqb b cr))

byte_start : (b : ℕ) (s : List ℕ) → plain_byte b ≡ true → Start b s 0
unfolding plain_byte
byte_start b s h =
    let z = not (eqb b nul) in
    let c = not (eqb b cr) in
    let zc : z && c ≡ true = and_right (ltb b 0x80) (z && c) h in
    record {
      not_nul = eqb-false b nul (not-true (eqb b nul) (and_left z c zc));
      not_cr = eqb-false b cr (not-true (eqb b cr) (and_right z c zc));
      stands = sequence-ascii b s (ltb-true b 0x80 (and_left (ltb b 0x80) (z && c) h));
    }

pub plain_cons : (b : ℕ) (s : List ℕ) → plain_byte b ≡ true → Plain s → Plain (b ∷ s)
plain_cons b s h p = omega (arith, plain-sequence b s 0 (byte_start b s h), p)

pub plain-bytes : (s : List ℕ) → all plain_byte s ≡ true → Plain s
unfolding all plain_from
plain-bytes [] h = refl
plain-bytes (b ∷ s) h = plain_cons b s (and_left (plain_byte b) (all plain_byte s) h) (plain-bytes s (and_right (plain_byte b) (all plain_byte s) h))

numeral_byte : (b : ℕ) → numeral b ≡ true → plain_byte b ≡ true
unfolding plain_byte numeral digit all
numeral_byte b e =
    let low = and_left (ltb b 0x80) true (numeral_ascii (b ∷ []) (and_both (numeral b) true e refl)) in
    rw (low, numeral_other b nul e refl, numeral_other b cr e refl)

pub plain_numeral : (s : List ℕ) → all numeral s ≡ true → Plain s
plain_numeral s h = plain-bytes s (all_weaker numeral plain_byte numeral_byte s h)

-- every element of a list that a function gives
pub all_map :
    {A B : Type 0} (P : A → Type 0) (Q : B → Type 0) (f : A → B)
    → ((x : A) → P x → Q (f x))
    → (xs : List A)
    → All P xs
    → All Q (map f xs)
all_map P Q f g [] h = tt
all_map P Q f g (x ∷ xs) h = (g x h.0, all_map P Q f g xs h.1)

-- the lines of a plain text
absent_first :
    (c b : ℕ) (ls : List (List ℕ)) → eqb b c ≡ false → All (λ l. absent c l ≡ true) ls → All (λ l. absent c l ≡ true) (on_first b ls)
unfolding on_first absent
absent_first c b [] n h = (rw n, tt)
absent_first c b (l ∷ ls) n h = (rw n h.0, h.1)

pub absent_split : (c : ℕ) (s : List ℕ) → absent c s ≡ true → All (λ l. absent c l ≡ true) (split s)
unfolding split_list_at before absent
absent_split c [] a = (refl, tt)
absent_split c (b ∷ s) a =
    let rest = absent_split c s (and_right (not (eqb b c)) (absent c s) a) in
    let n = not-true (eqb b c) (and_left (not (eqb b c)) (absent c s) a) in
    by-test (eqb b lf) (λ y. rw y (refl, rest)) (λ z. rw z (absent_first c b (split s) n rest))

pub plain-split : (s : List ℕ) → Plain s → All Plain (split s)
plain-split s p =
    let e : map repair (split s) ≡ split s = sym (split-repair s) ∙ ap split (plain-repair s p) in
    rw e at (all_map (λ l. absent cr l ≡ true) Plain repair (repair-plain 0) (split s) (absent_split cr s (plain_absent s p)))

-- small texts, and two texts with a byte between them
plain-none : Plain []
unfolding plain_from
plain-none = refl

pub plain-parted : (x : List ℕ) (b : ℕ) (y : List ℕ) → plain_byte b ≡ true → Plain x → Plain y → Plain (x ++ b ∷ y)
plain-parted x b y h p q = plain_append x (b ∷ y) p (plain_cons b y h q)

plain-percentage : (m : ℕ) → Plain (written_percentage m)
plain-percentage m = plain_numeral (written_percentage m) (written_percentage_numeral m)

plain-decimal : (m : ℕ) → Plain (written_decimal m)
plain-decimal m = plain_numeral (written_decimal m) (written_decimal_numeral m)

plain-time : (ms : ℕ) → Plain (written_time ms)
plain-time ms = plain_numeral (written_time ms) (written_time_numeral ms)

plain-point : (p : Point) → Plain (written_point p)
unfolding written_point plain_byte
plain-point p = plain-parted (written_percentage p.x) comma (written_percentage p.y) refl (plain-percentage p.x) (plain-percentage p.y)

-- settings
plain-named : (name value : List ℕ) → all plain_byte name ≡ true → Plain value → Plain (name ++ colon ∷ value)
unfolding plain_byte
plain-named name value h p = plain-parted name colon value refl (plain-bytes name h) p

pub plain-setting : (name value : List ℕ) → all plain_byte name ≡ true → Plain value → All Plain (setting name value)
unfolding setting
plain-setting name value h p = (plain-named name value h p, tt)

plain_word : (name value : List ℕ) → all plain_byte name ≡ true → all plain_byte value ≡ true → All Plain (setting name value)
plain_word name value h k = plain-setting name value h (plain-bytes value k)

plain_vertical : (d : Direction) → All Plain (written_vertical d)
unfolding written_vertical all plain_byte
plain_vertical Direction.Horizontal = tt
plain_vertical Direction.Rl = plain_word (ascii "vertical") (ascii "rl") refl refl
plain_vertical Direction.Lr = plain_word (ascii "vertical") (ascii "lr") refl refl

plain-line_align : (a : LineAlign) → Plain (written_line_align a)
unfolding written_line_align all plain_byte
plain-line_align LineAlign.Start = plain-none
plain-line_align LineAlign.Center = plain-bytes (ascii ",center") refl
plain-line_align LineAlign.End = plain-bytes (ascii ",end") refl

plain-line_number : (snap negative : Bool) (m : ℕ) → Plain (written_line_number snap negative m)
unfolding written_line_number plain_byte
plain-line_number true true m = plain_cons hyphen (written_decimal m) refl (plain-decimal m)
plain-line_number true false m = plain-decimal m
plain-line_number false negative m = plain-percentage m

plain_line : (l : Line) (snap : Bool) (a : LineAlign) → All Plain (written_line (record { line = l; snap = snap; align = a }))
unfolding written_line all plain_byte
plain_line Line.Auto snap a = tt
plain_line (Line.At negative m) snap a =
    let number = written_line_number snap negative m in
    plain-setting (ascii "line") (number ++ written_line_align a) refl
    (plain_append number (written_line_align a) (plain-line_number snap negative m) (plain-line_align a))

plain-position_align : (a : PositionAlign) → Plain (written_position_align a)
unfolding written_position_align all plain_byte
plain-position_align PositionAlign.Auto = plain-none
plain-position_align PositionAlign.LineLeft = plain-bytes (ascii ",line-left") refl
plain-position_align PositionAlign.Center = plain-bytes (ascii ",center") refl
plain-position_align PositionAlign.LineRight = plain-bytes (ascii ",line-right") refl

plain_position : (l : Position) (a : PositionAlign) → All Plain (written_position (record { position = l; align = a }))
unfolding written_position all plain_byte
plain_position Position.Auto a = tt
plain_position (Position.At m) a =
    plain-setting (ascii "position") (written_percentage m ++ written_position_align a) refl
    (plain_append (written_percentage m) (written_position_align a) (plain-percentage m) (plain-position_align a))

plain_size : (m : ℕ) → All Plain (written_size m)
unfolding written_size all plain_byte
plain_size m =
    either (All Plain) (eqb m 100_000_000) tt (plain-setting (ascii "size") (written_percentage m) refl (plain-percentage m))

plain_align : (a : Align) → All Plain (written_align a)
unfolding written_align all plain_byte
plain_align Align.Start = plain_word (ascii "align") (ascii "start") refl refl
plain_align Align.Center = tt
plain_align Align.End = plain_word (ascii "align") (ascii "end") refl refl
plain_align Align.Left = plain_word (ascii "align") (ascii "left") refl refl
plain_align Align.Right = plain_word (ascii "align") (ascii "right") refl refl

plain_at : (ls : List (List ℕ)) (i : ℕ) → All Plain ls → Plain (get_or ls i [])
plain_at [] i h = plain-none
plain_at (l ∷ ls) zero h = h.0
plain_at (l ∷ ls) (suc i) h = plain_at ls i h.1

abbrev pub PlainRegion : RegionContents → Type 0
PlainRegion r = Plain r.id

plain_region_name : (rs : List RegionContents) (o : Option ℕ) → All PlainRegion rs → All Plain (written_region_name rs o)
unfolding written_region_name all plain_byte
plain_region_name rs None h = tt
plain_region_name rs (Some i) h =
    let ids = map (λ r. r.id) rs in
    plain-setting (ascii "region") (get_or ids i []) refl (plain_at ids i (all_map PlainRegion Plain (λ r. r.id) (λ r p. p) rs h))

-- settings after spaces, and the lines of a part
plain_spaces : (ts : List (List ℕ)) → All Plain ts → Plain (after_spaces ts)
unfolding after_spaces plain_byte
plain_spaces [] h = plain-none
plain_spaces (t ∷ ts) h = plain_cons space (t ++ after_spaces ts) refl (plain_append t (after_spaces ts) h.0 (plain_spaces ts h.1))

plain-lines_of : (x : List ℕ) → Plain x → All Plain (lines_of x)
unfolding lines_of
plain-lines_of x p = either (All Plain) (is_empty x) tt (plain-split x p)

-- a cue with plain parts
pub record PlainCue (c : CueContents) : Type 0 where
  pub id : Plain c.id
  pub text : Plain c.text

module _ (rs : List RegionContents) (c : CueContents) (h : All Plain (written_region_name rs c.region)) where
  plain-settings : All Plain (written_settings rs c)
  unfolding written_settings written_five
  plain-settings =
      let vertical = written_vertical c.settings.vertical in
      let line = written_line c.settings.line in
      let position = written_position c.settings.position in
      let size = written_size c.settings.size in
      let align = written_align c.settings.align in
      Standing.all_append Plain (vertical ++ line ++ position ++ size ++ align) (written_region_name rs c.region)
      (Standing.all_append Plain (vertical ++ line ++ position ++ size) align
      (Standing.all_append Plain (vertical ++ line ++ position) size
      (Standing.all_append Plain (vertical ++ line) position
      (Standing.all_append Plain vertical line (plain_vertical c.settings.vertical) (plain_line c.settings.line.line c.settings.line.snap c.settings.line.align))
      (plain_position c.settings.position.position c.settings.position.align))
      (plain_size c.settings.size))
      (plain_align c.settings.align))
      h

  pub plain_timing : Plain (written_timing rs c)
  unfolding written_timing all plain_byte
  plain_timing =
      let start = written_time c.start in
      let arrow = ascii " --> " in
      let end = written_time c.end in
      let settings = written_settings rs c in
      plain_append (start ++ arrow ++ end) (after_spaces settings)
      (plain_append (start ++ arrow) end (plain_append start arrow (plain-time c.start) (plain-bytes arrow refl)) (plain-time c.end))
      (plain_spaces settings plain-settings)

  pub plain-cue_lines : PlainCue c → All Plain (cue_lines rs c)
  unfolding cue_lines
  plain-cue_lines p =
      Standing.all_append Plain (lines_of c.id) (written_timing rs c ∷ lines_of c.text) (plain-lines_of c.id p.id)
      (plain_timing, plain-lines_of c.text p.text)

-- a region with a plain identifier, and a style with a plain text
plain-id : (id : List ℕ) → Plain id → All Plain (written_id id)
unfolding written_id all plain_byte
plain-id id p = either (All Plain) (is_empty id) tt (plain-setting (ascii "id") id refl p)

plain_scroll : (s : Scroll) → All Plain (written_scroll s)
unfolding written_scroll all plain_byte
plain_scroll Scroll.None = tt
plain_scroll Scroll.Up = plain_word (ascii "scroll") (ascii "up") refl refl

plain-later : (c : RegionContents) → All Plain (later_lines c)
unfolding later_lines all plain_byte
plain-later c =
    let r = c.settings in
    let lines = decimal_in 1 r.lines in (
      plain-named (ascii "width") (written_percentage r.width) refl (plain-percentage r.width),
      (
        plain-named (ascii "lines") lines refl (plain_numeral lines (decimal_in_numeral 1 r.lines)),
        (
          plain-named (ascii "regionanchor") (written_point r.anchor) refl (plain-point r.anchor),
          (
            plain-named (ascii "viewportanchor") (written_point r.viewport) refl (plain-point r.viewport),
            plain_scroll r.scroll,
          ),
        ),
      ),
    )

pub plain-region_lines : (c : RegionContents) → PlainRegion c → All Plain (region_lines c)
unfolding all plain_byte
plain-region_lines c p =
    rw (region_lines_lem c)
    (plain-bytes (ascii "REGION") refl, Standing.all_append Plain (written_id c.id) (later_lines c) (plain-id c.id p) (plain-later c))

pub plain-style_lines : (text : List ℕ) → Plain text → All Plain (style_lines text)
unfolding style_lines all plain_byte
plain-style_lines text p = (plain-bytes (ascii "STYLE") refl, plain-split text p)

-- the file
plain-apart : (bs : List (List (List ℕ))) → All (All Plain) bs → All Plain (apart bs)
unfolding apart
plain-apart [] h = tt
plain-apart (b ∷ bs) h = (plain-none, Standing.all_append Plain b (apart bs) h.0 (plain-apart bs h.1))

plain-ended : (ls : List (List ℕ)) → All Plain ls → Plain (after_line_ends ls)
unfolding after_line_ends plain_byte
plain-ended [] h = plain-none
plain-ended (l ∷ ls) h = plain_cons lf (l ++ after_line_ends ls) refl (plain_append l (after_line_ends ls) h.0 (plain-ended ls h.1))

pub plain-join : (ls : List (List ℕ)) → All Plain ls → Plain (join ls)
unfolding join
plain-join [] h = plain-none
plain-join (l ∷ ls) h = plain_append l (after_line_ends ls) h.0 (plain-ended ls h.1)

plain-line_ended : (ls : List (List ℕ)) → All Plain ls → Plain (line_ended ls)
unfolding line_ended plain_byte
plain-line_ended [] h = plain-none
plain-line_ended (l ∷ ls) h = plain-parted l lf (line_ended ls) refl h.0 (plain-line_ended ls h.1)

pub record PlainContents (c : Contents) : Type 0 where
  pub cues : All PlainCue c.cues
  pub regions : All PlainRegion c.regions
  pub styles : All Plain c.styles

pub plain-written : (c : Contents) → PlainContents c → Plain (written c)
unfolding written file_lines all plain_byte
plain-written c p =
    let styles = map style_lines c.styles in
    let regions = map region_lines c.regions in
    let cues = map (cue_lines c.regions) c.cues in
    plain-line_ended (ascii "WEBVTT" ∷ apart (styles ++ regions ++ cues)) (
      plain-bytes (ascii "WEBVTT") refl,
      plain-apart (styles ++ regions ++ cues)
          (Standing.all_append (All Plain) (styles ++ regions) cues
          (Standing.all_append (All Plain) styles regions
          (all_map Plain (All Plain) style_lines plain-style_lines c.styles p.styles)
          (all_map PlainRegion (All Plain) region_lines plain-region_lines c.regions p.regions))
          (all_map PlainCue (All Plain) (cue_lines c.regions) (λ k q. plain-cue_lines c.regions k (plain_region_name c.regions k.region p.regions) q) c.cues p.cues)),
    )

-- parts that pass test 1
plain-most : (n : ℕ) (s : List ℕ) → plain_from n s ≤ length s
unfolding plain_from
plain-most n [] = omega arith
plain-most (suc n) (b ∷ s) = omega (arith, plain-most n s)
plain-most zero (b ∷ s) =
    by-test (plain_start (b ∷ s))
    (λ y. rw y (omega (arith, plain-most (pred (sequence (b ∷ s))) s)))
    (λ n. rw n (omega arith))

pub part_plain_lem : (s : List ℕ) (from to : ℕ) → part_plain s from to ≡ true → Plain (bytes_at s from to)
unfolding part_plain
part_plain_lem s from to e =
    let x = bytes_at s from to in
    let stops = ltb (first_not_plain x) (length x) in
    let within = and_right (leb from to) (leb to (length s) && not stops) e in
    let whole = not-true stops (and_right (leb to (length s)) (not stops) within) in
    omega (arith, ltb-false (first_not_plain x) (length x) whole, plain-most 0 x)

pub cue-plain : (s w : List ℕ) → cue_test1 s w ≡ true → PlainCue (cue_of_row s w)
unfolding cue_test1 cue_of_entry
cue-plain s w e =
    let c = cue_entry w in
    let id = part_plain s c.id.from c.id.to in
    let text = part_plain s c.text.from c.text.to in
    let rest = and_right id (text && cue_codes_named w) e in
    record {
      id = part_plain_lem s c.id.from c.id.to (and_left id (text && cue_codes_named w) e);
      text = part_plain_lem s c.text.from c.text.to (and_left text (cue_codes_named w) rest);
    }

pub region-plain : (s w : List ℕ) → region_test1 s w ≡ true → PlainRegion (region_of_row s w)
unfolding region_test1 region_of_entry
region-plain s w e =
    let id = (region_entry w).id in
    part_plain_lem s id.from id.to (and_left (part_plain s id.from id.to) (region_codes_named w) e)

pub style-plain : (s w : List ℕ) → style_test1 s (style_entry w) ≡ true → Plain (style_of_row s w)
unfolding style_test1
style-plain s w e = let t = style_entry w in part_plain_lem s t.from t.to e

pub rows-plain :
    (s : List ℕ) (styles regions cues : List (List ℕ))
    → All (λ w. style_test1 s (style_entry w) ≡ true) styles
    → All (λ w. region_test1 s w ≡ true) regions
    → All (λ w. cue_test1 s w ≡ true) cues
    → PlainContents (contents_of_rows s styles regions cues)
unfolding contents_of_rows
rows-plain s styles regions cues f g h =
    record {
      cues = all_map (λ w. cue_test1 s w ≡ true) PlainCue (cue_of_row s) (cue-plain s) cues h;
      regions = all_map (λ w. region_test1 s w ≡ true) PlainRegion (region_of_row s) (region-plain s) regions g;
      styles = all_map (λ w. style_test1 s (style_entry w) ≡ true) Plain (style_of_row s) (style-plain s) styles f;
    }
