-- Raw lines: a file is its raw lines, their bytes are the lines of its text, and lines replaced in the file are lines replaced in its
-- plain text.
use Prim.Native.Nat.{ℕ, zero, suc, ◌+◌, ◌-◌, ◌≤◌, ◌<◌}
use mathlib.Core.Path.{◌≡◌, refl, sym, ap, ◌∙◌}
use mathlib.Core.Bool.{true, false, not, false≢true, true≢false}
use mathlib.Core.List.{List, [], ◌∷◌, ◌++◌, map, map-map, map-append, append_assoc, append-nil}
use native.Mathlib.Omega.{arith}
use lib.Dec.{eqb}
use lib.ListN.{length, get_or, take, drop, length-append, length-map, take-append-drop}
use lib.Seq.{take_at, drop_at, drop-cons, take-add, drop-append-le}
use borrow.Author.Tests.{eqb-true, eqb-false, not-true}
use Rattle.format.specs.Bytes.{ascii, lf, cr, byte_order_mark}
use Rattle.format.specs.Texts.{starts_with, is_empty}
use Rattle.format.specs.Plain.{drop_bom, newlines, repair, plain_text, Plain}
use Rattle.format.specs.Lines.{split, after_line_ends, join}
use Rattle.format.specs.Blocks.{seventh, has_signature}
use Rattle.format.specs.Replacing.{RawLine, empty_line, on_raw_line, on_ending, before_lines, raw_lines, raw_bytes, raw_start, raw_end}
use Rattle.laws.proofs.Tests.{and_left, and_right, by-test, absent}
use Rattle.laws.proofs.Newlines.{newlines_other, newlines-cr, newlines_crlf, newlines_keeps}
use Rattle.laws.proofs.Seams.{drop_bom-before, starts_with-before, starts_with-length}
use Rattle.laws.proofs.Lines.{unbroken, split_line, split-last, splits, split-repair, split-plain_text}
use Rattle.laws.proofs.Plainness.{plain-repair, plain_absent}
use Rattle.laws.proofs.Standing.{All}
use Rattle.roundtrip.proofs.Plain.{absent_split}

-- bytes that stand in one line
record Line (s : List ℕ) : Type 0 where
  no_lf : absent lf s ≡ true
  no_cr : absent cr s ≡ true

-- what ends a line right before the bytes s: LF after CR is one line end with it
data Ends : List ℕ → List ℕ → Type 0 where
  by_lf : {s : List ℕ} → Ends (lf ∷ []) s
  by_cr : {s : List ℕ} → starts_with (lf ∷ []) s ≡ false → Ends (cr ∷ []) s
  by_both : {s : List ℕ} → Ends (cr ∷ lf ∷ []) s

-- lines as a file has them: only the last has no line end
data Shaped : List RawLine → Type 0 where
  last : {l : RawLine} → Line l.bytes → l.ending ≡ [] → Shaped (l ∷ [])
  line : {l : RawLine} {ls : List RawLine} → Line l.bytes → Ends l.ending (raw_bytes ls) → Shaped ls → Shaped (l ∷ ls)

-- a file and its lines
record Lined (raw : List ℕ) (ls : List RawLine) : Type 0 where
  bytes : raw_bytes ls ≡ raw
  shape : Shaped ls

nothing : Line []
unfolding absent
nothing = record { no_lf = refl; no_cr = refl }

longer : (b : ℕ) (s : List ℕ) → eqb b lf ≡ false → eqb b cr ≡ false → Line s → Line (b ∷ s)
unfolding absent
longer b s n z w = record { no_lf = rw n w.no_lf; no_cr = rw z w.no_cr }

-- one byte more in the first line
bytes_on : (b : ℕ) (ls : List RawLine) → raw_bytes (on_raw_line b ls) ≡ b ∷ raw_bytes ls
unfolding raw_bytes on_raw_line
bytes_on b [] = refl
bytes_on b (l ∷ ls) = refl

module _ (b : ℕ) (n : eqb b lf ≡ false) (z : eqb b cr ≡ false) where
  shaped_on : {ls : List RawLine} → Shaped ls → Shaped (on_raw_line b ls)
  unfolding on_raw_line
  shaped_on (last {l} w e) = last (longer b l.bytes n z w) e
  shaped_on (line {l} w e rest) = line (longer b l.bytes n z w) e rest

  lined_on : {raw : List ℕ} {ls : List RawLine} → Lined raw ls → Lined (b ∷ raw) (on_raw_line b ls)
  lined_on {raw} {ls} h = record { bytes = bytes_on b ls ∙ ap (λ r. b ∷ r) h.bytes; shape = shaped_on h.shape }

-- CR before an LF: both end one empty line
pub lf-first : (s : List ℕ) → starts_with (lf ∷ []) s ≡ true → raw_lines s ≡ empty_line (lf ∷ []) ∷ raw_lines (drop 1 s)
unfolding starts_with raw_lines before_lines
lf-first [] y = absurd (false≢true y)
lf-first (b ∷ s) y = rw (and_left (eqb b lf) true y)

shaped_cr : {l : RawLine} {ls : List RawLine} → l.ending ≡ lf ∷ [] → Shaped (l ∷ ls) → Shaped (empty_line (cr ∷ lf ∷ []) ∷ ls)
shaped_cr q (last w e) = let z : ◌≡◌ {A = ℕ} 0 1 = cc in absurd (omega arith)
shaped_cr q (line w e rest) = line nothing by_both rest

lined_cr : {raw : List ℕ} {ls : List RawLine} → Lined raw (empty_line (lf ∷ []) ∷ ls) → Lined (cr ∷ raw) (empty_line (cr ∷ lf ∷ []) ∷ ls)
unfolding raw_bytes
lined_cr h = record { bytes = ap (λ r. cr ∷ r) h.bytes; shape = shaped_cr refl h.shape }

lined : (raw : List ℕ) → Lined raw (raw_lines raw)
unfolding raw_lines before_lines on_ending raw_bytes
lined [] = record { bytes = refl; shape = last nothing refl }
lined (b ∷ s) =
    let rest = lined s in
    by-test (eqb b lf)
    (λ y. rw (y, eqb-true b lf y) (record { bytes = ap (λ r. lf ∷ r) rest.bytes; shape = line nothing by_lf rest.shape }))
    (λ n. by-test (eqb b cr)
    (λ y. rw (n, y, eqb-true b cr y)
    (by-test (starts_with (lf ∷ []) s)
    (λ z. let e = lf-first s z in rw (z, e) (lined_cr (rw e at rest)))
    (λ z. let end = by_cr (ap (starts_with (lf ∷ [])) rest.bytes ∙ z) in
    rw z (record { bytes = ap (λ r. cr ∷ r) rest.bytes; shape = line nothing end rest.shape }))))
    (λ z. rw (n, z) (lined_on b n z rest)))

-- a file is its raw lines
pub raw_bytes-lines : (raw : List ℕ) → raw_bytes (raw_lines raw) ≡ raw
raw_bytes-lines raw = (lined raw).bytes

-- a line's bytes stay as they are, and each line end becomes LF
newlines_line : (s t : List ℕ) → absent cr s ≡ true → newlines (s ++ t) ≡ s ++ newlines t
unfolding absent
newlines_line [] t a = refl
newlines_line (b ∷ s) t a =
    newlines_other b (s ++ t) (eqb-false b cr (not-true (eqb b cr) (and_left (not (eqb b cr)) (absent cr s) a)))
    ∙ ap (λ r. b ∷ r) (newlines_line s t (and_right (not (eqb b cr)) (absent cr s) a))

newlines-end : {e s : List ℕ} → Ends e s → newlines (e ++ s) ≡ lf ∷ newlines s
unfolding starts_with
newlines-end (by_lf {s}) = newlines_other lf s (λ q. omega arith)
newlines-end (by_cr {s} n) = newlines-cr s n
newlines-end (by_both {s}) = newlines_crlf (lf ∷ s) refl ∙ newlines_other lf s (λ q. omega arith)

split_shaped : {ls : List RawLine} → Shaped ls → split (newlines (raw_bytes ls)) ≡ map (λ l. l.bytes) ls
unfolding raw_bytes
split_shaped (last {l} w e) =
    rw e (simp append-nil (ap split (newlines_keeps l.bytes w.no_cr) ∙ split-last l.bytes w.no_lf))
split_shaped (line {l} {ls} w e rest) =
    rw
    (append_assoc l.bytes l.ending (raw_bytes ls), newlines_line l.bytes (l.ending ++ raw_bytes ls) w.no_cr, newlines-end e)
    (split_line l.bytes (newlines (raw_bytes ls)) w.no_lf ∙ ap (λ r. l.bytes ∷ r) (split_shaped rest))

-- line n of the raw file is line n of the text
pub split-raw_lines : (raw : List ℕ) → split (newlines raw) ≡ map (λ l. l.bytes) (raw_lines raw)
split-raw_lines raw = ap (λ s. split (newlines s)) (sym (raw_bytes-lines raw)) ∙ split_shaped (lined raw).shape

-- other bytes in the first line
with_first :
    (s : List ℕ) {l : RawLine} {ls : List RawLine}
    → (Line l.bytes → Line s)
    → Shaped (l ∷ ls)
    → Shaped (record { bytes = s; ending = l.ending } ∷ ls)
with_first s f (last w e) = last (f w) e
with_first s f (line w e rest) = line (f w) e rest

-- an EF BB BF at the start is the first line's
drop_bom-end : (a : List ℕ) {e s : List ℕ} → Ends e s → drop_bom (a ++ (e ++ s)) ≡ drop_bom a ++ (e ++ s)
unfolding absent
drop_bom-end a (by_lf {s}) = drop_bom-before a lf s refl
drop_bom-end a (by_cr {s} n) = drop_bom-before a cr s refl
drop_bom-end a (by_both {s}) = drop_bom-before a cr (lf ∷ s) refl

drop_bom-first :
    {l : RawLine} {ls : List RawLine}
    → Shaped (l ∷ ls)
    → drop_bom (raw_bytes (l ∷ ls)) ≡ raw_bytes (record { bytes = drop_bom l.bytes; ending = l.ending } ∷ ls)
unfolding raw_bytes
drop_bom-first {l} (last w e) = rw e (simp append-nil)
drop_bom-first {l} {ls} (line w e rest) =
    rw (append_assoc l.bytes l.ending (raw_bytes ls), append_assoc (drop_bom l.bytes) l.ending (raw_bytes ls))
    (drop_bom-end l.bytes e)

absent_drop : (c n : ℕ) (s : List ℕ) → absent c s ≡ true → absent c (drop n s) ≡ true
unfolding absent
absent_drop c zero s a = a
absent_drop c (suc n) [] a = a
absent_drop c (suc n) (b ∷ s) a = absent_drop c n s (and_right (not (eqb b c)) (absent c s) a)

drop_bom_line : (s : List ℕ) → Line s → Line (drop_bom s)
unfolding drop_bom
drop_bom_line s w =
    by-test (starts_with byte_order_mark s)
    (λ y. rw y (record { no_lf = absent_drop lf 3 s w.no_lf; no_cr = absent_drop cr 3 s w.no_cr }))
    (λ n. rw n w)

-- the plain line that comes of a raw line after the first, and the lines of the plain text of a file that has these lines
abbrev line_of : RawLine → List ℕ
line_of l = repair l.bytes

plain_lines : List RawLine → List (List ℕ)
plain_lines [] = []
plain_lines (l ∷ ls) = repair (drop_bom l.bytes) ∷ map line_of ls

split_plain : {ls : List RawLine} → Shaped ls → split (plain_text (raw_bytes ls)) ≡ plain_lines ls
unfolding plain_lines
split_plain {ls = []} h = elim h [ ]
split_plain {ls = l ∷ ls} h =
    split-plain_text (raw_bytes (l ∷ ls))
    ∙ ap (λ s. map repair (split (newlines s))) (drop_bom-first h)
    ∙ ap (map repair) (split_shaped (with_first (drop_bom l.bytes) (drop_bom_line l.bytes) h))
    ∙ ap (λ r. repair (drop_bom l.bytes) ∷ r) (map-map repair (λ k. k.bytes) ls)

split_raw : (raw : List ℕ) → split (plain_text raw) ≡ plain_lines (raw_lines raw)
split_raw raw = ap (λ s. split (plain_text s)) (sym (raw_bytes-lines raw)) ∙ split_plain (lined raw).shape

-- lines as a file has them are the raw lines of their bytes
raw_line : (s t : List ℕ) (k : RawLine) (ks : List RawLine) → Line s → raw_lines t ≡ k ∷ ks → raw_lines (s ++ t) ≡ record { bytes = s ++ k.bytes; ending = k.ending } ∷ ks
unfolding raw_lines before_lines on_raw_line absent
raw_line [] t k ks w e = e
raw_line (b ∷ s) t k ks w e =
    let no_lf = not-true (eqb b lf) (and_left (not (eqb b lf)) (absent lf s) w.no_lf) in
    let no_cr = not-true (eqb b cr) (and_left (not (eqb b cr)) (absent cr s) w.no_cr) in
    let rest : Line s =
    record { no_lf = and_right (not (eqb b lf)) (absent lf s) w.no_lf; no_cr = and_right (not (eqb b cr)) (absent cr s) w.no_cr } in
    rw (no_lf, no_cr, raw_line s t k ks rest e)

raw_end_lem : {e s : List ℕ} → Ends e s → raw_lines (e ++ s) ≡ empty_line e ∷ raw_lines s
unfolding raw_lines before_lines on_ending starts_with
raw_end_lem by_lf = refl
raw_end_lem (by_cr n) = rw n
raw_end_lem by_both = refl

raw_shaped : {ls : List RawLine} → Shaped ls → raw_lines (raw_bytes ls) ≡ ls
unfolding raw_bytes raw_lines
raw_shaped (last {l} w e) =
    let whole = append-nil l.bytes in
    rw (e, whole, whole) (rw whole at (raw_line l.bytes [] (empty_line []) [] w refl))
raw_shaped (line {l} {ls} w e rest) =
    rw (append_assoc l.bytes l.ending (raw_bytes ls))
    (rw (append-nil l.bytes) at
    (raw_line l.bytes (l.ending ++ raw_bytes ls) (empty_line l.ending) ls w (raw_end_lem e ∙ ap (λ r. empty_line l.ending ∷ r) (raw_shaped rest))))

map-take : {A B : Type 0} (f : A → B) (n : ℕ) (xs : List A) → map f (take n xs) ≡ take n (map f xs)
map-take f zero xs = refl
map-take f (suc n) [] = refl
map-take f (suc n) (x ∷ xs) = ap (λ r. f x ∷ r) (map-take f n xs)

map-drop : {A B : Type 0} (f : A → B) (n : ℕ) (xs : List A) → map f (drop n xs) ≡ drop n (map f xs)
map-drop f zero xs = refl
map-drop f (suc n) [] = refl
map-drop f (suc n) (x ∷ xs) = map-drop f n xs

-- all lines but the first n, and the first n with others after them
plain_lines_back : (n : ℕ) (ls : List RawLine) → 0 < n → map line_of (drop n ls) ≡ drop n (plain_lines ls)
unfolding plain_lines
plain_lines_back zero ls p = absurd (omega arith)
plain_lines_back (suc n) [] p = refl
plain_lines_back (suc n) (l ∷ ls) p = map-drop line_of n ls

plain_lines_front :
    (n : ℕ) (ls ms : List RawLine) → 0 < n → n ≤ length ls → plain_lines (take n ls ++ ms) ≡ take n (plain_lines ls) ++ map line_of ms
unfolding plain_lines
plain_lines_front zero ls ms p h = absurd (omega arith)
plain_lines_front (suc n) [] ms p h = absurd (omega arith)
plain_lines_front (suc n) (l ∷ ls) ms p h =
    ap (λ r. repair (drop_bom l.bytes) ∷ r) (map-append line_of (take n ls) ms ∙ ap (λ r. r ++ map line_of ms) (map-take line_of n ls))

plain_lines_length : (ls : List RawLine) → length (plain_lines ls) ≡ length ls
unfolding plain_lines
plain_lines_length [] = refl
plain_lines_length (l ∷ ls) = ap suc (length-map ls line_of)

-- a raw file has as many lines as its plain text
pub lines-counted : (raw : List ℕ) → length (split (plain_text raw)) ≡ length (raw_lines raw)
lines-counted raw = ap length (split_raw raw) ∙ plain_lines_length (raw_lines raw)

-- lines ended by LF, and the last of them by e
pub ended_by : List ℕ → List ℕ → List (List ℕ) → List RawLine
ended_by e s [] = record { bytes = s; ending = e } ∷ []
ended_by e s (t ∷ ts) = record { bytes = s; ending = lf ∷ [] } ∷ ended_by e t ts

bytes-ended : (e s : List ℕ) (ts : List (List ℕ)) → map line_of (ended_by e s ts) ≡ map repair (s ∷ ts)
unfolding ended_by
bytes-ended e s [] = refl
bytes-ended e s (t ∷ ts) = ap (λ r. repair s ∷ r) (bytes-ended e t ts)

ended-length : (e s : List ℕ) (ts : List (List ℕ)) → length (ended_by e s ts) ≡ suc (length ts)
unfolding ended_by
ended-length e s [] = refl
ended-length e s (t ∷ ts) = ap suc (ended-length e t ts)

ended-last : (e s : List ℕ) (ts : List (List ℕ)) → (get_or (ended_by e s ts) (length ts) (empty_line [])).ending ≡ e
unfolding ended_by
ended-last e s [] = refl
ended-last e s (t ∷ ts) = ended-last e t ts

raw_ended : (e s : List ℕ) (ts : List (List ℕ)) (ls : List RawLine) → raw_bytes (ended_by e s ts ++ ls) ≡ join (s ∷ ts) ++ (e ++ raw_bytes ls)
unfolding ended_by raw_bytes join after_line_ends
raw_ended e s [] ls = rw (append-nil s) (append_assoc s e (raw_bytes ls))
raw_ended e s (t ∷ ts) ls = rw (raw_ended e t ts ls) (simp append_assoc)

shaped_ended :
    (s : List ℕ) (ts : List (List ℕ)) {l : RawLine} {ls : List RawLine}
    → All Line (s ∷ ts)
    → Shaped (l ∷ ls)
    → Shaped (ended_by l.ending s ts ++ ls)
unfolding ended_by
shaped_ended s [] w h = with_first s (λ v. w.0) h
shaped_ended s (t ∷ ts) w h = line w.0 by_lf (shaped_ended t ts w.1 h)

-- whether LF comes next is all that a line end asks
ends-before : {e s : List ℕ} (t : List ℕ) → Ends e s → (starts_with (lf ∷ []) s ≡ false → starts_with (lf ∷ []) t ≡ false) → Ends e t
ends-before t by_lf f = by_lf
ends-before t (by_cr n) f = by_cr (f n)
ends-before t by_both f = by_both

-- what follows a line end does not change how the line begins
begins-same : (a : List ℕ) {e s : List ℕ} (t : List ℕ) → Ends e s → starts_with (lf ∷ []) (a ++ e ++ t) ≡ starts_with (lf ∷ []) (a ++ e ++ s)
unfolding starts_with
begins-same [] t by_lf = refl
begins-same [] t (by_cr n) = refl
begins-same [] t by_both = refl
begins-same (b ∷ a) t e = refl

-- lines put after the first n
module _ (ms : List RawLine) (begins : starts_with (lf ∷ []) (raw_bytes ms) ≡ false) where
  front_begins :
      (n : ℕ) {ls : List RawLine}
      → Shaped ls
      → n < length ls
      → starts_with (lf ∷ []) (raw_bytes ls) ≡ false
      → starts_with (lf ∷ []) (raw_bytes (take n ls ++ ms)) ≡ false
  unfolding raw_bytes
  front_begins zero h p q = begins
  front_begins (suc n) (last w e) p q = absurd (omega arith)
  front_begins (suc n) (line {l} {ls} w e rest) p q = begins-same l.bytes (raw_bytes (take n ls ++ ms)) e ∙ q

  shaped_front : (n : ℕ) {ls : List RawLine} → Shaped ls → n < length ls → Shaped ms → Shaped (take n ls ++ ms)
  shaped_front zero h p m = m
  shaped_front (suc n) (last w e) p m = absurd (omega arith)
  shaped_front (suc n) (line {l} {ls} w e rest) p m =
      line w (ends-before (raw_bytes (take n ls ++ ms)) e (front_begins n rest (omega arith))) (shaped_front n rest (omega arith) m)

shaped_drop : (n : ℕ) {ls : List RawLine} → Shaped ls → n < length ls → Shaped (drop n ls)
shaped_drop zero h p = h
shaped_drop (suc n) (last w e) p = absurd (omega arith)
shaped_drop (suc n) (line w e rest) p = shaped_drop n rest (omega arith)

raw_append : (ls ms : List RawLine) → raw_bytes (ls ++ ms) ≡ raw_bytes ls ++ raw_bytes ms
unfolding raw_bytes
raw_append [] ms = refl
raw_append (l ∷ ls) ms = rw (raw_append ls ms) (sym (append_assoc (l.bytes ++ l.ending) (raw_bytes ls) (raw_bytes ms)))

-- a raw file's line m, the bytes up to the end of it, its own line end left out, and those after them
abbrev line_at : List ℕ → ℕ → RawLine
line_at raw m = get_or (raw_lines raw) m (empty_line [])

abbrev up_to : List ℕ → ℕ → List ℕ
up_to raw m = raw_bytes (take m (raw_lines raw)) ++ (line_at raw m).bytes

abbrev beyond : List ℕ → ℕ → List ℕ
beyond raw m = (line_at raw m).ending ++ raw_bytes (drop (suc m) (raw_lines raw))

-- a file cut where line n starts, and where line m ends
module _ (raw : List ℕ) where
  around_start : (n : ℕ) → raw_bytes (take n (raw_lines raw)) ++ raw_bytes (drop n (raw_lines raw)) ≡ raw
  around_start n =
      sym (raw_append (take n (raw_lines raw)) (drop n (raw_lines raw)))
      ∙ ap raw_bytes (take-append-drop n (raw_lines raw))
      ∙ raw_bytes-lines raw

  take-start : (n : ℕ) → take (raw_start raw n) raw ≡ raw_bytes (take n (raw_lines raw))
  unfolding raw_start
  take-start n = ap (take (raw_start raw n)) (sym (around_start n)) ∙ take_at _ _ _ refl

  start-before : (n k : ℕ) → raw_start raw n ≤ raw_end raw (n + k)
  unfolding raw_end raw_start
  start-before n k = rw (take-add n k (raw_lines raw)) (simp (raw_append, length-append) (omega arith))

  length_up_to : (m : ℕ) → length (up_to raw m) ≡ raw_end raw m
  unfolding raw_end raw_start
  length_up_to m = length-append (raw_bytes (take m (raw_lines raw))) (line_at raw m).bytes

  module _ (m : ℕ) (h : m < length (raw_lines raw)) where
    around_end : up_to raw m ++ beyond raw m ≡ raw
    unfolding raw_bytes
    around_end =
        simp append_assoc
        (simp (drop-cons (raw_lines raw) m (empty_line []) h, append_assoc) at (around_start m))

    drop-end : drop (raw_end raw m) raw ≡ beyond raw m
    drop-end = ap (drop (raw_end raw m)) (sym around_end) ∙ drop_at (up_to raw m) (beyond raw m) (raw_end raw m) (length_up_to m)

    end-within : raw_end raw m ≤ length raw
    end-within = omega (arith, length_up_to m, length-append (up_to raw m) (beyond raw m), ap length around_end)

-- lines without LF and CR
lines-all : (ls : List (List ℕ)) → unbroken ls ≡ true → All (λ l. absent cr l ≡ true) ls → All Line ls
unfolding unbroken
lines-all [] u a = tt
lines-all (l ∷ ls) u a =
    (record { no_lf = and_left (absent lf l) (unbroken ls) u; no_cr = a.0 }, lines-all ls (and_right (absent lf l) (unbroken ls) u) a.1)

begins-more : (s t : List ℕ) → is_empty s ≡ false → starts_with (lf ∷ []) (s ++ t) ≡ starts_with (lf ∷ []) s
unfolding starts_with is_empty
begins-more [] t e = absurd (true≢false e)
begins-more (b ∷ s) t e = refl

-- a plain text's lines stay as they are
form_lines_lem : (form e : List ℕ) → Plain form → map line_of (ended_by e (splits form).first (splits form).rest) ≡ split form
form_lines_lem form e plain =
    let f = splits form in
    bytes-ended e f.first f.rest ∙ ap (map repair) (sym f.is) ∙ sym (split-repair form) ∙ ap split (plain-repair form plain)

-- the lines of a text, ended by LF, and the last of them by e
abbrev pub form_lines : List ℕ → List ℕ → List RawLine
form_lines e form = ended_by e (splits form).first (splits form).rest

pub form_length_lem : (e form : List ℕ) → length (form_lines e form) ≡ length (split form)
form_length_lem e form = let f = splits form in ended-length e f.first f.rest ∙ ap length (sym f.is)

pub form_ending : (e form : List ℕ) → (get_or (form_lines e form) (length (split form) - 1) (empty_line [])).ending ≡ e
form_ending e form =
    let f = splits form in
    let n : length (split form) - 1 ≡ length f.rest = omega (arith, ap length f.is) in
    rw n (ended-last e f.first f.rest)

-- lines of which those from n up to n + c have the lines of a text in their place, the last ended as the last of theirs was
abbrev pub spliced : ℕ → ℕ → List ℕ → List RawLine → List RawLine
spliced n c form ls = take n ls ++ (form_lines (get_or ls (n + (c - 1)) (empty_line [])).ending form ++ drop (n + c) ls)

-- the lines of a text, the last ended as line m is, and the lines after line m
abbrev new_lines : List ℕ → List ℕ → ℕ → List RawLine
new_lines raw form m = form_lines (line_at raw m).ending form ++ drop (suc m) (raw_lines raw)

module _ (raw form : List ℕ) (m : ℕ) where
  new_bytes : raw_bytes (new_lines raw form m) ≡ form ++ beyond raw m
  new_bytes =
      let f = splits form in
      raw_ended (line_at raw m).ending f.first f.rest (drop (suc m) (raw_lines raw)) ∙ ap (λ r. r ++ beyond raw m) f.joined

  new_begins : is_empty form ≡ false → starts_with (lf ∷ []) (raw_bytes (new_lines raw form m)) ≡ starts_with (lf ∷ []) form
  new_begins full = ap (starts_with (lf ∷ [])) new_bytes ∙ begins-more form (beyond raw m) full

  module _ (h : m < length (raw_lines raw)) (plain : Plain form) where
    new_shaped : Shaped (new_lines raw form m)
    new_shaped =
        let f = splits form in
        shaped_ended f.first f.rest
        (lines-all (f.first ∷ f.rest) f.whole (rw f.is at (absent_split cr form (plain_absent form plain))))
        (rw (drop-cons (raw_lines raw) m (empty_line [])) at (shaped_drop m (lined raw).shape h))

    new_lines_lem : map line_of (new_lines raw form m) ≡ split form ++ drop (suc m) (plain_lines (raw_lines raw))
    new_lines_lem =
        let f = splits form in
        map-append line_of (ended_by (line_at raw m).ending f.first f.rest) (drop (suc m) (raw_lines raw))
        ∙ rw (form_lines_lem form (line_at raw m).ending plain, plain_lines_back (suc m) (raw_lines raw) (omega arith))

    file-bytes :
        (n : ℕ)
        → raw_bytes (take n (raw_lines raw) ++ new_lines raw form m)
        ≡ take (raw_start raw n) raw ++ form ++ drop (raw_end raw m) raw
    file-bytes n =
        raw_append (take n (raw_lines raw)) (new_lines raw form m)
        ∙ rw (take-start raw n, drop-end raw m h, new_bytes, append_assoc)

    file_shaped :
        (n : ℕ)
        → n ≤ m
        → starts_with (lf ∷ []) (raw_bytes (new_lines raw form m)) ≡ false
        → Shaped (take n (raw_lines raw) ++ new_lines raw form m)
    file_shaped n room begins = shaped_front (new_lines raw form m) begins n (lined raw).shape (omega arith) new_shaped

    -- the raw lines of the file with lines n to m replaced, and those of its plain text
    file_raw :
        (n : ℕ)
        → n ≤ m
        → starts_with (lf ∷ []) (raw_bytes (new_lines raw form m)) ≡ false
        → raw_lines (take (raw_start raw n) raw ++ form ++ drop (raw_end raw m) raw) ≡ take n (raw_lines raw) ++ new_lines raw form m
    file_raw n room begins = ap raw_lines (sym (file-bytes n)) ∙ raw_shaped (file_shaped n room begins)

    file_lines_lem :
        (n : ℕ)
        → 0 < n
        → n ≤ m
        → starts_with (lf ∷ []) (raw_bytes (new_lines raw form m)) ≡ false
        → split (plain_text (take (raw_start raw n) raw ++ form ++ drop (raw_end raw m) raw))
        ≡ take n (split (plain_text raw)) ++ split form ++ drop (suc m) (split (plain_text raw))
    file_lines_lem n some room begins =
        ap (λ s. split (plain_text s)) (sym (file-bytes n))
        ∙ split_plain (file_shaped n room begins)
        ∙ plain_lines_front n (raw_lines raw) (new_lines raw form m) some (omega arith)
        ∙ rw (new_lines_lem, split_raw raw, append_assoc)

-- lines n up to n + c of a raw file, without the last one's terminator, replaced by a text
pub record LinesReplaced (raw form : List ℕ) (n c : ℕ) : Type 0 where
  pub starts : raw_start raw n ≤ raw_end raw (n + (c - 1))
  pub ends : raw_end raw (n + (c - 1)) ≤ length raw
  pub lines :
      split (plain_text (take (raw_start raw n) raw ++ form ++ drop (raw_end raw (n + (c - 1))) raw))
      ≡ take n (split (plain_text raw)) ++ split form ++ drop (n + c) (split (plain_text raw))
  pub raws : raw_lines (take (raw_start raw n) raw ++ form ++ drop (raw_end raw (n + (c - 1))) raw) ≡ spliced n c form (raw_lines raw)

pub lines-replaced :
    (raw form : List ℕ) (n c : ℕ)
    → 0 < n
    → 0 < c
    → n + c ≤ length (split (plain_text raw))
    → Plain form
    → is_empty form ≡ false
    → starts_with (lf ∷ []) form ≡ false
    → LinesReplaced raw form n c
lines-replaced raw form n c some more fits plain full begins =
    let m = n + (c - 1) in
    let e : suc m ≡ n + c = omega arith in
    let inside : m < length (raw_lines raw) = omega (arith, lines-counted raw) in
    let fresh = new_begins raw form m full ∙ begins in
    record {
      starts = start-before raw n (c - 1);
      ends = end-within raw m inside;
      lines = rw e at (file_lines_lem raw form m inside plain n some (omega arith) fresh);
      raws = rw e at (file_raw raw form m inside plain n (omega arith) fresh);
    }

-- nothing after a first LF bears on the signature
seventh_line : (s t : List ℕ) → seventh (s ++ lf ∷ t) ≡ seventh s
unfolding seventh
seventh_line [] t = refl
seventh_line (b ∷ s) t = refl

signature_line : (s t : List ℕ) → has_signature (s ++ lf ∷ t) ≡ has_signature s
unfolding has_signature absent
signature_line s t =
    rw (starts_with-before (ascii "WEBVTT") s lf t refl)
    (by-test (starts_with (ascii "WEBVTT") s)
    (λ y. rw (y, drop-append-le 6 s (lf ∷ t) (starts_with-length (ascii "WEBVTT") s y)) (seventh_line (drop 6 s) t))
    (λ n. rw n))

signature-join : (l : List ℕ) (ls : List (List ℕ)) → has_signature (join (l ∷ ls)) ≡ has_signature l
unfolding join after_line_ends
signature-join l [] = ap has_signature (append-nil l)
signature-join l (k ∷ ks) = signature_line l (k ++ after_line_ends ks)

signature-split : (s : List ℕ) → has_signature s ≡ has_signature (get_or (split s) 0 [])
signature-split s =
    let f = splits s in
    ap has_signature (sym f.joined) ∙ signature-join f.first f.rest ∙ rw f.is

-- the signature is a matter of the first line
pub signature-first : (s t : List ℕ) → get_or (split s) 0 [] ≡ get_or (split t) 0 [] → has_signature s ≡ has_signature t
signature-first s t e = signature-split s ∙ ap has_signature e ∙ sym (signature-split t)
