-- Collecting by places gives the blocks that `format` defines, and what they mean.
use Prim.Native.Nat.{ℕ, zero, suc, ◌+◌, ◌-◌, ◌≤◌, ◌<◌}
use mathlib.Core.Path.{◌≡◌, refl, sym, ap, ◌∙◌}
use mathlib.Core.Bool.{Bool, true, false, cond, not, ◌&&◌, ◌||◌, true≢false}
use mathlib.Core.List.{List, [], ◌∷◌, ◌++◌, append-nil, append_assoc}
use Rattle.std.specs.Prelude.{Option, None, Some}
use native.Mathlib.Omega.{arith}
use lib.Dec.{eqb, ltb}
use lib.ListN.{length, get_or, take, drop, length-drop, drop_of_length-le}
use lib.Seq.{drop-cons, drop-drop, take-add}
use native.Mathlib.Nat.{add-zero}
use borrow.Author.Tests.{eqb-true, eqb-false, eq-eqb, ne_eqb, le-ltb, ltb-true, ltb-false, not-false}
use Rattle.format.specs.Bytes.{lf}
use Rattle.format.specs.Texts.{Part, empty_part, is_empty, run}
use Rattle.format.specs.Lines.{split, join, after_line_ends}
use Rattle.format.specs.TimingLines.{Timing, timing_line}
use Rattle.format.specs.Blocks.{Line, lines_at, line_part, after_signature, blocks, Collecting, between, header, inside, holds_arrow, can_time, stops, begin, go_on, collected, ended, next, blocks_from, bytes_of, joined}
use Rattle.format.specs.Lists.{nothing, cue_of, definition, meaning}
use Rattle.format.specs.LineNumbers.{first_number}
use Rattle.laws.proofs.Tests.{by-test, and_swap, absent}
use Rattle.laws.proofs.Lines.{unbroken, split-join}
use Rattle.laws.proofs.Blocks.{blocks-stop}
use Rattle.laws.proofs.Runs.{run-next, run_take, run_length, run_at, run-after}
use Rattle.values.proofs.NumberLaws.{is_empty-not}
use Rattle.blocks.specs.declared.collecting.Head.{Head}
use Rattle.blocks.specs.declared.collecting.Stop.{Stop}
use Rattle.blocks.specs.Collecting.{line_ends, lines_from, head_after, more_lines, collect_from, in_line, line_at, is_end}
use Rattle.blocks.specs.Items.{part, after_line_end, cue_with, definition_with, meaning_at, BlockAt}
use Rattle.blocks.proofs.LineLaws.{ends_next, ends_same, line_from, lines_next, lines_end, collect_line}

-- how many of the next lines can be the timing line, after one line more
next_left : ℕ → Bool → ℕ
next_left k arrow = cond (eqb k 0) 0 (cond arrow 0 (k - 1))

left_of : List Line → ℕ
left_of [] = 2
left_of (first ∷ []) = next_left 2 (holds_arrow first.bytes)
left_of (first ∷ (second ∷ ls)) = 0

left_can : (ls : List Line) → not (can_time ls) ≡ eqb (left_of ls) 0
unfolding left_of can_time next_left
left_can [] = refl
left_can (first ∷ []) = by-test (holds_arrow first.bytes) (λ y. rw y) (λ n. rw n)
left_can (first ∷ (second ∷ ls)) = refl

left-more : (ls : List Line) (l : Line) → left_of (ls ++ l ∷ []) ≡ next_left (left_of ls) (holds_arrow l.bytes)
unfolding left_of next_left
left-more [] l = refl
left-more (first ∷ []) l =
    by-test (holds_arrow first.bytes) (λ y. rw y) (λ n. by-test (holds_arrow l.bytes) (λ y. rw (n, y)) (λ m. rw (n, m)))
left-more (first ∷ (second ∷ ls)) l = refl

-- does collecting stop before a line
stop_at : ℕ → Line → Bool
stop_at k l = is_empty l.bytes || (eqb k 0 && holds_arrow l.bytes)

-- the lines that a block takes, and those from the one on before which it stops
taken : ℕ → List Line → List Line
taken k [] = []
taken k (l ∷ ls) = cond (stop_at k l) [] (l ∷ taken (next_left k (holds_arrow l.bytes)) ls)

rest : ℕ → List Line → List Line
rest k [] = []
rest k (l ∷ ls) = cond (stop_at k l) (l ∷ ls) (rest (next_left k (holds_arrow l.bytes)) ls)

abbrev fresh : List Line → List (List Line)
fresh ls = blocks_from between ls

goes_on : (st : Collecting) (l : Line) (ls : List Line) → stops st l ≡ false → blocks_from st (l ∷ ls) ≡ blocks_from (go_on st l) ls
unfolding blocks_from ended next
goes_on st l ls n = rw n

inside_is : (ls ms : List Line) → blocks_from (inside ls) ms ≡ (ls ++ taken (left_of ls) ms) ∷ fresh (rest (left_of ls) ms)
unfolding blocks_from collected taken rest stop_at stops go_on
inside_is ls [] = ap (λ x. x ∷ []) (sym (append-nil ls))
inside_is ls (l ∷ ms) =
    let same : stops (inside ls) l ≡ stop_at (left_of ls) l = ap (λ t. is_empty l.bytes || t) (and_swap (holds_arrow l.bytes) (not (can_time ls)) ∙ ap (λ t. t && holds_arrow l.bytes) (left_can ls)) in
    by-test (stop_at (left_of ls) l)
    (λ y. blocks-stop (inside ls) l ms (same ∙ y) ∙ rw (y, append-nil ls))
    (λ n. goes_on (inside ls) l ms (same ∙ n)
    ∙ inside_is (ls ++ l ∷ []) ms
    ∙ rw (left-more ls l, n, append_assoc ls (l ∷ []) (taken (next_left (left_of ls) (holds_arrow l.bytes)) ms)))

header_is : (ms : List Line) → blocks_from header ms ≡ fresh (rest 0 ms)
unfolding blocks_from collected rest stop_at stops go_on next_left
header_is [] = refl
header_is (l ∷ ms) =
    let same : stops header l ≡ stop_at 0 l = refl in
    by-test (stop_at 0 l)
    (λ y. blocks-stop header l ms (same ∙ y) ∙ rw y)
    (λ n. goes_on header l ms (same ∙ n) ∙ rw n (header_is ms))

-- where nothing is being collected
pub fresh_empty : (l : Line) (ms : List Line) → is_empty l.bytes ≡ true → fresh (l ∷ ms) ≡ fresh ms
unfolding blocks_from ended next stops collected begin
fresh_empty l ms e = rw e

fresh_line : (l : Line) (ms : List Line) → is_empty l.bytes ≡ false → fresh (l ∷ ms) ≡ blocks_from (inside (l ∷ [])) ms
unfolding blocks_from ended next stops collected begin
fresh_line l ms n = rw n

head_left : (h : Head) (e : ℕ) (arrow : Bool) → (head_after h e arrow).left ≡ next_left h.left arrow
unfolding next_left
head_left h e arrow =
    by-test (eqb h.left 0)
    (λ y. rw y (eqb-true h.left 0 y))
    (λ n. by-test arrow (λ y. rw (n, y)) (λ m. rw (n, m)))

abbrev pub slice : List ℕ → ℕ → ℕ → List ℕ
slice s from to = take (to - from) (drop from s)

-- the line that begins at a place, and what stands after it
abbrev pub end_at : List ℕ → ℕ → ℕ
end_at s p = p + length (line_at s p)

module _ (s : List ℕ) (p : ℕ) (l : p ≤ length s) where
  abbrev pub line_end : ℕ
  line_end = end_at s p

  pub line_inside : line_end ≤ length s
  line_inside = omega (arith, run_length in_line (drop p s), length-drop p s)

  line_part_lem : line_at s p ≡ slice s p line_end
  line_part_lem = let e : line_end - p ≡ length (line_at s p) = omega arith in rw e (run_take in_line (drop p s))

  line_lf : line_end < length s → get_or s line_end 0 ≡ lf
  line_lf k =
      let after = run-after in_line s p line_end (run_at in_line s p line_end l refl) k in
      eqb-true (get_or s line_end 0) lf (not-false (eqb (get_or s line_end 0) lf) after)

  -- a line and a part after it
  line_more : (to : ℕ) → line_end ≤ to → slice s p to ≡ line_at s p ++ slice s line_end to
  line_more to k =
      let e : to - p ≡ length (line_at s p) + (to - line_end) = omega arith in
      rw (e, take-add (length (line_at s p)) (to - line_end) (drop p s), drop-drop (length (line_at s p)) p s)
      (ap (λ x. x ++ slice s line_end to) (sym (run_take in_line (drop p s))))

-- a line holds no LF
run-whole : (x : List ℕ) → absent lf (run in_line x) ≡ true
unfolding absent run
run-whole [] = refl
run-whole (b ∷ x) = by-test (eqb b lf) (λ y. rw y) (λ n. rw (n, n) (run-whole x))

-- a part that is not empty begins with the byte at its place
pub slice_first : (s : List ℕ) (a b : ℕ) → a < length s → a < b → slice s a b ≡ get_or s a 0 ∷ slice s (a + 1) b
slice_first s a b l k =
    let n : b - a ≡ suc (b - (a + 1)) = omega arith in
    let m : a + 1 ≡ suc a = omega arith in
    rw (n, drop-cons s a 0 l, m)

slice-lf : (s : List ℕ) (e to : ℕ) → get_or s e 0 ≡ lf → e < length s → e < to → slice s e to ≡ lf ∷ slice s (e + 1) to
slice-lf s e to c l k = slice_first s e to l k ∙ ap (λ b. b ∷ slice s (e + 1) to) c

slice-none : (s : List ℕ) (e : ℕ) → slice s e e ≡ []
slice-none s e = let n : e - e ≡ 0 = omega arith in rw n

-- what collecting takes of the lines after one that ends at e, and where it stops
record Took (s : List ℕ) (e : ℕ) (h : Head) (ls : List Line) : Type 0 where
  goes : fresh (rest h.left ls) ≡ fresh (lines_from s (collect_from h e ls).at)
  upto : (collect_from h e ls).to ≤ (collect_from h e ls).at
  within : (collect_from h e ls).at ≤ length s
  not-before : e ≤ (collect_from h e ls).to
  bytes : after_line_ends (bytes_of (taken h.left ls)) ≡ slice s e (collect_from h e ls).to
  whole : unbroken (bytes_of (taken h.left ls)) ≡ true
  first : joined (taken h.left ls) ≡ cond (eqb e (collect_from h e ls).to) empty_part (record { place = e + 1; bytes = join (bytes_of (taken h.left ls)) })
  many : (collect_from h e ls).lines ≡ length (taken h.left ls)
  numbers :
      is_end (collect_from h e ls).why ≡ false
      → line_ends (take (collect_from h e ls).at s) ≡ suc (line_ends (take e s)) + (collect_from h e ls).lines

last_line_lem : (s : List ℕ) → fresh (lines_from s (length s)) ≡ []
unfolding blocks_from collected is_empty run
last_line_lem s =
    let none : line_at s (length s) ≡ [] = let all : length s ≤ length s = omega arith in ap (run in_line) (drop_of_length-le s all) in
    rw (lines_next s (length s) (length s) (omega arith) (sym (ap (λ x. length s + length x) none ∙ add-zero (length s))), none, lines_end s (length s + 1) (omega arith))
    (fresh_empty (record { number = line_ends (take (length s) s); place = length s; bytes = [] }) [] refl)

-- no block begins at a text's end or after it
pub fresh_after : (s : List ℕ) (p : ℕ) → length s ≤ p → fresh (lines_from s p) ≡ []
unfolding blocks_from collected
fresh_after s p l =
    by-test (ltb (length s) p)
    (λ y. rw (lines_end s p (ltb-true (length s) p y)) refl)
    (λ n. let e : p ≡ length s = omega (arith, ltb-false (length s) p n) in rw e (last_line_lem s))

collect_stop :
    (h : Head) (e : ℕ) (l : Line) (ms : List Line)
    → stop_at h.left l ≡ true
    → ((collect_from h e (l ∷ ms)).at ≡ l.place)
    × ((collect_from h e (l ∷ ms)).to ≡ e)
    × ((collect_from h e (l ∷ ms)).head ≡ h)
    × ((collect_from h e (l ∷ ms)).lines ≡ 0)
unfolding collect_from stop_at
collect_stop h e l ms y =
    by-test (is_empty l.bytes)
    (λ a. rw a (refl, refl, refl, refl))
    (λ b. let k : eqb h.left 0 && holds_arrow l.bytes ≡ true = rw b at y in rw (b, k) (refl, refl, refl, refl))

collect_step :
    (h : Head) (e : ℕ) (l : Line) (ms : List Line)
    → stop_at h.left l ≡ false
    → collect_from h e (l ∷ ms)
    ≡ more_lines 1 (collect_from (head_after h (l.place + length l.bytes) (holds_arrow l.bytes)) (l.place + length l.bytes) ms)
unfolding collect_from stop_at
collect_step h e l ms n =
    by-test (is_empty l.bytes)
    (λ a. let f : true ≡ false = rw a at n in absurd (true≢false f))
    (λ b. let k : eqb h.left 0 && holds_arrow l.bytes ≡ false = rw b at n in rw (b, k))

-- the lines at a stop, and at a line that is taken
lines-stop : (k : ℕ) (l : Line) (ms : List Line) → stop_at k l ≡ true → (taken k (l ∷ ms) ≡ []) × (rest k (l ∷ ms) ≡ l ∷ ms)
unfolding taken rest
lines-stop k l ms y = (rw y, rw y)

lines_step :
    (k : ℕ) (l : Line) (ms : List Line)
    → stop_at k l ≡ false
    → (taken k (l ∷ ms) ≡ l ∷ taken (next_left k (holds_arrow l.bytes)) ms) × (rest k (l ∷ ms) ≡ rest (next_left k (holds_arrow l.bytes)) ms)
unfolding taken rest
lines_step k l ms n = (rw n, rw n)

took_end : (s : List ℕ) (e : ℕ) (h : Head) → e ≡ length s → Took s e h []
unfolding taken rest collect_from blocks_from collected after_line_ends bytes_of joined unbroken
took_end s e h q =
    record {
      goes = rw q (sym (last_line_lem s));
      upto = omega arith;
      within = omega arith;
      not-before = omega arith;
      bytes = sym (slice-none s e);
      whole = refl;
      first = rw (eq-eqb e e refl);
      many = refl;
      numbers = λ k. absurd (true≢false k);
    }

took_stop :
    (s : List ℕ) (e : ℕ) (h : Head) (l : Line) (ms : List Line)
    → lines_from s (e + 1) ≡ l ∷ ms
    → l.place ≡ e + 1
    → e < length s
    → get_or s e 0 ≡ lf
    → stop_at h.left l ≡ true
    → Took s e h (l ∷ ms)
unfolding after_line_ends bytes_of joined unbroken
took_stop s e h l ms q p i c y =
    let st = collect_stop h e l ms y in
    let at : (collect_from h e (l ∷ ms)).at ≡ e + 1 = st.0 ∙ p in
    let None = lines-stop h.left l ms y in
    record {
      goes = rw (None.1, at, q);
      upto = omega (arith, at, st.1);
      within = omega (arith, at);
      not-before = omega (arith, st.1);
      bytes = rw (None.0, st.1, slice-none s e);
      whole = rw None.0;
      first = rw (None.0, st.1, eq-eqb e e refl);
      many = rw (None.0, st.3);
      numbers = λ k. rw (at, st.3) (omega (arith, ends_next s e i true (eq-eqb (get_or s e 0) lf c)));
    }

took_step :
    (s : List ℕ) (e : ℕ) (h : Head) (ms : List Line)
    → e < length s
    → get_or s e 0 ≡ lf
    → stop_at h.left (line_from s (e + 1)) ≡ false
    → Took s (end_at s (e + 1)) (head_after h (end_at s (e + 1)) (holds_arrow (line_at s (e + 1)))) ms
    → Took s e h (line_from s (e + 1) ∷ ms)
unfolding after_line_ends bytes_of joined unbroken
took_step s e h ms i c n t =
    let p = e + 1 in
    let x = line_at s p in
    let l = line_from s p in
    let e₂ = end_at s p in
    let h₂ = head_after h e₂ (holds_arrow x) in
    let k : h₂.left ≡ next_left h.left (holds_arrow x) = head_left h e₂ (holds_arrow x) in
    let st : collect_from h e (l ∷ ms) ≡ more_lines 1 (collect_from h₂ e₂ ms) = collect_step h e l ms n in
    let lines = lines_step h.left l ms n in
    let to = (collect_from h₂ e₂ ms).to in
    let more : slice s e to ≡ lf ∷ (x ++ slice s e₂ to) =
    slice-lf s e to c i (omega (arith, t.not-before)) ∙ ap (λ r. lf ∷ r) (line_more s p (omega arith) to t.not-before) in
    record {
      goes = rw (st, lines.1, sym k) t.goes;
      upto = rw st t.upto;
      within = rw st t.within;
      not-before = rw st (omega (arith, t.not-before));
      bytes = rw (st, lines.0, sym k, t.bytes, more);
      whole = rw (lines.0, run-whole (drop p s), sym k) t.whole;
      first = rw (st, lines.0, ne_eqb e to (λ q. absurd (omega (arith, t.not-before))));
      many = rw (st, lines.0, sym k) (omega (arith, t.many));
      numbers = rw st (λ k. omega (arith, t.numbers k, ends_same s p, ends_next s e i true (eq-eqb (get_or s e 0) lf c)));
    }

took : (s : List ℕ) (n e : ℕ) (h : Head) → length s < e + 1 + n → e ≤ length s → (e < length s → get_or s e 0 ≡ lf) → Took s e h (lines_from s (e + 1))
took s zero e h f l c = rw (lines_end s (e + 1) (omega arith)) (took_end s e h (omega arith))
took s (suc n) e h f l c =
    by-test (ltb e (length s))
    (λ y. let i = ltb-true e (length s) y in
    let x = line_at s (e + 1) in
    let e₂ = end_at s (e + 1) in
    let lines = lines_next s (e + 1) e₂ (omega arith) refl in
    by-test (stop_at h.left (line_from s (e + 1)))
    (λ stop. rw lines (took_stop s e h (line_from s (e + 1)) (lines_from s (e₂ + 1)) lines refl i (c i) stop))
    (λ go. rw lines
    (took_step s e h (lines_from s (e₂ + 1)) i (c i) go
    (took s n e₂ (head_after h e₂ (holds_arrow x)) (omega arith) (line_inside s (e + 1) (omega arith)) (line_lf s (e + 1) (omega arith))))))
    (λ z. let k = ltb-false e (length s) z in rw (lines_end s (e + 1) (omega arith)) (took_end s e h (omega arith)))

ended-join : (ys : List (List ℕ)) (z : List ℕ) → after_line_ends ys ≡ lf ∷ z → join ys ≡ z
unfolding after_line_ends join
ended-join [] z e = let f : ◌≡◌ {A = ℕ} 0 1 = cc in absurd (omega arith)
ended-join (y ∷ ys) z e = cc

-- the lines taken, as one part
after_is :
    (s : List ℕ) (e : ℕ) (h : Head) (ls : List Line)
    → Took s e h ls
    → e ≤ length s
    → (e < length s → get_or s e 0 ≡ lf)
    → joined (taken h.left ls) ≡ after_line_end s e (collect_from h e ls).to
after_is s e h ls t l c =
    let to = (collect_from h e ls).to in
    t.first
    ∙ by-test (eqb e to)
    (λ y. rw y refl)
    (λ n. let k : e < to = omega (arith, t.not-before, eqb-false e to n) in
    let i : e < length s = omega (arith, t.upto, t.within) in
    rw n (ap (λ b. record { place = e + 1; bytes = b }) (ended-join (bytes_of (taken h.left ls)) (slice s (e + 1) to) (t.bytes ∙ slice-lf s e to (c i) i k))))

head_stays : (h : Head) (e : ℕ) (ls : List Line) → h.left ≡ 0 → (collect_from h e ls).head ≡ h
unfolding collect_from
head_stays h e [] k = refl
head_stays h e (l ∷ ls) k =
    let e₂ = l.place + length l.bytes in
    let same : head_after h e₂ (holds_arrow l.bytes) ≡ h = rw (eq-eqb h.left 0 k) in
    by-test (stop_at h.left l)
    (λ y. (collect_stop h e l ls y).2)
    (λ n. ap (λ st. st.head) (collect_step h e l ls n) ∙ rw same (head_stays h e₂ ls k))

cue_with_lem : (id : Part) (ls : List Line) (t : Option Timing) → cue_of id ls t ≡ cue_with id (joined ls) t
unfolding cue_of
cue_with_lem id ls None = refl
cue_with_lem id ls (Some t) = refl

-- what a block means by its first lines
meaning-first :
    (seen : Bool) (l : Line) (ls : List Line) → holds_arrow l.bytes ≡ true → meaning seen (l ∷ ls) ≡ cue_with empty_part (joined ls) (timing_line (line_part l))
unfolding meaning
meaning-first seen l [] y = rw y (cue_with_lem empty_part [] (timing_line (line_part l)))
meaning-first seen l (m ∷ ms) y = rw y (cue_with_lem empty_part (m ∷ ms) (timing_line (line_part l)))

meaning-one : (seen : Bool) (l : Line) → holds_arrow l.bytes ≡ false → meaning seen (l ∷ []) ≡ nothing
unfolding meaning
meaning-one seen l n = rw n

meaning-second :
    (seen : Bool) (l m : Line) (ms : List Line)
    → holds_arrow l.bytes ≡ false
    → holds_arrow m.bytes ≡ true
    → meaning seen (l ∷ (m ∷ ms)) ≡ cue_with (line_part l) (joined ms) (timing_line (line_part m))
unfolding meaning
meaning-second seen l m ms n y = rw (n, y) (cue_with_lem (line_part l) ms (timing_line (line_part m)))

meaning-none :
    (seen : Bool) (l m : Line) (ms : List Line)
    → holds_arrow l.bytes ≡ false
    → holds_arrow m.bytes ≡ false
    → meaning seen (l ∷ (m ∷ ms)) ≡ definition_with seen l.bytes (joined (m ∷ ms))
unfolding meaning definition
meaning-none seen l m ms n k = rw (n, k)

-- the block that begins with a line at a place
module _ (s : List ℕ) (from : ℕ) (i : from < length s) (b : in_line (get_or s from 0) ≡ true) where
  abbrev x₁ : List ℕ
  x₁ = line_at s from

  abbrev e₁ : ℕ
  e₁ = end_at s from

  abbrev l₁ : Line
  l₁ = line_from s from

  abbrev after₁ : List Line
  after₁ = lines_from s (e₁ + 1)

  inside₁ : from ≤ length s
  inside₁ = omega arith

  Some₁ : 0 < length x₁
  Some₁ = omega (arith, ap length (run-next in_line s from i b))

  lf₁ : e₁ < length s → get_or s e₁ 0 ≡ lf
  lf₁ = line_lf s from inside₁

  lines₁ : lines_from s from ≡ l₁ ∷ after₁
  lines₁ = lines_next s from e₁ inside₁ refl

  is₁ : line_part l₁ ≡ part s from e₁
  is₁ = ap (λ x. record { place = from; bytes = x }) (line_part_lem s from inside₁)

  took₁ : (h : Head) → Took s e₁ h after₁
  took₁ h = took s (length s) e₁ h (omega arith) (line_inside s from inside₁) lf₁

  -- the block, with what is known of its first lines after the first one
  block :
      (h : Head)
      → h.left ≡ next_left 2 (holds_arrow x₁)
      → let st = collect_from h e₁ after₁ in
      st.head.first ≡ e₁
      → e₁ ≤ st.head.end
      → st.head.end ≤ st.to
      → ((seen : Bool) → meaning seen (l₁ ∷ taken h.left after₁) ≡ meaning_at seen s (record { from = from; stop = more_lines 1 st }))
      → BlockAt s (record { from = from; stop = more_lines 1 st })
  unfolding left_of first_number bytes_of join unbroken
  block h k f e t m =
      let tk = took₁ h in
      let more = bytes_of (taken h.left after₁) in
      let to = (collect_from h e₁ after₁).to in
      let text : slice s from to ≡ join (x₁ ∷ more) = line_more s from inside₁ to tk.not-before ∙ ap (λ r. x₁ ++ r) (sym tk.bytes) in
      record {
        lines = l₁ ∷ taken h.left after₁;
        divides =
            ap fresh lines₁
            ∙ fresh_line l₁ after₁ (is_empty-not x₁ Some₁)
            ∙ inside_is (l₁ ∷ []) after₁
            ∙ rw (sym k) (ap (λ r. (l₁ ∷ taken h.left after₁) ∷ r) tk.goes);
        meant = m;
        begins = refl;
        covers = ap split text ∙ split-join x₁ more (rw (run-whole (drop from s)) tk.whole);
        counted = omega (arith, tk.many);
        numbers = λ k. omega (arith, tk.numbers k, ends_same s from);
        starts = omega (arith, Some₁, f);
        first_end_lem = omega (arith, f);
        end_to = t;
        to_at = tk.upto;
        inside = tk.within;
      }

  abbrev head_first : Head
  head_first = record { left = 0; first = e₁; end = e₁; timed = true }

  first_timed : holds_arrow x₁ ≡ true → BlockAt s (record { from = from; stop = more_lines 1 (collect_from head_first e₁ after₁) })
  unfolding next_left meaning_at
  first_timed y =
      let hs = head_stays head_first e₁ after₁ refl in
      let tk = took₁ head_first in
      block head_first (rw y) (ap (λ h. h.first) hs) (omega (arith, ap (λ h. h.end) hs)) (omega (arith, ap (λ h. h.end) hs, tk.not-before))
      (λ seen. meaning-first seen l₁ (taken 0 after₁) y
      ∙ rw (after_is s e₁ head_first after₁ tk (line_inside s from inside₁) lf₁, is₁, hs, eq-eqb e₁ e₁ refl))

  module _ (n : holds_arrow x₁ ≡ false) where
    abbrev head_one : Head
    head_one = record { left = 1; first = e₁; end = e₁; timed = false }

    left₁ : 1 ≡ next_left 2 (holds_arrow x₁)
    unfolding next_left
    left₁ = rw n

    abbrev stop₁ : Stop
    stop₁ = collect_from head_one e₁ after₁

    -- the first line is the only one
    alone : stop₁.head ≡ head_one → stop₁.to ≡ e₁ → taken 1 after₁ ≡ [] → BlockAt s (record { from = from; stop = more_lines 1 stop₁ })
    unfolding meaning_at
    alone hs t only =
        block head_one left₁ (ap (λ h. h.first) hs) (omega (arith, ap (λ h. h.end) hs)) (omega (arith, ap (λ h. h.end) hs, t))
        (λ seen. ap (λ r. meaning seen (l₁ ∷ r)) only ∙ meaning-one seen l₁ n ∙ rw (hs, t, eq-eqb e₁ e₁ refl))

    at_end : length s ≤ e₁ → BlockAt s (record { from = from; stop = more_lines 1 stop₁ })
    unfolding collect_from taken
    at_end k =
        let None = lines_end s (e₁ + 1) (omega arith) in
        alone (ap (λ r. (collect_from head_one e₁ r).head) None) (ap (λ r. (collect_from head_one e₁ r).to) None) (ap (taken 1) None)

    module _ (k : e₁ < length s) where
      abbrev x₂ : List ℕ
      x₂ = line_at s (e₁ + 1)

      abbrev e₂ : ℕ
      e₂ = end_at s (e₁ + 1)

      abbrev l₂ : Line
      l₂ = line_from s (e₁ + 1)

      abbrev after₂ : List Line
      after₂ = lines_from s (e₂ + 1)

      inside₂ : e₁ + 1 ≤ length s
      inside₂ = omega arith

      lines₂ : after₁ ≡ l₂ ∷ after₂
      lines₂ = lines_next s (e₁ + 1) e₂ inside₂ refl

      is₂ : line_part l₂ ≡ part s (e₁ + 1) e₂
      is₂ = ap (λ x. record { place = e₁ + 1; bytes = x }) (line_part_lem s (e₁ + 1) inside₂)

      lf₂ : e₂ < length s → get_or s e₂ 0 ≡ lf
      lf₂ = line_lf s (e₁ + 1) inside₂

      took₂ : (h : Head) → Took s e₂ h after₂
      took₂ h = took s (length s) e₂ h (omega arith) (line_inside s (e₁ + 1) inside₂) lf₂

      stopped : stop_at 1 l₂ ≡ true → BlockAt s (record { from = from; stop = more_lines 1 stop₁ })
      stopped y =
          let st = collect_stop head_one e₁ l₂ after₂ y in
          alone (ap (λ r. (collect_from head_one e₁ r).head) lines₂ ∙ st.2) (ap (λ r. (collect_from head_one e₁ r).to) lines₂ ∙ st.1)
          (ap (taken 1) lines₂ ∙ (lines-stop 1 l₂ after₂ y).0)

      module _ (g : stop_at 1 l₂ ≡ false) where
        step₂ : (a : Bool) → holds_arrow x₂ ≡ a → stop₁ ≡ more_lines 1 (collect_from (head_after head_one e₂ a) e₂ after₂)
        step₂ a q =
            ap (collect_from head_one e₁) lines₂ ∙ collect_step head_one e₁ l₂ after₂ g ∙ ap (λ t. more_lines 1 (collect_from (head_after head_one e₂ t) e₂ after₂)) q

        taken₂ : taken 1 after₁ ≡ l₂ ∷ taken 0 after₂
        unfolding next_left
        taken₂ =
            ap (taken 1) lines₂
            ∙ (lines_step 1 l₂ after₂ g).0
            ∙ by-test (holds_arrow x₂) (λ y. rw y) (λ m. rw m)

        abbrev head_second : Head
        head_second = record { left = 0; first = e₁; end = e₂; timed = true }

        second_timed : holds_arrow x₂ ≡ true → BlockAt s (record { from = from; stop = more_lines 1 stop₁ })
        unfolding meaning_at
        second_timed y =
            let st : stop₁ ≡ more_lines 1 (collect_from head_second e₂ after₂) = step₂ true y in
            let hs = head_stays head_second e₂ after₂ refl in
            let tk = took₂ head_second in
            let f = ap (λ h. h.first) hs in
            let e = ap (λ h. h.end) hs in
            block head_one left₁ (rw st f) (rw st (omega (arith, e))) (rw st (omega (arith, e, tk.not-before)))
            (λ seen. ap (λ r. meaning seen (l₁ ∷ r)) taken₂
            ∙ meaning-second seen l₁ l₂ (taken 0 after₂) n y
            ∙ rw (
              after_is s e₂ head_second after₂ tk (line_inside s (e₁ + 1) inside₂) lf₂,
              is₁,
              is₂,
              st,
              hs,
              ne_eqb e₁ e₂ (λ q. absurd (omega arith)),
            ))

        abbrev head_none : Head
        head_none = record { left = 0; first = e₁; end = e₁; timed = false }

        untimed : holds_arrow x₂ ≡ false → BlockAt s (record { from = from; stop = more_lines 1 stop₁ })
        unfolding meaning_at
        untimed m =
            let st : stop₁ ≡ more_lines 1 (collect_from head_none e₂ after₂) = step₂ false m in
            let hs = head_stays head_none e₂ after₂ refl in
            let tk = took₂ head_none in
            let f = ap (λ h. h.first) hs in
            let e = ap (λ h. h.end) hs in
            let to = (collect_from head_none e₂ after₂).to in
            let text : joined (l₂ ∷ taken 0 after₂) ≡ after_line_end s e₁ to =
            ap joined (sym taken₂) ∙ after_is s e₁ head_one after₁ (took₁ head_one) (line_inside s from inside₁) lf₁ ∙ ap (λ x. after_line_end s e₁ x.to) st in
            block head_one left₁ (rw st f) (rw st (omega (arith, e))) (rw st (omega (arith, e, tk.not-before)))
            (λ seen. ap (λ r. meaning seen (l₁ ∷ r)) taken₂
            ∙ meaning-none seen l₁ l₂ (taken 0 after₂) n m
            ∙ ap (λ x. definition_with seen x (joined (l₂ ∷ taken 0 after₂))) (line_part_lem s from inside₁)
            ∙ rw (text, st, hs, ne_eqb e₁ to (λ q. absurd (omega (arith, tk.not-before)))))

    first_untimed : BlockAt s (record { from = from; stop = more_lines 1 stop₁ })
    first_untimed =
        by-test (ltb e₁ (length s))
        (λ y. let k = ltb-true e₁ (length s) y in
        by-test (stop_at 1 (l₂ k))
        (stopped k)
        (λ g. by-test (holds_arrow (x₂ k)) (second_timed k g) (untimed k g)))
        (λ z. at_end (ltb-false e₁ (length s) z))

  pub block_at : BlockAt s (record { from = from; stop = collect_from (record { left = 2; first = 0; end = 0; timed = false }) from (lines_from s from) })
  block_at =
      let opening : Head = record { left = 2; first = 0; end = 0; timed = false } in
      let st = collect_line s from opening from inside₁ Some₁ e₁ refl refl in
      by-test (holds_arrow x₁)
      (λ y. rw (st, y) (first_timed y))
      (λ n. rw (st, n) (first_untimed n))

none_left : (a : Bool) (ms : List Line) → rest (next_left 0 a) ms ≡ rest 0 ms
unfolding next_left
none_left a ms = refl

-- the lines after a header, which no line of it can end but an empty one or one with an arrow
pub header_at :
    (s : List ℕ) (p : ℕ)
    → p ≤ length s
    → let st = collect_from (record { left = 0; first = 0; end = 0; timed = false }) p (lines_from s p) in
    (blocks_from header (lines_from s p) ≡ fresh (lines_from s st.at)) × (st.at ≤ length s)
header_at s p l =
    let h : Head = record { left = 0; first = 0; end = 0; timed = false } in
    let e = end_at s p in
    let m = line_from s p in
    let ms = lines_from s (e + 1) in
    let lines : lines_from s p ≡ m ∷ ms = lines_next s p e l refl in
    by-test (stop_at 0 m)
    (λ y. let at : (collect_from h p (lines_from s p)).at ≡ p = ap (λ r. (collect_from h p r).at) lines ∙ (collect_stop h p m ms y).0 in
    (header_is (lines_from s p) ∙ ap (λ r. fresh (rest 0 r)) lines ∙ ap fresh ((lines-stop 0 m ms y).1 ∙ sym lines) ∙ ap (λ a. fresh (lines_from s a)) (sym at), omega (arith, at)))
    (λ n. let tk = took s (length s) e h (omega arith) (line_inside s p l) (line_lf s p l) in
    let st : collect_from h p (lines_from s p) ≡ more_lines 1 (collect_from h e ms) = ap (collect_from h p) lines ∙ collect_step h p m ms n in
    (header_is (lines_from s p) ∙ ap (λ r. fresh (rest 0 r)) lines ∙ ap fresh ((lines_step 0 m ms n).1 ∙ none_left (holds_arrow (line_at s p)) ms) ∙ tk.goes ∙ ap (λ a. fresh (lines_from s a.at)) (sym st), rw st tk.within))

from_start : (s : List ℕ) → lines_at 0 0 (split s) ≡ lines_from s 0
unfolding lines_from line_ends
from_start s = rw (le-ltb (length s) 0 (omega arith))

-- the blocks of a text are those of the lines after its first, from the header on
pub blocks-after : (s : List ℕ) (e : ℕ) → e ≡ 0 + length (line_at s 0) → blocks s ≡ blocks_from header (lines_from s (e + 1))
unfolding blocks after_signature
blocks-after s e q = ap after_signature (from_start s ∙ lines_next s 0 e (omega arith) q)

pub no_blocks : (s : List ℕ) (e : ℕ) → e ≡ 0 + length (line_at s 0) → e ≡ length s → blocks s ≡ fresh (lines_from s e)
unfolding blocks_from collected
no_blocks s e q l = blocks-after s e q ∙ rw (lines_end s (e + 1) (omega arith), l) (sym (last_line_lem s))
