-- The lines of a text at a place, as a loop goes over them, and arrows in them.
use Prim.Native.Nat.{ℕ, zero, suc, ◌+◌, ◌-◌, ◌≤◌, ◌<◌}
use mathlib.Core.Path.{◌≡◌, refl, sym, ap, ◌∙◌}
use mathlib.Core.Bool.{Bool, true, false, cond, ◌&&◌, ◌||◌, true≢false}
use mathlib.Core.List.{List, [], ◌∷◌, ◌++◌}
use native.Mathlib.Numerals.{add-one}
use native.Mathlib.Omega.{arith}
use lib.Dec.{eqb, ltb}
use lib.ListN.{length, get_or, take, drop, length-drop, drop_of_length-le}
use lib.Seq.{take-suc, take-add, drop-cons, drop-drop}
use borrow.Author.Tests.{eqb-true, eq-eqb, ne_eqb, lt-ltb, le-ltb, ltb-true, ltb-false}
use Rattle.std.specs.Cmp.Lexicographic.{pointwise}
use Rattle.std.proofs.lemmas.Cmp.{nat_list_eq_equiv}
use Rattle.std.specs.List.{count_by}
use Rattle.std.proofs.lemmas.List.Recursion.{is_count_by}
use Rattle.format.specs.Bytes.{ascii, lf}
use Rattle.format.specs.Texts.{starts_with, is_empty, all, run}
use Rattle.format.specs.Lines.{split_list_at, split, before, on_first}
use Rattle.format.specs.Blocks.{Line, lines_at, holds_arrow}
use Rattle.laws.proofs.Lines.{splits}
use Rattle.laws.proofs.Tests.{by-test, and_left, and_right, and-false, and-true}
use Rattle.laws.proofs.Runs.{run-next, run-stop, run_end, run_length, run_take}
use Rattle.values.proofs.NumberLaws.{is_empty-not}
use Rattle.blocks.specs.declared.collecting.Head.{Head}
use Rattle.blocks.specs.declared.collecting.Why.TheVariants as Why
use Rattle.blocks.specs.declared.collecting.Stop.{Stop}
use Rattle.blocks.specs.Collecting.{line_ends, lines_from, head_after, more_lines, collect_from, in_line, line_at, ArrowOrEnd}

-- the lines after a text's first line
others : List ℕ → List (List ℕ)
others s = cond (ltb (length (run in_line s)) (length s)) (split (drop (suc (length (run in_line s))) s)) []

ltb-suc : (m n : ℕ) → ltb (suc m) (suc n) ≡ ltb m n
ltb-suc m n =
    by-test (ltb m n)
    (λ y. lt-ltb (suc m) (suc n) (omega (arith, ltb-true m n y)) ∙ sym y)
    (λ z. le-ltb (suc m) (suc n) (omega (arith, ltb-false m n z)) ∙ sym z)

split-first : (s : List ℕ) → split s ≡ run in_line s ∷ others s
unfolding split_list_at run others before on_first
split-first [] = refl
split-first (b ∷ s) =
    by-test (eqb b lf)
    (λ y. rw (y, lt-ltb 0 (suc (length s)) (omega arith)))
    (λ n. rw (n, split-first s, ltb-suc (length (run in_line s)) (length s)))

-- the line ends of a text, as the code counts them
pub ends_counted : (s : List ℕ) → line_ends s ≡ count_by (λ b. eqb b lf) s
unfolding line_ends
ends_counted s = is_count_by line_ends (λ b. eqb b lf) refl (λ b t. by-test (eqb b lf) (λ y. rw y refl) (λ n. rw n (omega arith))) s

-- how many LF texts have
pub ends_append : (x y : List ℕ) → line_ends (x ++ y) ≡ line_ends x + line_ends y
unfolding line_ends
ends_append [] y = omega arith
ends_append (b ∷ x) y = omega (arith, ends_append x y)

-- the line ends up to a place, with one byte more
pub ends_next :
    (s : List ℕ) (i : ℕ)
    → i < length s
    → (t : Bool)
    → eqb (get_or s i 0) lf ≡ t
    → line_ends (take (i + 1) s) ≡ line_ends (take i s) + cond t 1 0
unfolding line_ends
ends_next s i l t e = rw (sym e, add-one i, take-suc s i 0 l) (omega (arith, ends_append (take i s) (get_or s i 0 ∷ [])))

-- the line ends up to a place, with those from there up to another
pub ends_more :
    (s : List ℕ) (from to : ℕ) → from ≤ to → line_ends (take to s) ≡ line_ends (take from s) + line_ends (take (to - from) (drop from s))
ends_more s from to l =
    let e : to ≡ from + (to - from) = omega arith in
    ap (λ i. line_ends (take i s)) e ∙ ap line_ends (take-add from (to - from) s) ∙ ends_append (take from s) (take (to - from) (drop from s))

-- no more than bytes
pub ends_few : (s : List ℕ) (n : ℕ) → line_ends (take n s) ≤ length s
unfolding line_ends
ends_few [] zero = omega arith
ends_few [] (suc n) = omega arith
ends_few (b ∷ s) zero = omega arith
ends_few (b ∷ s) (suc n) = by-test (eqb b lf) (λ y. rw y (omega (arith, ends_few s n))) (λ z. rw z (omega (arith, ends_few s n)))

-- a text has one line more than LF
pub ends-split : (x : List ℕ) → length (split x) ≡ suc (line_ends x)
unfolding line_ends split_list_at before on_first
ends-split [] = refl
ends-split (b ∷ x) =
    let t = splits x in
    let n = ends-split x in
    by-test (eqb b lf)
    (λ y. rw y (omega arith))
    (λ z. rw (z, t.is) (omega (arith, rw t.is at n)))

-- as many as bytes in a run of LF, and none in a line
ends_empty : (x : List ℕ) → line_ends (run (λ b. eqb b lf) x) ≡ length (run (λ b. eqb b lf) x)
unfolding line_ends run
ends_empty [] = refl
ends_empty (b ∷ x) = by-test (eqb b lf) (λ y. rw (y, y) (omega (arith, ends_empty x))) (λ n. rw n)

ends-none : (x : List ℕ) → line_ends (run in_line x) ≡ 0
unfolding line_ends run
ends-none [] = refl
ends-none (b ∷ x) = by-test (eqb b lf) (λ y. rw y) (λ n. rw (n, n) (omega (arith, ends-none x)))

-- so the line ends up to a place, with a run of LF there, and with a line there
pub ends-run : (s : List ℕ) (at : ℕ) → let n = length (run (λ b. eqb b lf) (drop at s)) in line_ends (take (at + n) s) ≡ line_ends (take at s) + n
ends-run s at =
    let x = drop at s in
    let n = length (run (λ b. eqb b lf) x) in
    omega (arith, ap line_ends (take-add at n s), ends_append (take at s) (take n x), ap line_ends (run_take (λ b. eqb b lf) x), ends_empty x)

pub ends_same : (s : List ℕ) (p : ℕ) → line_ends (take (p + length (line_at s p)) s) ≡ line_ends (take p s)
ends_same s p =
    let x = drop p s in
    let n = length (run in_line x) in
    omega (arith, ap line_ends (take-add p n s), ends_append (take p s) (take n x), ap line_ends (run_take in_line x), ends-none x)

-- a line with the LF that ends it has one
ends_line_lem : (x : List ℕ) → length (run in_line x) < length x → line_ends (take (suc (length (run in_line x))) x) ≡ 1
unfolding line_ends run
ends_line_lem [] h = absurd (omega arith)
ends_line_lem (b ∷ x) h =
    by-test (eqb b lf)
    (λ y. rw y)
    (λ n. let l : suc (length (run in_line x)) < suc (length x) = rw n at h in rw n (omega (arith, ends_line_lem x (omega arith))))

-- the line that begins at a place
abbrev pub line_from : List ℕ → ℕ → Line
line_from s p = record { number = line_ends (take p s); place = p; bytes = line_at s p }

-- the line after an LF has the next number
number-next :
    (s : List ℕ) (p : ℕ) → length (line_at s p) < length (drop p s) → suc (line_ends (take p s)) ≡ line_ends (take (p + suc (length (line_at s p))) s)
number-next s p l =
    let n = suc (length (line_at s p)) in
    omega (arith, ends_append (take p s) (take n (drop p s)), ends_line_lem (drop p s) l, ap line_ends (take-add p n s))

pub lines_end : (s : List ℕ) (p : ℕ) → length s < p → lines_from s p ≡ []
unfolding lines_from
lines_end s p l = rw (lt-ltb (length s) p l)

-- a line, and those after it
pub lines_next : (s : List ℕ) (p e : ℕ) → p ≤ length s → e ≡ p + length (line_at s p) → lines_from s p ≡ line_from s p ∷ lines_from s (e + 1)
unfolding lines_from lines_at others
lines_next s p e l q =
    let x = line_at s p in
    let at : p + suc (length x) ≡ e + 1 = omega arith in
    let n = length-drop p s in
    let k : suc (length x) + p ≡ e + 1 = omega arith in
    rw (le-ltb (length s) p l, split-first (drop p s), at)
    (ap (λ r. line_from s p ∷ r)
    (by-test (ltb (length x) (length (drop p s)))
    (λ y. let more = ltb-true (length x) (length (drop p s)) y in
    let number : suc (line_ends (take p s)) ≡ line_ends (take (e + 1) s) = number-next s p more ∙ ap (λ i. line_ends (take i s)) at in
    rw (y, le-ltb (length s) (e + 1) (omega arith), drop-drop (suc (length x)) p s, at, number))
    (λ z. rw (z, lt-ltb (length s) (e + 1) (omega (arith, ltb-false (length x) (length (drop p s)) z, run_length in_line (drop p s)))))))

-- a word without the bytes that end a run stands in the run where it stands in the text
starts-run : (p : ℕ → Bool) (w s : List ℕ) → all p w ≡ true → starts_with w (run p s) ≡ starts_with w s
unfolding starts_with run all
starts-run p [] s a = refl
starts-run p (c ∷ w) [] a = refl
starts-run p (c ∷ w) (b ∷ s) a =
    by-test (p b)
    (λ y. rw y (ap (λ r. eqb b c && r) (starts-run p w s (and_right (p c) (all p w) a))))
    (λ n. by-test (eqb b c)
    (λ y. let q : p c ≡ true = and_left (p c) (all p w) a in
    let same : p b ≡ p c = ap p (eqb-true b c y) in let f : true ≡ false = sym q ∙ sym same ∙ n in cc)
    (λ z. rw (n, z)))

pub arrow-next :
    (s : List ℕ) (i : ℕ)
    → i < length s
    → in_line (get_or s i 0) ≡ true
    → holds_arrow (run in_line (drop i s)) ≡ starts_with (ascii "-->") (drop i s) || holds_arrow (run in_line (drop (i + 1) s))
unfolding holds_arrow all
arrow-next s i l e =
    let next = run-next in_line s i l e in
    rw next (ap (λ t. t || holds_arrow (run in_line (drop (i + 1) s))) (sym (ap (starts_with (ascii "-->")) next) ∙ starts-run in_line (ascii "-->") (drop i s) refl))

-- up to i no arrow stands in the line that begins at p
pub record Sought (s : List ℕ) (p i : ℕ) : Type 0 where
  pub begins : p ≤ i
  pub same_end : i + length (line_at s i) ≡ p + length (line_at s p)
  pub holds : holds_arrow (line_at s p) ≡ holds_arrow (line_at s i)

pub sought_first : (s : List ℕ) (p : ℕ) → Sought s p p
sought_first s p = record { begins = omega arith; same_end = refl; holds = refl }

module _ (s : List ℕ) (p i : ℕ) (so : Sought s p i) where
  pub sought_next :
      i < length s
      → (get_or s i 0 ≡ lf → ⊥)
      → starts_with (ascii "-->") (drop i s) ≡ false
      → Sought s p (i + 1)
  sought_next l n a =
      let byte : in_line (get_or s i 0) ≡ true = rw (ne_eqb (get_or s i 0) lf n) refl in
      let next = run-next in_line s i l byte in
      record {
        begins = omega (arith, so.begins);
        same_end = omega (arith, so.same_end, ap length next);
        holds = so.holds ∙ arrow-next s i l byte ∙ ap (λ t. t || holds_arrow (line_at s (i + 1))) a;
      }

  pub sought_arrow :
      i < length s
      → (get_or s i 0 ≡ lf → ⊥)
      → starts_with (ascii "-->") (drop i s) ≡ true
      → ArrowOrEnd s p i
  sought_arrow l n a =
      let byte : in_line (get_or s i 0) ≡ true = rw (ne_eqb (get_or s i 0) lf n) refl in
      record {
        begins = so.begins;
        inside = omega arith;
        same_end = so.same_end;
        holds = so.holds ∙ arrow-next s i l byte ∙ rw a;
        ends = λ f. absurd (true≢false (sym a ∙ f));
      }

  at_end : i ≤ length s → line_at s i ≡ [] → ArrowOrEnd s p i
  unfolding holds_arrow all starts_with
  at_end l none =
      record {
        begins = so.begins;
        inside = l;
        same_end = so.same_end;
        holds = so.holds ∙ ap holds_arrow none ∙ sym (sym (starts-run in_line (ascii "-->") (drop i s) refl) ∙ ap (starts_with (ascii "-->")) none);
        ends = λ f. none;
      }

  pub sought_lf : i < length s → get_or s i 0 ≡ lf → ArrowOrEnd s p i
  sought_lf l e = at_end (omega arith) (run-stop in_line s i l (rw (eq-eqb (get_or s i 0) lf e) refl))

  pub sought_end : i ≡ length s → ArrowOrEnd s p i
  sought_end e = at_end (omega arith) (run_end in_line s i (omega arith))

-- beginning with a word, as the library's methods tell it
pub starts_prefix : (w x : List ℕ) → starts_with w x ≡ pointwise eqb (take (length w) x) w
unfolding starts_with
starts_prefix [] x = refl
starts_prefix (c ∷ w) [] = refl
starts_prefix (c ∷ w) (b ∷ x) = ap (λ t. eqb b c && t) (starts_prefix w x)

pub starts_is : (w x : List ℕ) → starts_with w x ≡ pointwise eqb w (take (length w) x)
starts_is w x = starts_prefix w x ∙ nat_list_eq_equiv.symm (take (length w) x) w

-- no arrow stands where no hyphen does
pub arrow_other : (s : List ℕ) (i : ℕ) → i < length s → (get_or s i 0 ≡ 0x2D → ⊥) → starts_with (ascii "-->") (drop i s) ≡ false
unfolding starts_with
arrow_other s i l n = rw (drop-cons s i 0 l, ne_eqb (get_or s i 0) 0x2D n)

pub arrow_none : (s : List ℕ) (i : ℕ) → length s ≤ i → starts_with (ascii "-->") (drop i s) ≡ false
unfolding starts_with
arrow_none s i l = rw (drop_of_length-le s {i = i} l) refl

holds_some : (x : List ℕ) → holds_arrow x ≡ true → 0 < length x
unfolding holds_arrow
holds_some [] a = absurd (true≢false (sym a))
holds_some (b ∷ x) a = omega arith

no_line : (x : List ℕ) → length x ≡ 0 → x ≡ []
no_line [] e = refl
no_line (b ∷ x) e = absurd (omega arith)

-- collecting, at the line that begins at a place
module _ (s : List ℕ) (p : ℕ) (h : Head) (e : ℕ) (l : p ≤ length s) where
  at_line : collect_from h e (lines_from s p) ≡ collect_from h e (line_from s p ∷ lines_from s (p + length (line_at s p) + 1))
  at_line = ap (collect_from h e) (lines_next s p (p + length (line_at s p)) l refl)

  pub collect_empty : line_at s p ≡ [] → collect_from h e (lines_from s p) ≡ record { why = Why.EmptyLine; at = p; to = e; lines = 0; head = h }
  unfolding collect_from is_empty
  collect_empty n = at_line ∙ rw n

  module _ (some : 0 < length (line_at s p)) where
    pub collect_arrow :
        h.left ≡ 0
        → holds_arrow (line_at s p) ≡ true
        → collect_from h e (lines_from s p) ≡ record { why = Why.Arrow; at = p; to = e; lines = 0; head = h }
    unfolding collect_from
    collect_arrow k a = at_line ∙ rw (is_empty-not (line_at s p) some, k, a)

    pub collect_line :
        (end : ℕ)
        → end ≡ p + length (line_at s p)
        → eqb h.left 0 && holds_arrow (line_at s p) ≡ false
        → collect_from h e (lines_from s p) ≡ more_lines 1 (collect_from (head_after h end (holds_arrow (line_at s p))) end (lines_from s (end + 1)))
    unfolding collect_from
    collect_line end q a = at_line ∙ rw (is_empty-not (line_at s p) some, a, q)

-- the same from what the code knows: where the line's first arrow stands or the line ends, whether an arrow stands there, and where the line ends
module _
    (s : List ℕ) (h : Head) (e p i n : ℕ) (arrow : Bool)
    (mark : ArrowOrEnd s p i)
    (told : arrow ≡ starts_with (ascii "-->") (drop i s))
  where
    holds : holds_arrow (line_at s p) ≡ arrow
    holds = mark.holds ∙ sym told

    l : p ≤ length s
    l = omega (arith, mark.begins, mark.inside)

    -- a stop at which no further line is taken
    none_more : (st : Stop) → st.lines ≡ 0 → record { why = st.why; at = st.at; to = st.to; lines = n; head = st.head } ≡ more_lines n st
    none_more st k =
        let more : n ≡ n + st.lines = omega arith in
        ap (λ m. record { why = st.why; at = st.at; to = st.to; lines = m; head = st.head }) more

    pub stops_at_arrow :
        h.left ≡ 0
        → arrow ≡ true
        → record { why = Why.Arrow; at = p; to = e; lines = n; head = h } ≡ more_lines n (collect_from h e (lines_from s p))
    stops_at_arrow k a =
        none_more (record { why = Why.Arrow; at = p; to = e; lines = 0; head = h }) refl
        ∙ ap (more_lines n) (sym (collect_arrow s p h e l (holds_some (line_at s p) (holds ∙ a)) k (holds ∙ a)))

    module _ (end : ℕ) (ended : end ≡ i + length (line_at s i)) where
      pub stops_at_empty : end ≡ p → record { why = Why.EmptyLine; at = p; to = e; lines = n; head = h } ≡ more_lines n (collect_from h e (lines_from s p))
      stops_at_empty q =
          let none : line_at s p ≡ [] = no_line (line_at s p) (omega (arith, mark.same_end)) in
          none_more (record { why = Why.EmptyLine; at = p; to = e; lines = 0; head = h }) refl ∙ ap (more_lines n) (sym (collect_empty s p h e l none))

      pub end_inside : end ≤ length s
      end_inside = omega (arith, mark.inside, run_length in_line (drop i s), length-drop i s)

      module _ (some : end ≡ p → ⊥) (no_stop : eqb h.left 0 && arrow ≡ false) where
        line_some : 0 < length (line_at s p)
        line_some = omega (arith, mark.same_end)

        pub takes :
            more_lines (n + 1) (collect_from (head_after h end arrow) end (lines_from s (end + 1))) ≡ more_lines n (collect_from h e (lines_from s p))
        takes =
            let st = collect_from (head_after h end arrow) end (lines_from s (end + 1)) in
            let more : n + 1 + st.lines ≡ n + (1 + st.lines) = omega arith in
            let no : eqb h.left 0 && holds_arrow (line_at s p) ≡ false = rw holds no_stop in
            ap (λ m. record { why = st.why; at = st.at; to = st.to; lines = m; head = st.head }) more
            ∙ ap (λ a. more_lines n (more_lines 1 (collect_from (head_after h end a) end (lines_from s (end + 1))))) (sym holds)
            ∙ ap (more_lines n) (sym (collect_line s p h e l line_some end (omega (arith, mark.same_end)) no))

        pub stops_at_end :
            end ≡ length s
            → record { why = Why.End; at = end; to = end; lines = n + 1; head = head_after h end arrow } ≡ more_lines n (collect_from h e (lines_from s p))
        unfolding collect_from
        stops_at_end q =
            let more : n + 1 ≡ n + 1 + 0 = omega arith in
            ap (λ m. record { why = Why.End; at = end; to = end; lines = m; head = head_after h end arrow }) more
            ∙ sym (ap (λ r. more_lines (n + 1) (collect_from (head_after h end arrow) end r)) (lines_end s (end + 1) (omega arith)))
            ∙ takes

-- nothing taken yet
pub more_none : (st : Stop) → more_lines 0 st ≡ st
more_none st = let e : 0 + st.lines ≡ st.lines = omega arith in ap (λ k. record { why = st.why; at = st.at; to = st.to; lines = k; head = st.head }) e
