-- Laws of the strings: their lengths, the turns of the loops that put them, and a tag's classes as one string.
use Prim.Native.Nat.{ℕ, suc, ◌+◌, ◌-◌, ◌≤◌, ◌<◌}
use mathlib.Core.Path.{◌≡◌, refl, sym, ap, ◌∙◌}
use mathlib.Core.Bool.{Bool, true, false, not, cond, false≢true}
use mathlib.Core.List.{List, [], ◌∷◌, ◌++◌, append-nil, append_assoc}
use native.Mathlib.Omega.{arith}
use native.Mathlib.Numerals.{add-one}
use lib.Dec.{eqb, ltb}
use lib.ListN.{length, get_or, drop, length-append, length-take, length-drop, drop_of_length-le, get_or-eq_default}
use lib.Seq.{drop-cons, append_snoc}
use borrow.Author.Tests.{eqb-true, le-ltb, ltb-true, ltb-false}
use Rattle.format.specs.Bytes.{ascii, ampersand, semicolon, full_stop, digit, alphanumeric}
use Rattle.format.specs.Texts.{same, is_empty, bytes_at, run, past_run, before_first}
use Rattle.format.specs.Lines.{on_first, before, split_list_at}
use Rattle.format.specs.CueText.{escaped, parted, collapsing, collapsed_from, collapsed}
use Rattle.format.specs.Trees.{class_string}
use Rattle.tokenizer.specs.Decoding.{added, holding, decoded_from, decoded}
use Rattle.tokenizer.specs.Tags.{split_stops, classes_of}
use Rattle.laws.proofs.Tests.{by-test, and_left, and_right}
use Rattle.laws.proofs.Runs.{RunAt, same-is, run_at, run-moves}
use Rattle.strings.specs.Stores.{separates, one}
use Rattle.strings.specs.Turns.{piece_end, escapes, word, left}

-- an escape is longer than what it stands for
escape_is_lem :
    (held : List ℕ) (t : Bool) (name x y : List ℕ)
    → t ≡ same held name
    → length x ≤ length name + 1
    → length y ≤ length held + 1
    → length (cond t x y) ≤ length held + 1
escape_is_lem held true name x y e h k = let is = ap length (same-is held name (sym e)) in omega arith
escape_is_lem held false name x y e h k = k

pub escaped_none :
    (held : List ℕ)
    → same held (ascii "&amp") ≡ false
    → same held (ascii "&lt") ≡ false
    → same held (ascii "&gt") ≡ false
    → same held (ascii "&lrm") ≡ false
    → same held (ascii "&rlm") ≡ false
    → same held (ascii "&nbsp") ≡ false
    → escaped held ≡ held ++ semicolon ∷ []
unfolding escaped
escaped_none held amp lt gt lrm rlm nbsp = rw (amp, lt, gt, lrm, rlm, nbsp)

pub escaped-length : (held : List ℕ) → length (escaped held) ≤ length held + 1
unfolding escaped
escaped-length held =
    escape_is_lem held (same held (ascii "&amp")) (ascii "&amp") _ _ refl (omega arith)
    (escape_is_lem held (same held (ascii "&lt")) (ascii "&lt") _ _ refl (omega arith)
    (escape_is_lem held (same held (ascii "&gt")) (ascii "&gt") _ _ refl (omega arith)
    (escape_is_lem held (same held (ascii "&lrm")) (ascii "&lrm") _ _ refl (omega arith)
    (escape_is_lem held (same held (ascii "&rlm")) (ascii "&rlm") _ _ refl (omega arith)
    (escape_is_lem held (same held (ascii "&nbsp")) (ascii "&nbsp") _ _ refl (omega arith)
    (omega (arith, length-append held (semicolon ∷ []))))))))

-- a byte adds no more than it takes from what is held, and itself
by_mark :
    (t : Bool) (b : ℕ) (held : List ℕ) (c : ℕ) (x y : List ℕ)
    → length x + length y ≤ suc (length held) + 1
    → length (cond t (b ∷ held) x) + length (cond t (c ∷ []) y) ≤ suc (length held) + 1
by_mark true b held c x y h = omega arith
by_mark false b held c x y h = h

by_kind :
    (t : Bool) (b : ℕ) (held : List ℕ) (c : ℕ) (x : List ℕ)
    → length x ≤ suc (length held) + 1
    → length (cond t [] x) + length (cond t ((b ∷ held) ++ c ∷ []) []) ≤ suc (length held) + 1
by_kind true b held c x h = omega (arith, length-append held (c ∷ []))
by_kind false b held c x h = omega arith

by_end : (t : Bool) (b : ℕ) (held : List ℕ) (c : ℕ) → length (cond t (escaped (b ∷ held)) ((b ∷ held) ++ c ∷ [])) ≤ suc (length held) + 1
by_end true b held c = escaped-length (b ∷ held)
by_end false b held c = omega (arith, length-append held (c ∷ []))

by_data : (t : Bool) (c : ℕ) → length (cond t [] (c ∷ [])) + length (cond t (c ∷ []) []) ≤ 1
by_data true c = omega arith
by_data false c = omega arith

pub added-length : (held : List ℕ) (c : ℕ) → length (added held c) + length (holding held c) ≤ length held + 1
unfolding added holding
added-length [] c = by_data (eqb c ampersand) c
added-length (b ∷ held) c =
    by_mark (eqb c ampersand) b held c _ _ (by_kind (alphanumeric c) b held c _ (by_end (eqb c semicolon) b held c))

decoded_from-length : (held s : List ℕ) → length (decoded_from held s) ≤ length held + length s
unfolding decoded_from
decoded_from-length held [] = omega arith
decoded_from-length held (c ∷ s) =
    omega (
      arith,
      length-append (added held c) (decoded_from (holding held c) s),
      added-length held c,
      decoded_from-length (holding held c) s,
    )

pub decoded-length : (s : List ℕ) → length (decoded s) ≤ length s
unfolding decoded
decoded-length s = omega (arith, decoded_from-length [] s)

-- up to its first ampersand a text decodes to itself
decoded-plain : (s : List ℕ) → decoded s ≡ before_first ampersand s ++ decoded (past_run (λ b. not (eqb b ampersand)) s)
unfolding decoded decoded_from added holding before_first run past_run
decoded-plain [] = refl
decoded-plain (c ∷ s) = by-test (eqb c ampersand) (λ e. rw (e, e) refl) (λ n. rw n (ap (λ r. c ∷ r) (decoded-plain s)))

-- an ampersand and its name decode to what they stand for where a semicolon follows, and else to themselves
closed : List ℕ → List ℕ → List ℕ
closed held [] = held
closed held (c ∷ s) = cond (eqb c semicolon) (escaped held ++ decoded s) (held ++ decoded (c ∷ s))

no_mark : (c : ℕ) → alphanumeric c ≡ true → eqb c ampersand ≡ false
unfolding alphanumeric digit
no_mark c a = by-test (eqb c ampersand) (λ e. absurd (false≢true (rw (eqb-true c ampersand e) at a))) (λ n. n)

name_closed :
    (b : ℕ) (held : List ℕ) (c : ℕ) (s : List ℕ) → alphanumeric c ≡ false → decoded_from (b ∷ held) (c ∷ s) ≡ closed (b ∷ held) (c ∷ s)
unfolding decoded_from added holding decoded closed
name_closed b held c s a =
    by-test (eqb c ampersand)
    (λ e. rw (eqb-true c ampersand e) refl)
    (λ n. by-test (eqb c semicolon) (λ e. rw (n, a, e) refl) (λ m. rw (n, a, m) (append_assoc (b ∷ held) (c ∷ []) (decoded_from [] s))))

decoded-name : (b : ℕ) (held s : List ℕ) → decoded_from (b ∷ held) s ≡ closed (b ∷ held ++ run alphanumeric s) (past_run alphanumeric s)
unfolding decoded_from added holding run past_run closed
decoded-name b held [] = ap (λ h. b ∷ h) (sym (append-nil held))
decoded-name b held (c ∷ s) =
    by-test (alphanumeric c)
    (λ y. rw (no_mark c y, y) (decoded-name b (held ++ c ∷ []) s ∙ rw append_snoc refl))
    (λ n. name_closed b held c s n ∙ rw (n, append-nil held) refl)

decoded_mark : (c : ℕ) (s : List ℕ) → eqb c ampersand ≡ true → decoded (c ∷ s) ≡ closed (c ∷ run alphanumeric s) (past_run alphanumeric s)
unfolding decoded decoded_from added holding
decoded_mark c s e = rw e (decoded-name c [] s)

closed_plain : (x s : List ℕ) (end : ℕ) → eqb (get_or s end 0) semicolon ≡ false → closed x (drop end s) ≡ x ++ decoded (drop end s)
unfolding closed decoded decoded_from
closed_plain x s end n =
    by-test (ltb end (length s))
    (λ t. rw (drop-cons s end 0 (ltb-true end (length s) t), n) refl)
    (λ f. rw (drop_of_length-le s {i = end} (ltb-false end (length s) f)) (sym (append-nil x)))

-- the piece of a text at a place
pub bytes_at-short : (s : List ℕ) (from to : ℕ) → length (bytes_at s from to) ≤ length s
unfolding bytes_at
bytes_at-short s from to = omega (arith, length-take (to - from) (drop from s), length-drop from s)

pub part_length : (s : List ℕ) (from to : ℕ) → from ≤ to → to ≤ length s → length (bytes_at s from to) ≡ to - from
unfolding bytes_at
part_length s from to h l = omega (arith, length-take (to - from) (drop from s), length-drop from s)

module _ (s : List ℕ) (i end : ℕ) (l : i < length s) (is : end ≡ piece_end s i) where
  plain-run : eqb (get_or s i 0) ampersand ≡ false → RunAt (λ b. not (eqb b ampersand)) s i end
  unfolding piece_end before_first
  plain-run n = run_at (λ b. not (eqb b ampersand)) s i end (omega arith) (rw n at is)

  mark_run : eqb (get_or s i 0) ampersand ≡ true → RunAt alphanumeric s (i + 1) end
  unfolding piece_end
  mark_run e = run_at alphanumeric s (i + 1) end (omega arith) (rw e at is)

  pub piece-within : (i < end) × (end ≤ length s)
  piece-within =
      by-test (eqb (get_or s i 0) ampersand)
      (λ e. let r = mark_run e in (omega (arith, r.from), r.inside))
      (λ n. let r = plain-run n in (run-moves (λ b. not (eqb b ampersand)) s i end r l (rw n refl), r.inside))

  mark_closed : eqb (get_or s i 0) ampersand ≡ true → decoded (drop i s) ≡ closed (bytes_at s i end) (drop end s)
  unfolding bytes_at
  mark_closed e =
      let r = mark_run e in
      let k : end - i ≡ suc (end - (i + 1)) = omega (arith, r.from) in
      rw (k, drop-cons s i 0 l)
      (decoded_mark (get_or s i 0) (drop (suc i) s) e ∙ rw (← (add-one i), r.bytes, r.past) refl)

  pub piece_escape :
      escapes s i end ≡ true → (end < length s) × (decoded (drop i s) ≡ escaped (bytes_at s i end) ++ decoded (drop (end + 1) s))
  unfolding escapes closed
  piece_escape e =
      let mark = and_left (eqb (get_or s i 0) ampersand) (eqb (get_or s end 0) semicolon) e in
      let semicolons = and_right (eqb (get_or s i 0) ampersand) (eqb (get_or s end 0) semicolon) e in
      by-test (ltb end (length s))
      (λ t. let h = ltb-true end (length s) t in (h, mark_closed mark ∙ rw (add-one end, drop-cons s end 0 h, semicolons) refl))
      (λ f. absurd (false≢true (rw (get_or-eq_default s 0 {n = end} (ltb-false end (length s) f)) at semicolons)))

  pub piece-plain : escapes s i end ≡ false → decoded (drop i s) ≡ bytes_at s i end ++ decoded (drop end s)
  unfolding escapes bytes_at before_first
  piece-plain e =
      by-test (eqb (get_or s i 0) ampersand)
      (λ y. mark_closed y ∙ closed_plain (bytes_at s i end) s end (rw y at e))
      (λ n. let r = plain-run n in decoded-plain (drop i s) ∙ rw (r.bytes, r.past) refl)

-- collapsing takes nothing but separators in, and puts no more of them out
parted-length : (b : ℕ) (s : List ℕ) → length (parted b s) ≤ length s + 1
unfolding parted
parted-length b [] = omega arith
parted-length b (c ∷ s) = omega arith

collapsing-length :
    (t inside : Bool) (one b : ℕ) (s : List ℕ) → length (cond t (cond inside (parted one s) s) (b ∷ s)) ≤ length s + 1
collapsing-length true true one b s = parted-length one s
collapsing-length true false one b s = omega arith
collapsing-length false inside one b s = omega arith

collapsed_from-length : (separates : ℕ → Bool) (one : ℕ) (inside : Bool) (s : List ℕ) → length (collapsed_from separates one inside s) ≤ length s
unfolding collapsed_from collapsing
collapsed_from-length separates one inside [] = omega arith
collapsed_from-length separates one inside (b ∷ s) =
    let rest = collapsed_from separates one (not (separates b)) s in
    omega (arith, collapsing-length (separates b) inside one b rest, collapsed_from-length separates one (not (separates b)) s)

pub collapsed-length : (separates : ℕ → Bool) (one : ℕ) (s : List ℕ) → length (collapsed separates one s) ≤ length s
unfolding collapsed
collapsed-length separates one s = collapsed_from-length separates one false s

-- a turn of collapsing: at a separator, at another byte, at the end
module _ (separates : ℕ → Bool) (one : ℕ) where
  left_separator :
      (gap inside : Bool) (b : ℕ) (s : List ℕ)
      → separates b ≡ true
      → (gap ≡ true → inside ≡ true)
      → left separates one gap inside (b ∷ s) ≡ left separates one inside inside s
  unfolding left collapsed_from collapsing
  left_separator true true b s e h = rw e refl
  left_separator true false b s e h = absurd (false≢true (h refl))
  left_separator false true b s e h = rw e refl
  left_separator false false b s e h = rw e refl

  left_word :
      (gap inside : Bool) (b : ℕ) (s : List ℕ)
      → separates b ≡ false
      → left separates one gap inside (b ∷ s) ≡ word gap one b ++ left separates one false true s
  unfolding left word parted collapsed_from collapsing
  left_word true inside b s e = rw e refl
  left_word false inside b s e = rw e refl

  left-nothing : (gap inside : Bool) → left separates one gap inside [] ≡ []
  unfolding left parted collapsed_from
  left-nothing true inside = refl
  left-nothing false inside = refl

  pub collapse_start : (at : ℕ) (s : List ℕ) → left separates one false (ltb at at) (drop 0 s) ≡ collapsed separates one s
  unfolding left collapsed
  collapse_start at s = rw (le-ltb at at (omega arith)) refl

  module _ (s : List ℕ) (i : ℕ) (l : i < length s) (gap inside : Bool) where
    pub collapse_separator :
        separates (get_or s i 0) ≡ true
        → (gap ≡ true → inside ≡ true)
        → left separates one gap inside (drop i s) ≡ left separates one inside inside (drop (i + 1) s)
    collapse_separator e h =
        ap (left separates one gap inside) (drop-cons s i 0 l) ∙ rw (add-one i) (left_separator gap inside (get_or s i 0) (drop (suc i) s) e h)

    pub collapse_word :
        separates (get_or s i 0) ≡ false
        → left separates one gap inside (drop i s) ≡ word gap one (get_or s i 0) ++ left separates one false true (drop (i + 1) s)
    collapse_word e =
        ap (left separates one gap inside) (drop-cons s i 0 l) ∙ rw (add-one i) (left_word gap inside (get_or s i 0) (drop (suc i) s) e)

  pub collapse_end : (s : List ℕ) (i : ℕ) (gap inside : Bool) → length s ≤ i → left separates one gap inside (drop i s) ≡ []
  collapse_end s i gap inside l = rw (drop_of_length-le s l) (left-nothing gap inside)

pub word-length : (gap : Bool) (one c : ℕ) → length (word gap one c) ≡ cond gap 1 0 + 1
unfolding word
word-length true one c = refl
word-length false one c = refl

-- a tag's classes as one string: empty ones are left out just where separators are collapsed
first_out : List (List ℕ) → List ℕ
first_out [] = []
first_out (c ∷ cs) = c ++ parted full_stop (class_string cs)

first-string : (b : ℕ) (cs : List (List ℕ)) → class_string (on_first b cs) ≡ b ∷ first_out cs
unfolding first_out class_string on_first parted is_empty
first-string b [] = refl
first-string b (c ∷ cs) = refl

first_out_lem : (b : ℕ) (cs : List (List ℕ)) → first_out (on_first b cs) ≡ b ∷ first_out cs
unfolding first_out class_string on_first parted
first_out_lem b [] = refl
first_out_lem b (c ∷ cs) = refl

abbrev on_stops : Bool → List ℕ → List ℕ
on_stops inside s = collapsed_from (separates true) (one true) inside s

class_strings : (s : List ℕ) → (class_string (split_stops s) ≡ on_stops false s) × (first_out (split_stops s) ≡ on_stops true s)
unfolding split_list_at before collapsed_from collapsing first_out class_string parted is_empty
class_strings [] = (refl, refl)
class_strings (b ∷ s) =
    let again = class_strings s in
    by-test (eqb b full_stop)
    (λ e. (rw e again.0, rw e (ap (parted full_stop) again.0)))
    (λ e. (
      rw e (first-string b (split_stops s) ∙ ap (λ t. b ∷ t) again.1),
      rw e (first_out_lem b (split_stops s) ∙ ap (λ t. b ∷ t) again.1),
    ))

pub class_string_lem : (s : List ℕ) → class_string (split_stops s) ≡ collapsed (separates true) (one true) s
unfolding collapsed
class_string_lem s = (class_strings s).0

pub classes_of_lem : (b : ℕ) (s : List ℕ) → eqb b full_stop ≡ true → class_string (classes_of (b ∷ s)) ≡ collapsed (separates true) (one true) (b ∷ s)
unfolding classes_of collapsed collapsed_from collapsing
classes_of_lem b s e = (class_strings s).0 ∙ rw e refl

pub classes_of-none : class_string (classes_of []) ≡ collapsed (separates true) (one true) []
unfolding classes_of class_string collapsed collapsed_from
classes_of-none = refl
