-- Laws of replacing's checks: the gap before a cue, what the number of the new cue's test says, and one check before another.
use Prim.Native.Nat.{ℕ, zero, suc, ◌+◌, ◌-◌, ◌≤◌, ◌<◌}
use mathlib.Core.Path.{◌≡◌, refl, sym, ap, ◌∙◌}
use mathlib.Core.Bool.{Bool, true, false, cond, not, ◌&&◌}
use mathlib.Core.List.{List, [], ◌∷◌, ◌++◌}
use Rattle.std.specs.Prelude.{Option, None, Some}
use native.Mathlib.Numerals.{add-one}
use native.Mathlib.Omega.{arith}
use lib.Dec.{eqb}
use lib.ListN.{length, get_or, take, drop}
use lib.Seq.{drop-cons, split_at, get_or_at}
use borrow.Author.Tests.{eqb-true, lt-ltb, le-ltb}
use Rattle.format.specs.Bytes.{lf}
use Rattle.format.specs.Texts.{is_empty}
use Rattle.format.specs.Plain.{plain_text}
use Rattle.format.specs.Lines.{on_first, before, split_list_at, split}
use Rattle.format.specs.Rows.{new_cue_entry}
use Rattle.format.specs.Contents.{cue_of_entry}
use Rattle.format.specs.Blocks.{has_signature}
use Rattle.format.specs.Lists.{items, lists, any_over}
use Rattle.format.specs.Answers.{if_accepted, file_answer}
use Rattle.format.specs.Replacing.{replace_error, new_cue_fails, region_names, new_file, no_gap, line_up_to, replacing_is, unless_test, replacing_text}
use Rattle.std.specs.Prelude.{Result, Err}
use Rattle.format.specs.Reading.{text_error}
use Rattle.format.specs.Writing.{list_number, not_writable}
use Rattle.format.specs.declared.errors.ListKind.{ListKind}
use Rattle.format.specs.declared.errors.TextError.{TextError}
use Rattle.format.specs.declared.errors.ReplaceError.{ReplaceError}
use Rattle.places.specs.Finding.{SurveyedIs}
use Rattle.laws.proofs.Tests.{by-test}
use Rattle.laws.proofs.Lines.{splits}
use Rattle.replaced.proofs.CueBlocks.{cue-block_at}
use Rattle.blocks.specs.Collecting.{line_ends}
use Rattle.places.specs.Places.{OwnLines}
use Rattle.blocks.proofs.LineLaws.{ends-split, ends_next}
use Rattle.replace.specs.NewCue.{gap_answer, tested_answer, counted_answer, Outcome}

-- no line end stands before the first byte
pub some-before : (s : List ℕ) (i : ℕ) → 0 < line_ends (take i s) → 0 < i
unfolding line_ends
some-before s zero h = h
some-before s (suc i) h = omega arith

-- a text before an LF and one after it have each its own lines
split-apart : (x z : List ℕ) → split (x ++ lf ∷ z) ≡ split x ++ split z
unfolding split_list_at before on_first
split-apart [] z = refl
split-apart (b ∷ x) z =
    by-test (eqb b lf)
    (λ y. rw (y, split-apart x z))
    (λ n. rw (n, split-apart x z, (splits x).is))

-- a line is empty between two LF, and is not where it has a byte
between_empty : (x z : List ℕ) → is_empty (get_or (split (x ++ lf ∷ lf ∷ z)) (suc (line_ends x)) []) ≡ true
unfolding split_list_at before is_empty
between_empty x z =
    let n = suc (line_ends x) in
    ap is_empty (ap (λ ls. get_or ls n []) (split-apart x (lf ∷ z)) ∙ get_or_at (split x) [] (split z) [] n (ends-split x))

longer_some :
    (c : ℕ) (l : List ℕ) (ls : List (List ℕ)) (n : ℕ) → is_empty (get_or (l ∷ ls) n []) ≡ false → is_empty (get_or ((c ∷ l) ∷ ls) n []) ≡ false
unfolding is_empty
longer_some c l ls zero h = refl
longer_some c l ls (suc n) h = h

byte_some : (x z : List ℕ) (b : ℕ) → eqb b lf ≡ false → is_empty (get_or (split (x ++ b ∷ z)) (line_ends x) []) ≡ false
unfolding split_list_at before on_first is_empty line_ends
byte_some [] z b e = rw (e, (splits z).is)
byte_some (c ∷ x) z b e =
    let t = splits (x ++ b ∷ z) in
    let e0 : 0 + line_ends x ≡ line_ends x = omega arith in
    let e1 : 1 + line_ends x ≡ suc (line_ends x) = omega arith in
    by-test (eqb c lf)
    (λ y. rw (y, e1) (byte_some x z b e))
    (λ n. rw (n, e0, t.is) (longer_some c t.first t.rest (line_ends x) (rw t.is at (byte_some x z b e))))

-- the line that an LF ends is empty where the LF is the text's first byte, and where it comes right after another
pub first_gap : (s : List ℕ) → 0 < length s → get_or s 0 0 ≡ lf → is_empty (get_or (split s) 0 []) ≡ true
unfolding split_list_at before is_empty
first_gap [] l e = absurd (omega arith)
first_gap (b ∷ s) l e = rw e

pub gap_is :
    (s : List ℕ) (i j : ℕ)
    → j ≡ i + 1
    → j < length s
    → get_or s j 0 ≡ lf
    → is_empty (get_or (split s) (line_ends (take j s)) []) ≡ eqb (get_or s i 0) lf
gap_is s i j q l e =
    let x = take i s in
    let at : s ≡ x ++ get_or s i 0 ∷ drop j s = rw (q, add-one i) (split_at s i 0 (omega arith)) in
    let next : (t : Bool) → eqb (get_or s i 0) lf ≡ t → line_ends (take j s) ≡ line_ends x + cond t 1 0 = rw q (ends_next s i (omega arith)) in
    by-test (eqb (get_or s i 0) lf)
    (λ y. let n : line_ends (take j s) ≡ suc (line_ends x) = omega (arith, next true y) in
    let two : s ≡ x ++ lf ∷ lf ∷ drop (suc j) s = at ∙ rw (eqb-true (get_or s i 0) lf y, drop-cons s j 0 l, e) refl in
    rw (y, n) (ap (λ r. is_empty (get_or (split r) (suc (line_ends x)) [])) two ∙ between_empty x (drop (suc j) s)))
    (λ z. let n : line_ends (take j s) ≡ line_ends x = omega (arith, next false z) in
    rw (z, n) (ap (λ r. is_empty (get_or (split r) (line_ends x) [])) at ∙ byte_some x (drop j s) (get_or s i 0) z))

-- the gap before the cue's own lines
pub gap_told :
    (raw s t w id : List ℕ) (number from to : ℕ) (r : Bool)
    → s ≡ plain_text raw
    → OwnLines s number from to
    → id ≡ (cue_of_entry t (new_cue_entry w)).id
    → r ≡ not (is_empty id) && not (is_empty (get_or (split s) (line_ends (take from s) - 1) []))
    → no_gap (plain_text raw) number t w ≡ r
unfolding no_gap line_up_to
gap_told raw s t w id number from to r e own f g = rw (g, f, ← own.first, e) refl

pub gap_inside : (s : List ℕ) (number from to : ℕ) → number < length (lists s).cues → OwnLines s number from to → 0 < line_ends (take from s)
gap_inside s number from to h own = omega (arith, own.first, (cue-block_at s number h).after_first_lem)

-- one check before another: where it does not refuse, the rest decides
module _ (raw : List ℕ) (number : ℕ) (t w out : List ℕ) where
  abbrev new : List ℕ
  new = new_file raw number t w

  pub no_gap_lem : no_gap (plain_text raw) number t w ≡ true → Outcome new out (gap_answer raw number t w (length out)) (Err ReplaceError.NoGap) out
  unfolding gap_answer replacing_is replace_error if_accepted
  no_gap_lem e = rw e (record { answer = refl; holds = refl })

  pub gap_passed :
      {r : Result ℕ ReplaceError} {room : List ℕ}
      → no_gap (plain_text raw) number t w ≡ false
      → Outcome new out (file_answer new (length out)) r room
      → Outcome new out (gap_answer raw number t w (length out)) r room
  unfolding gap_answer
  gap_passed e h = rw e h

  abbrev failing : Option ℕ
  failing = new_cue_fails t w (region_names (plain_text raw))

  pub test_fails :
      {test : ℕ}
      → failing ≡ Some test
      → Outcome new out (tested_answer raw number t w (length out)) (Err (ReplaceError.NotWritable (record { list = ListKind.Cues; index = number; test = test }))) out
  unfolding tested_answer unless_test replacing_is replace_error not_writable list_number if_accepted
  test_fails e = rw e (record { answer = refl; holds = refl })

  pub writable_passed :
      {r : Result ℕ ReplaceError} {room : List ℕ}
      → failing ≡ None
      → Outcome new out (gap_answer raw number t w (length out)) r room
      → Outcome new out (tested_answer raw number t w (length out)) r room
  unfolding tested_answer unless_test
  writable_passed e h = rw e h

  -- the count of the cues, in the plain text s
  module _ (s : List ℕ) (q : s ≡ plain_text raw) {count : ℕ} (e : count ≡ length (lists s).cues) where
    count-is : length (lists (plain_text raw)).cues ≡ count
    count-is = sym (e ∙ ap (λ x. length (lists x).cues) q)

    pub no_such_cue : count ≤ number → Outcome new out (counted_answer raw number t w (length out)) (Err (ReplaceError.NoSuchCue count)) out
    unfolding counted_answer replacing_is replace_error if_accepted
    no_such_cue h = rw (count-is, le-ltb number count h) (record { answer = refl; holds = refl })

    pub count_passed :
        {r : Result ℕ ReplaceError} {room : List ℕ}
        → number < count
        → Outcome new out (tested_answer raw number t w (length out)) r room
        → Outcome new out (counted_answer raw number t w (length out)) r room
    unfolding counted_answer
    count_passed h f = rw (count-is, lt-ltb number count h) f

  -- the file's own refusals, in its plain text s
  module _ (s : List ℕ) (q : s ≡ plain_text raw) where
    pub text_refused : (number₂ : ℕ) (name : List ℕ) (e : TextError) → SurveyedIs s number₂ name (Err e) → Outcome new out (replacing_text raw number t w (length out)) (Err (ReplaceError.Text e)) out
    unfolding replacing_text replacing_is replace_error text_error if_accepted
    text_refused k name TextError.NoSignature h = rw (rw q at h) (record { answer = refl; holds = refl })
    text_refused k name TextError.OverLimit h = rw (rw q at h.0, rw q at h.1) (record { answer = refl; holds = refl })

    pub file_passed :
        {r : Result ℕ ReplaceError} {room : List ℕ}
        → has_signature s ≡ true
        → any_over (items s) ≡ false
        → Outcome new out (counted_answer raw number t w (length out)) r room
        → Outcome new out (replacing_text raw number t w (length out)) r room
    unfolding replacing_text counted_answer tested_answer gap_answer
    file_passed e o f = rw (rw q at e, rw q at o) f
