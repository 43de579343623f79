-- What a block gives, from parts of the text by their places.
use Prim.Native.Nat.{ℕ, ◌+◌, ◌-◌, ◌≤◌, ◌<◌, min}
use mathlib.Core.Path.{◌≡◌, refl, sym, ap, ◌∙◌}
use mathlib.Core.Bool.{Bool, true, false, ◌&&◌, true≢false}
use mathlib.Core.List.{List, [], ◌∷◌}
use native.Mathlib.Omega.{arith}
use lib.Dec.{eqb, ltb}
use lib.ListN.{length, take, drop, length-drop}
use lib.Seq.{length-take-le}
use borrow.Author.Tests.{eqb-true, eqb-false, eq-eqb, ne_eqb, ltb-true, ltb-false}
use Rattle.format.specs.Bytes.{white}
use Rattle.format.specs.Texts.{Part, starts_with, same, is_empty, all, run}
use Rattle.format.specs.CueSettings.{span_is}
use Rattle.format.specs.Tokens.{Flagged}
use Rattle.format.specs.RegionSettings.{RegionValues}
use Rattle.format.specs.Times.{Result, failed, got, value}
use Rattle.format.specs.TimingLines.{Timing, timed_line, timing_line}
use Rattle.format.specs.Lists.{region_of, is_word}
use Rattle.laws.proofs.Tests.{by-test}
use Rattle.laws.proofs.Runs.{run_length, all-run, run-not-all}
use Rattle.values.specs.Tokens.{span_to, part_of}
use Rattle.values.proofs.NumberLaws.{is_empty-not}
use Rattle.timing.specs.TimingLines.{timing_line_is, timed_line_is, line_kind}
use Rattle.format.specs.declared.times.TimingLine.{TimingLine}
use Rattle.format.specs.declared.settings.Span.{Span}
use Rattle.regions.specs.Changes.{taken_is}
use Rattle.blocks.specs.Items.{part, after_line_end, after_span, cue_with, item_is, kind_is, timed_is, timed_kind, region_item}

module _ (s : List ℕ) (a b : ℕ) (h : a ≤ b) (l : b ≤ length s) where
  pub part_of_lem : part_of s a b ≡ part s a b
  part_of_lem =
      let m₁ : min b (length s) ≡ b = omega arith in
      let m₂ : min a b ≡ a = omega arith in
      rw (m₁, m₂)

  pub span_part : span_to a b ≡ span_is (part s a b)
  unfolding span_is is_empty
  span_part =
      let n = length-take-le (b - a) (drop a s) (omega (arith, length-drop a s)) in
      by-test (eqb a b)
      (λ y. let z : b - a ≡ 0 = omega (arith, eqb-true a b y) in rw (y, z))
      (λ f. let end : a + length (take (b - a) (drop a s)) ≡ b = omega arith in
      let some : 0 < length (take (b - a) (drop a s)) = omega (arith, n, eqb-false a b f) in
      rw (f, is_empty-not (take (b - a) (drop a s)) some, end))

pub after_span_lem : (s : List ℕ) (e to : ℕ) → e ≤ to → to ≤ length s → after_span e to ≡ span_is (after_line_end s e to)
unfolding span_is is_empty
after_span_lem s e to h l =
    by-test (eqb e to) (λ y. rw y) (λ n. rw n (span_part s (e + 1) to (omega (arith, eqb-false e to n)) l))

pub timed_is_lem : (id text line : Part) → timed_is (span_is id) (span_is text) (timed_line_is line) ≡ item_is (cue_with id text (timing_line line))
unfolding timed_line_is timing_line value
timed_is_lem id text line = go (timed_line line)
  where
    go : (r : Result Timing) → timed_is (span_is id) (span_is text) (timing_line_is (length line.bytes) r) ≡ item_is (cue_with id text (value r))
    go (failed f rest) = refl
    go (got t rest) = by-test t.over (λ y. rw y) (λ n. rw n)

pub region_is_lem : (t : Flagged RegionValues) → region_item (taken_is t) ≡ item_is (region_of t)
unfolding region_of
region_is_lem t = refl

-- a run that is the whole text
pub run_to_end : (p : ℕ → Bool) (s : List ℕ) → eqb (0 + length (run p s)) (length s) ≡ all p s
run_to_end p s =
    let whole : 0 + length (run p s) ≡ length (run p s) = omega arith in
    rw whole
    (by-test (eqb (length (run p s)) (length s))
    (λ y. y ∙ sym (all-run p s (eqb-true (length (run p s)) (length s) y)))
    (λ n. n ∙ sym (run-not-all p s (omega (arith, run_length p s, eqb-false (length (run p s)) (length s) n)))))

pub no_bytes : (x : List ℕ) → is_empty x ≡ true → x ≡ []
unfolding is_empty
no_bytes [] e = refl
no_bytes (b ∷ x) e = absurd (true≢false (sym e))

pub some_bytes : (x : List ℕ) → is_empty x ≡ false → 0 < length x
unfolding is_empty
some_bytes [] e = absurd (true≢false e)
some_bytes (b ∷ x) e = omega arith

-- a timed block is of the kind of its line
pub kind_timed : (id text : Span) (l : TimingLine) → kind_is (timed_is id text l) ≡ timed_kind (line_kind l)
kind_timed id text (TimingLine.Bad f at) = refl
kind_timed id text TimingLine.Over = refl
kind_timed id text (TimingLine.Good t) = refl
