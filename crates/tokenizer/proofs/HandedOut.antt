-- The tokens that a reader hands out one after the other are those of the definition. First that the step of the definitions is the token at its
-- place, then the tokens by their number.
use Prim.Native.Nat.{ℕ, zero, suc, ◌+◌, ◌≤◌, ◌<◌}
use mathlib.Core.Path.{◌≡◌, refl, sym, ap, ◌∙◌}
use mathlib.Core.List.{List, [], ◌∷◌, ◌++◌, append-nil}
use native.Mathlib.Omega.{arith}
use lib.Dec.{eqb, ltb}
use lib.ListN.{length, get_or, drop, drop_of_length-le}
use lib.Seq.{drop-drop}
use borrow.Author.Tests.{lt-ltb, le-ltb, ltb-true, ltb-false, eqb-true, eqb-false}
use Rattle.std.specs.Prelude.{Option, None, Some}
use Rattle.format.specs.Bytes.{solidus, less, digit}
use Rattle.format.specs.Texts.{is_empty}
use Rattle.format.specs.CueText.{visit_end, cue_tokens_from, cue_tokens}
use Rattle.laws.proofs.Tests.{by-test}
use Rattle.tokenizer.specs.Tags.{token_is, StartAt, TagAt, StepAt, start_told, tag_is, tag_to, after_tag, step_is}
use Rattle.tokenizer.specs.Reader.{moved_to, handed, handed_out, stands_at}
use Rattle.tokenizer.specs.declared.Stepped.{Stepped}
use Rattle.tokenizer.proofs.Spans.{start_at, end_at_lem, timestamp_at, other_at, nothing_at, string_at, tag_bounds, tag_at, tag_none, tag_end_lem, tag_time_lem, tag_start, step_none, step_string, step_tag}

-- the start tag and the tag between two places: their parts stand where the definitions say, by the tests on the first byte
module _ (s : List ℕ) (from to : ℕ) (h : from ≤ to) (l : to ≤ length s) where
  start_is_at : StartAt s from to (start_told s from to)
  unfolding start_told
  start_is_at = start_at s from to _ _ h l refl refl

  other_tag : from < to → (get_or s from 0 ≡ solidus → ⊥) → TagAt s from to (tag_is s from to)
  other_tag some other =
      by-test (digit (get_or s from 0))
      (λ d. rw (← (tag_time_lem s from to some other d)) (timestamp_at s from to some l other d))
      (λ d. rw (← (tag_start s from to some other d)) (record { is = start_is_at.is ∙ sym (other_at s from to some l other d); parts = start_is_at.parts }))

  some_tag : from < to → TagAt s from to (tag_is s from to)
  some_tag some =
      by-test (eqb (get_or s from 0) solidus)
      (λ e. let closes = eqb-true _ _ e in rw (← (tag_end_lem s from to some closes)) (end_at_lem s from to some l closes))
      (λ e. other_tag some (eqb-false _ _ e))

  tag_is_at : TagAt s from to (tag_is s from to)
  tag_is_at =
      by-test (ltb from to)
      (λ y. some_tag (ltb-true from to y))
      (λ y. let short = ltb-false from to y in rw (← (tag_none s from to short)) (record { is = start_is_at.is ∙ sym (nothing_at s from to short); parts = start_is_at.parts }))

-- a step at `<`: the next token begins after `>`, and where the text ends before one, at its end
module _ (s : List ℕ) (at : ℕ) (h : at < length s) (y : get_or s at 0 ≡ less) where
  abbrev to : ℕ
  to = tag_to s (at + 1)

  bounds : (at + 1 ≤ to) × (to ≤ length s)
  bounds = tag_bounds s at h to 0 y refl

  found : TagAt s (at + 1) to (tag_is s (at + 1) to)
  found = tag_is_at s (at + 1) to bounds.0 bounds.1

  closed_tag : to < length s → StepAt s at (step_is s at)
  closed_tag more =
      let next : after_tag s to ≡ to + 1 = rw (lt-ltb to (length s) more) in
      rw (← (step_tag s at h y to refl _ refl), next)
      (tag_at s at h to (to + 1) y refl _ found (omega arith) (omega arith) (omega (arith, bounds.0)) (λ l. omega arith) (drop-drop 1 to s))

  open_tag : length s ≤ to → StepAt s at (step_is s at)
  open_tag last =
      let next : after_tag s to ≡ to = rw (le-ltb to (length s) last) in
      rw (← (step_tag s at h y to refl _ refl), next)
      (tag_at s at h to to y refl _ found (omega arith) bounds.1 (omega (arith, bounds.0)) (λ l. absurd (omega arith)) (rw (drop_of_length-le s last)))

  tag_step : StepAt s at (step_is s at)
  tag_step = by-test (ltb to (length s)) (λ b. closed_tag (ltb-true to (length s) b)) (λ b. open_tag (ltb-false to (length s) b))

-- the step of the definitions is the token at its place: by the text's length and the byte there
module _ (s : List ℕ) (at : ℕ) where
  some_step : at < length s → StepAt s at (step_is s at)
  some_step inside =
      by-test (eqb (get_or s at 0) less)
      (λ y. tag_step s at inside (eqb-true _ _ y))
      (λ y. let other = eqb-false _ _ y in rw (← (step_string s at inside other _ refl)) (string_at s at inside _ other refl))

  pub step_is_at : StepAt s at (step_is s at)
  step_is_at =
      by-test (ltb at (length s))
      (λ b. some_step (ltb-true at (length s) b))
      (λ b. let end = ltb-false at (length s) b in rw (← (step_none s at end)) end)

-- at the text's end no token is left: there the tokenizer returns nothing in the data state
none_left : (s : List ℕ) (at : ℕ) → length s ≤ at → cue_tokens (drop at s) ≡ []
unfolding cue_tokens cue_tokens_from visit_end is_empty
none_left s at h = rw (drop_of_length-le s h)

-- a reader at the text's end stays there: each step finds nothing
stays : (n : ℕ) (s : List ℕ) (at : ℕ) → length s ≤ at → stands_at n s at ≡ at
unfolding stands_at
stays zero s at h = refl
stays (suc n) s at h = rw (← (step_none s at h)) (stays n s at h)

-- a step more, by what it found: the token is the first of those from the place on, and the others are those from the next place on
then_step :
    (n : ℕ) (s : List ℕ) (at : ℕ) (r : Option Stepped)
    → StepAt s at r
    → ((next : ℕ) → handed_out n s next ++ cue_tokens (drop (stands_at n s next) s) ≡ cue_tokens (drop next s))
    → handed s r (handed_out n s (moved_to r at)) ++ cue_tokens (drop (stands_at n s (moved_to r at)) s) ≡ cue_tokens (drop at s)
unfolding handed
then_step n s at None end later = rw (stays n s at end)
then_step n s at (Some step) found later = ap (λ ts. token_is s step.token ∷ ts) (later step.next) ∙ sym found.first

-- What n steps hand out, and then the tokens from where the reader stands on, are the tokens from the place on: by induction on the steps.
pub handed_then : (n : ℕ) (s : List ℕ) (at : ℕ) → handed_out n s at ++ cue_tokens (drop (stands_at n s at) s) ≡ cue_tokens (drop at s)
unfolding handed_out stands_at
handed_then zero s at = refl
handed_then (suc n) s at = then_step n s at (step_is s at) (step_is_at s at) (handed_then n s)

-- a step more leaves no more bytes than the steps that are left: a token moves the reader on, and without one it is at the end
past_step : (n : ℕ) (s : List ℕ) (at : ℕ) (r : Option Stepped) → StepAt s at r → length s ≤ at + suc n → length s ≤ moved_to r at + n
past_step n s at None end h = omega arith
past_step n s at (Some step) found h = omega (arith, found.moves)

-- After as many steps as there are bytes left the reader stands at the text's end: each step moves on by a byte at least.
pub stands_at-end : (n : ℕ) (s : List ℕ) (at : ℕ) → length s ≤ at + n → length s ≤ stands_at n s at
unfolding stands_at
stands_at-end zero s at h = omega arith
stands_at-end (suc n) s at h = stands_at-end n s _ (past_step n s at (step_is s at) (step_is_at s at) h)

-- The tokens from a place on are handed out in as many steps as there are bytes left: at the text's end no token is left.
pub handed_from : (n : ℕ) (s : List ℕ) (at : ℕ) → length s ≤ at + n → handed_out n s at ≡ cue_tokens (drop at s)
handed_from n s at h =
    sym (ap (λ ts. handed_out n s at ++ ts) (none_left s (stands_at n s at) (stands_at-end n s at h)) ∙ append-nil (handed_out n s at)) ∙ handed_then n s at

-- The tokens of a text are those that a reader hands out from its start: the same from the first place.
pub handed_out_lem : (s : List ℕ) → handed_out (length s) s 0 ≡ cue_tokens s
handed_out_lem s = handed_from (length s) s 0 (omega arith)
