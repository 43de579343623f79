-- What the first byte of a line tells: that it is no timing line, and neither STYLE nor REGION. Such a block gives nothing.
use Prim.Native.Nat.{ℕ, ◌+◌, ◌-◌, ◌≤◌, ◌<◌}
use mathlib.Core.Path.{◌≡◌, refl, ap, ◌∙◌}
use mathlib.Core.Bool.{Bool, false}
use mathlib.Core.List.{List, ◌∷◌}
use Rattle.std.specs.Prelude.{None}
use native.Mathlib.Omega.{arith}
use lib.ListN.{length, get_or}
use borrow.Author.Tests.{ne_eqb}
use Rattle.format.specs.Bytes.{digit, white}
use Rattle.format.specs.Texts.{Part, run, past_run, is_empty, starts_with}
use Rattle.format.specs.Times.{failed, value, on_got, timestamp}
use Rattle.format.specs.TimingLines.{timings, timing_of, timed_line, timing_line}
use Rattle.format.specs.declared.times.TimeFault.TheVariants as Fault
use Rattle.format.specs.Lists.{nothing, is_word}
use Rattle.laws.proofs.Tests.{by-test}
use Rattle.blocks.specs.Items.{part, definition_with, NoWord}
use Rattle.blocks.proofs.BlockLaws.{slice_first}

-- no whitespace is skipped, and no digit stands there
no_times : (b : ℕ) (x : List ℕ) → digit b ≡ false → white b ≡ false → timings (b ∷ x) ≡ failed Fault.DigitMissing (b ∷ x)
unfolding timings timestamp on_got past_run run is_empty
no_times b x d w = rw (w, d)

-- the part of no bytes, and one whose first byte begins neither a time nor whitespace, are no timing lines
pub empty_line_lem : (s : List ℕ) (a b : ℕ) → a ≡ b → timing_line (part s a b) ≡ None
unfolding timing_line timed_line timing_of value timings timestamp on_got past_run run is_empty
empty_line_lem s a b e = let n : b - a ≡ 0 = omega arith in rw n

pub other_line :
    (s : List ℕ) (a b : ℕ)
    → a < b
    → b ≤ length s
    → digit (get_or s a 0) ≡ false
    → white (get_or s a 0) ≡ false
    → timing_line (part s a b) ≡ None
unfolding timing_line timed_line timing_of value
other_line s a b k l d w = ap (λ r. value (timing_of (part s a b) r)) (ap timings (slice_first s a b (omega arith) k) ∙ no_times (get_or s a 0) (part s (a + 1) b).bytes d w)

-- both words begin with another byte
pub other_word :
    (s : List ℕ) (a b : ℕ)
    → a < b
    → b ≤ length s
    → (get_or s a 0 ≡ 0x53 → ⊥)
    → (get_or s a 0 ≡ 0x52 → ⊥)
    → NoWord (part s a b).bytes
unfolding is_word starts_with
other_word s a b k l x y = rw (slice_first s a b (omega arith) k, ne_eqb (get_or s a 0) 0x53 x, ne_eqb (get_or s a 0) 0x52 y) (refl, refl)

-- a first line that is neither word opens no block
pub no_definition : (seen : Bool) (line : List ℕ) (text : Part) → NoWord line → definition_with seen line text ≡ nothing
no_definition seen line text h = by-test seen (λ y. rw y) (λ n. rw (n, h.0, h.1))
