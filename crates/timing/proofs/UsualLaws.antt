-- The usual form of the times, taken through the steps of `format`: at its fixed places stand the runs and characters that the steps want.
use Prim.Native.Nat.{ℕ, suc, ◌+◌, ◌-◌, ◌*◌, ◌≤◌, ◌<◌}
use mathlib.Core.Path.{◌≡◌, refl, sym, ap, ◌∙◌}
use mathlib.Core.Bool.{true, false}
use mathlib.Core.List.{List, [], ◌∷◌, ◌++◌, append-nil, append_assoc}
use native.Mathlib.Omega.{arith}
use lib.Dec.{leb}
use lib.ListN.{length, get_or, take, drop, length-append, length-drop}
use lib.Seq.{drop-cons, drop-drop, take_all}
use borrow.Author.Tests.{leb-true, le-ltb, eq-eqb, ne_eqb}
use Rattle.format.specs.Bytes.{digit, white, tab, lf, form_feed, cr, space, hyphen, full_stop, colon, greater}
use Rattle.format.specs.Limits.{max_hours}
use Rattle.format.specs.Texts.{starts_with, is_empty, run, past_run}
use Rattle.format.specs.Numbers.{number_from}
use Rattle.format.specs.Times.{got, on_got, expect, hours_first, field, three_values, in_range, last_steps, timestamp, milliseconds, over_hours}
use Rattle.format.specs.TimingLines.{arrow_and_end, timings}
use Rattle.laws.proofs.Tests.{and_left, and_right, or_true}
use Rattle.laws.proofs.Runs.{run-stop, run-next, past_run-drop}
use Rattle.timing.specs.Usual.{NoDigit, DigitsRead, ClockRead, ArrowRead, UsualRead}
use Rattle.timing.proofs.LineLaws.{arrow-here}

pub digit_range : (b : ℕ) → digit b ≡ true → (0x30 ≤ b) × (b ≤ 0x39)
unfolding digit
digit_range b e =
    (leb-true 0x30 b (and_left (leb 0x30 b) (leb b 0x39) e), leb-true b 0x39 (and_right (leb 0x30 b) (leb b 0x39) e))

-- digits read one after the other
number_snoc : (n : ℕ) (ds : List ℕ) (b : ℕ) → number_from n (ds ++ (b ∷ [])) ≡ number_from n ds * 10 + (b - 0x30)
unfolding number_from
number_snoc n [] b = refl
number_snoc n (d ∷ ds) b = number_snoc (n * 10 + (d - 0x30)) ds b

pub digits-one : (x : List ℕ) (k d : ℕ) → k < length x → digit (get_or x k 0) ≡ true → d ≡ get_or x k 0 - 0x30 → DigitsRead x k 1 d
unfolding number_from
digits-one x k d h i v =
    record { digits = get_or x k 0 ∷ []; size = refl; value = omega arith; first = i; found = run-next digit x k h i }

pub digits-next :
    (x : List ℕ) (k n v d : ℕ)
    → k + n < length x
    → DigitsRead x k n v
    → digit (get_or x (k + n) 0) ≡ true
    → d ≡ get_or x (k + n) 0 - 0x30
    → DigitsRead x k (n + 1) (v * 10 + d)
digits-next x k n v d h r i e =
    let b = get_or x (k + n) 0 in
    let place : k + n + 1 ≡ k + (n + 1) = omega arith in
    let more = rw place at (run-next digit x (k + n) h i) in
    record {
      digits = r.digits ++ (b ∷ []);
      size = omega (arith, length-append r.digits (b ∷ []), r.size);
      value = number_snoc 0 r.digits b ∙ rw (r.value, e);
      first = r.first;
      found = r.found ∙ ap (λ y. r.digits ++ y) more ∙ sym (append_assoc r.digits (b ∷ []) (run digit (drop (k + (n + 1)) x)));
    }

-- digits with no digit after them are a run
module _ (x : List ℕ) (k n v : ℕ) (r : DigitsRead x k n v) (stop : NoDigit (drop (k + n) x)) where
  digits-run : run digit (drop k x) ≡ r.digits
  digits-run = r.found ∙ rw stop (append-nil r.digits)

  digits_past : past_run digit (drop k x) ≡ drop (k + n) x
  digits_past = past_run-drop digit (drop k x) ∙ rw (digits-run, r.size) (drop-drop n k x)

field_at :
    (x : List ℕ) (k c n v : ℕ)
    → k < length x
    → get_or x k 0 ≡ c
    → DigitsRead x (suc k) n v
    → NoDigit (drop (suc k + n) x)
    → field c n (drop k x) ≡ got v (drop (suc k + n) x)
unfolding field expect on_got
field_at x k c n v h e r stop =
    let ds = digits-run x (suc k) n v r stop in
    let past = digits_past x (suc k) n v r stop in
    rw (drop-cons x k 0 h, e, eq-eqb c c refl, ds, past, r.size, eq-eqb n n refl, r.value)

-- whitespace is passed, and a digit is none
past_space : (x : List ℕ) (k : ℕ) → k < length x → get_or x k 0 ≡ space → past_run white (drop k x) ≡ past_run white (drop (suc k) x)
unfolding past_run white
past_space x k h e = rw (drop-cons x k 0 h, e) refl

no_white : (x : List ℕ) (k : ℕ) → k < length x → white (get_or x k 0) ≡ false → past_run white (drop k x) ≡ drop k x
unfolding past_run
no_white x k h e = rw (drop-cons x k 0 h, e)

white-digit : (b : ℕ) → digit b ≡ true → white b ≡ false
unfolding white
white-digit b e =
    let low = digit_range b e in
    rw (
      ne_eqb b space (λ q. omega arith),
      ne_eqb b tab (λ q. omega arith),
      ne_eqb b lf (λ q. omega arith),
      ne_eqb b form_feed (λ q. omega arith),
      ne_eqb b cr (λ q. omega arith),
    )

some_digits_lem : (ds : List ℕ) → length ds ≡ 2 → is_empty ds ≡ false
unfolding is_empty
some_digits_lem [] e = absurd (omega arith)
some_digits_lem (d ∷ ds) e = refl

-- the twelve bytes of a time
module _
    (x : List ℕ) (long : 12 ≤ length x) (h m s n : ℕ)
    (hours : DigitsRead x 0 2 h) (two : get_or x 2 0 ≡ colon)
    (minutes : DigitsRead x 3 2 m) (five : get_or x 5 0 ≡ colon)
    (seconds : DigitsRead x 6 2 s) (eight : get_or x 8 0 ≡ full_stop) (thousandths : DigitsRead x 9 3 n)
  where
    stop_at_lem : (k c : ℕ) → k < 12 → get_or x k 0 ≡ c → digit c ≡ false → NoDigit (drop k x)
    stop_at_lem k c l e f = run-stop digit x k (omega arith) (rw e f)

    colon-next : starts_with (colon ∷ []) (drop 5 x) ≡ true
    unfolding starts_with
    colon-next = rw (drop-cons x 5 0 (omega arith), five)

    clock_reads :
        m < 60
        → s < 60
        → NoDigit (drop 12 x)
        → timestamp x ≡ got (record { hours = h; minutes = m; seconds = s; thousandths = n }) (drop 12 x)
    unfolding timestamp on_got three_values last_steps in_range digit
    clock_reads hm hs stop =
        let first = stop_at_lem 2 colon (omega arith) two refl in
        let ds = digits-run x 0 2 h hours first in
        let some = some_digits_lem hours.digits hours.size in
        let past = digits_past x 0 2 h hours first in
        let second = field_at x 2 colon 2 m (omega arith) two minutes (stop_at_lem 5 colon (omega arith) five refl) in
        let third = field_at x 5 colon 2 s (omega arith) five seconds (stop_at_lem 8 full_stop (omega arith) eight refl) in
        let fourth = field_at x 8 full_stop 3 n (omega arith) eight thousandths stop in
        let both = or_true (hours_first hours.digits) in
        rw (ds, some, past, second, ds, colon-next, both, third, fourth, le-ltb 59 m (omega arith), le-ltb 59 s (omega arith), hours.value)

    pub clock_read : h < 100 → m < 60 → s < 60 → ClockRead x (3_600_000 * h + 60_000 * m + 1_000 * s + n)
    unfolding over_hours milliseconds
    clock_read hh hm hs =
        record {
          time = record { hours = h; minutes = m; seconds = s; thousandths = n };
          starts = no_white x 0 (omega arith) (white-digit (get_or x 0 0) hours.first);
          reads = clock_reads hm hs;
          within = le-ltb max_hours h (omega arith);
          value = refl;
        }

-- the five bytes of the arrow
pub arrow_read :
    (x : List ℕ)
    → 5 ≤ length x
    → get_or x 0 0 ≡ space
    → get_or x 1 0 ≡ hyphen
    → get_or x 2 0 ≡ hyphen
    → get_or x 3 0 ≡ greater
    → get_or x 4 0 ≡ space
    → ArrowRead x
unfolding arrow_and_end on_got digit white starts_with
arrow_read x h a b c d e =
    let stands : (i v : ℕ) → i < length x → get_or x i 0 ≡ v → starts_with (v ∷ []) (drop i x) ≡ true =
    λ i v l k. rw (drop-cons x i 0 l, eq-eqb (get_or x i 0) v k) in
    let here = arrow-here x 1 (stands 1 hyphen (omega arith) b) (stands 2 hyphen (omega arith) c) (stands 3 greater (omega arith) d) in
    record {
      stops = run-stop digit x 0 (omega arith) (rw a refl);
      reads = rw (past_space x 0 (omega arith) a, no_white x 1 (omega arith) (rw b refl), here, past_space x 4 (omega arith) e);
    }

-- a part of a slice that goes up to its end
pub rest : (x : List ℕ) (k : ℕ) → take (length x - k) (drop k x) ≡ drop k x
rest x k = take_all (length x - k) (drop k x) (omega (arith, length-drop k x))

-- both times, with the arrow between them
pub usual_read :
    (s : List ℕ) (at start end : ℕ)
    → at ≤ length s
    → let x = drop at s in
    29 ≤ length x
    → ClockRead x start
    → ArrowRead (drop 12 x)
    → ClockRead (drop 17 x) end
    → NoDigit (drop 29 x)
    → UsualRead s at start end
unfolding timings on_got
usual_read s at start end h long first a second stop =
    let x = drop at s in
    let last : drop 12 (drop 17 x) ≡ drop 29 x = drop-drop 12 17 x in
    let read = second.reads (rw last stop) in
    record {
      first = first.time;
      second = second.time;
      inside = omega (arith, length-drop at s);
      reads = rw (first.starts, first.reads a.stops, a.reads, drop-drop 5 12 x, second.starts, read, last, drop-drop 29 at s);
      first-within = first.within;
      second-within = second.within;
      start_is = first.value;
      end_is = second.value;
    }
