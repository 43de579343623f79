-- Numbers and times as they are written: reading them gives the number back, and no byte that parts texts stands in them.
use Prim.Native.Nat.{ℕ, zero, suc, ◌+◌, ◌-◌, ◌*◌, ◌/◌, ◌%◌, ◌^◌, ◌≤◌, ◌<◌}
use mathlib.Core.Path.{◌≡◌, refl, sym, ap, ◌∙◌}
use mathlib.Core.Bool.{Bool, true, false, cond, not, ◌&&◌, ◌||◌, true≢false, false≢true}
use mathlib.Core.List.{List, [], ◌∷◌, ◌++◌, append_assoc}
use Rattle.std.specs.Prelude.{Some}
use native.Mathlib.Nat.{mul-le-mul_right, pow-succ', pow-le-pow_right}
use native.Mathlib.Omega.{arith}
use lib.Dec.{leb, ltb, eqb}
use lib.ListN.{length, take, replicate, length-append}
use borrow.Author.Tests.{ltb-true, ltb-false, leb-true, le-leb, lt-leb, le-ltb, lt-ltb, eqb-true, eqb-false, eq-eqb, ne_eqb, not-true}
use Rattle.format.specs.Bytes.{ascii, tab, lf, form_feed, cr, space, percent, hyphen, full_stop, colon, digit, white}
use Rattle.format.specs.Limits.{max_hours, max_line}
use Rattle.format.specs.Texts.{starts_with, ends_with, without_last, is_empty, all, run, past_run}
use Rattle.format.specs.Numbers.{number_from, number, some_digits, Decimal, decimal_of, decimal, above, millionths, up_to100, percentage, LineNumber, signed, line_number, over_line, is_negative, line_count}
use Rattle.format.specs.Times.{got, on_got, expect, Time, hours_first, field, three_values, in_range, last_steps, timestamp, milliseconds, over_hours}
use Rattle.format.specs.Written.{last_digits, at_least, decimal_in, written_time, on_digit, without_zeros, fraction, written_decimal, written_percentage}
use Rattle.laws.proofs.Tests.{by-test, and_left, and_right, and_both, and-false, or_true, absent}

-- tests that all bytes pass
pub all_append : (p : ℕ → Bool) (s t : List ℕ) → all p s ≡ true → all p t ≡ true → all p (s ++ t) ≡ true
unfolding all
all_append p [] t f g = g
all_append p (b ∷ s) t f g =
    and_both (p b) (all p (s ++ t)) (and_left (p b) (all p s) f) (all_append p s t (and_right (p b) (all p s) f) g)

pub all_weaker : (p q : ℕ → Bool) → ((b : ℕ) → p b ≡ true → q b ≡ true) → (s : List ℕ) → all p s ≡ true → all q s ≡ true
unfolding all
all_weaker p q f [] h = refl
all_weaker p q f (b ∷ s) h =
    and_both (q b) (all q s) (f b (and_left (p b) (all p s) h)) (all_weaker p q f s (and_right (p b) (all p s) h))

-- empty texts and others
some_bytes : (s : List ℕ) → 0 < length s → is_empty s ≡ false
unfolding is_empty
some_bytes [] h = absurd (omega arith)
some_bytes (b ∷ s) h = refl

no_bytes : (s : List ℕ) → is_empty s ≡ true → s ≡ []
unfolding is_empty
no_bytes [] e = refl
no_bytes (b ∷ s) e = absurd (false≢true e)

pub some_append : (s t : List ℕ) → is_empty s ≡ false → is_empty (s ++ t) ≡ false
unfolding is_empty
some_append [] t e = absurd (true≢false e)
some_append (b ∷ s) t e = refl

-- a run of bytes that pass a test, and another text after it
pub run-over : (p : ℕ → Bool) (s t : List ℕ) → all p s ≡ true → run p t ≡ [] → run p (s ++ t) ≡ s
unfolding all run
run-over p [] t f e = e
run-over p (b ∷ s) t f e = rw (and_left (p b) (all p s) f, run-over p s t (and_right (p b) (all p s) f) e)

pub past_run-none : (p : ℕ → Bool) (t : List ℕ) → run p t ≡ [] → past_run p t ≡ t
unfolding run past_run
past_run-none p [] e = refl
past_run-none p (b ∷ t) e =
    by-test (p b)
    (λ y. let f : b ∷ run p t ≡ [] = rw y at e in let z : ◌≡◌ {A = ℕ} 0 1 = cc in absurd (omega arith))
    (λ n. rw n)

pub past_run-over : (p : ℕ → Bool) (s t : List ℕ) → all p s ≡ true → run p t ≡ [] → past_run p (s ++ t) ≡ t
unfolding all past_run
past_run-over p [] t f e = past_run-none p t e
past_run-over p (b ∷ s) t f e = rw (and_left (p b) (all p s) f, past_run-over p s t (and_right (p b) (all p s) f) e)

-- a text and one byte after it
pub ends_with_snoc : (c : ℕ) (s : List ℕ) → ends_with c (s ++ c ∷ []) ≡ true
unfolding ends_with
ends_with_snoc c [] = eq-eqb c c refl
ends_with_snoc c (b ∷ []) = eq-eqb c c refl
ends_with_snoc c (b ∷ (d ∷ s)) = ends_with_snoc c (d ∷ s)

without_last_snoc : (c : ℕ) (s : List ℕ) → without_last (s ++ c ∷ []) ≡ s
unfolding without_last
without_last_snoc c [] = refl
without_last_snoc c (b ∷ []) = refl
without_last_snoc c (b ∷ (d ∷ s)) = ap (λ r. b ∷ r) (without_last_snoc c (d ∷ s))

digit-is : (b : ℕ) → 0x30 ≤ b → b ≤ 0x39 → digit b ≡ true
unfolding digit
digit-is b l h = rw (le-leb 0x30 b l, le-leb b 0x39 h)

-- the last k digits: their count, that they are digits, and their value
pub digits-length : (k n : ℕ) → length (last_digits k n) ≡ k
unfolding last_digits
digits-length zero n = refl
digits-length (suc k) n =
    omega (arith, length-append (last_digits k (n / 10)) ((0x30 + n % 10) ∷ []), digits-length k (n / 10))

pub digits-all : (k n : ℕ) → all digit (last_digits k n) ≡ true
unfolding last_digits all
digits-all zero n = refl
digits-all (suc k) n =
    all_append digit (last_digits k (n / 10)) ((0x30 + n % 10) ∷ []) (digits-all k (n / 10))
    (rw (digit-is (0x30 + n % 10) (omega arith) (omega arith)))

number_append : (n : ℕ) (xs ys : List ℕ) → number_from n (xs ++ ys) ≡ number_from (number_from n xs) ys
unfolding number_from
number_append n [] ys = refl
number_append n (x ∷ xs) ys = number_append (n * 10 + (x - 0x30)) xs ys

pub digits_value : (k n : ℕ) → n < 10 ^ k → number (last_digits k n) ≡ n
unfolding last_digits number_from
digits_value zero n h = omega arith
digits_value (suc k) n h =
    let front = digits_value k (n / 10) (omega arith) in
    number_append 0 (last_digits k (n / 10)) ((0x30 + n % 10) ∷ []) ∙ omega arith

-- what stands at the start is dropped where both tests allow it
either : (P : List ℕ → Type 0) (a b : Bool) (x y : List ℕ) → (a ≡ true → b ≡ true → P x) → P y → P (cond (a && b) x y)
either P true true x y f g = f refl refl
either P true false x y f g = g
either P false b x y f g = g

at_least-value : (k : ℕ) (ds : List ℕ) → number (at_least k ds) ≡ number ds
unfolding at_least number_from
at_least-value k [] = refl
at_least-value k (d ∷ ds) =
    either (λ r. number r ≡ number (d ∷ ds)) (eqb d 0x30) _ (at_least k ds) (d ∷ ds)
    (λ y _. rw (eqb-true d 0x30 y) (at_least-value k ds)) refl

at_least-all : (p : ℕ → Bool) (k : ℕ) (ds : List ℕ) → all p ds ≡ true → all p (at_least k ds) ≡ true
unfolding at_least all
at_least-all p k [] f = refl
at_least-all p k (d ∷ ds) f =
    either (λ r. all p r ≡ true) (eqb d 0x30) _ (at_least k ds) (d ∷ ds)
    (λ _ _. at_least-all p k ds (and_right (p d) (all p ds) f)) f

at_least_shorter : (k : ℕ) (ds : List ℕ) → length (at_least k ds) ≤ length ds
unfolding at_least
at_least_shorter k [] = omega arith
at_least_shorter k (d ∷ ds) =
    either (λ r. length r ≤ suc (length ds)) (eqb d 0x30) _ (at_least k ds) (d ∷ ds) (λ _ _. omega (arith, at_least_shorter k ds)) (omega arith)

at_least-length : (k : ℕ) (ds : List ℕ) → k ≤ length ds → k ≤ length (at_least k ds)
unfolding at_least
at_least-length k [] h = h
at_least-length k (d ∷ ds) h =
    either (λ r. k ≤ length r) (eqb d 0x30) (leb k (length ds)) (at_least k ds) (d ∷ ds)
    (λ _ l. at_least-length k ds (leb-true k (length ds) l)) h

-- a number in k digits at least
pub decimal-value : (k n : ℕ) → n < 10 ^ 20 → number (decimal_in k n) ≡ n
unfolding decimal_in
decimal-value k n h = at_least-value k (last_digits 20 n) ∙ digits_value 20 n h

pub decimal-all : (k n : ℕ) → all digit (decimal_in k n) ≡ true
unfolding decimal_in
decimal-all k n = at_least-all digit k (last_digits 20 n) (digits-all 20 n)

pub decimal-length : (k n : ℕ) → k ≤ 20 → k ≤ length (decimal_in k n)
unfolding decimal_in
decimal-length k n h = at_least-length k (last_digits 20 n) (omega (arith, digits-length 20 n))

pub decimal-some : (k n : ℕ) → 0 < k → k ≤ 20 → is_empty (decimal_in k n) ≡ false
decimal-some k n l h = some_bytes (decimal_in k n) (omega (arith, decimal-length k n h))

-- digits lie between powers of ten
number_least : (n : ℕ) (ds : List ℕ) → n * 10 ^ length ds ≤ number_from n ds
unfolding number_from
number_least n [] = omega arith
number_least n (d ∷ ds) =
    rw (pow-succ' 10 (length ds)) (omega (arith, number_least (n * 10 + (d - 0x30)) ds))

number-most : (n : ℕ) (ds : List ℕ) → all digit ds ≡ true → number_from n ds < suc n * 10 ^ length ds
unfolding number_from all digit
number-most n [] f = omega arith
number-most n (d ∷ ds) f =
    let high = leb-true d 0x39 (and_right (leb 0x30 d) (leb d 0x39) (and_left (digit d) (all digit ds) f)) in
    let step : suc (n * 10 + (d - 0x30)) ≤ suc n * 10 = omega arith in
    let more = mul-le-mul_right (10 ^ length ds) step in
    rw (pow-succ' 10 (length ds)) (omega (arith, number-most (n * 10 + (d - 0x30)) ds (and_right (digit d) (all digit ds) f)))

-- more than k digits are left only of a number that has them
at_least_lean : (k : ℕ) (ds : List ℕ) → all digit ds ≡ true → k < length (at_least k ds) → 10 ^ k ≤ number ds
unfolding at_least number_from all digit
at_least_lean k [] f l = absurd (omega arith)
at_least_lean k (d ∷ ds) f l =
    let h : k ≤ length ds = omega (arith, at_least_shorter k (d ∷ ds)) in
    by-test (eqb d 0x30)
    (λ z. let m : k < length (at_least k ds) = rw (z, le-leb k (length ds) h) at l in
    rw (eqb-true d 0x30 z) (at_least_lean k ds (and_right (digit d) (all digit ds) f) m))
    (λ n. let low = leb-true 0x30 d (and_left (leb 0x30 d) (leb d 0x39) (and_left (digit d) (all digit ds) f)) in
    let one : 1 ≤ d - 0x30 = omega (arith, eqb-false d 0x30 n) in
    let more = mul-le-mul_right (10 ^ length ds) one in
    omega (arith, number_least (0 * 10 + (d - 0x30)) ds, pow-le-pow_right {n = 10} (omega arith) h))

-- a number has exactly k digits where it is below the k-th power of ten, and only there
pub decimal_exact : (k n : ℕ) → k ≤ 20 → n < 10 ^ k → length (decimal_in k n) ≡ k
unfolding decimal_in
decimal_exact k n h l =
    let is = digits_value 20 n (omega (arith, pow-le-pow_right {n = 10} (omega arith) h)) in
    let ds = last_digits 20 n in
    by-test (ltb k (length (at_least k ds)))
    (λ y. absurd (omega (arith, at_least_lean k ds (digits-all 20 n) (ltb-true k (length (at_least k ds)) y))))
    (λ z. omega (arith, ltb-false k (length (at_least k ds)) z, decimal-length k n h))

pub exact_below : (k n : ℕ) → n < 10 ^ 20 → length (decimal_in k n) ≡ k → n < 10 ^ k
exact_below k n h e =
    let is = decimal-value k n h in
    let most : number (decimal_in k n) < 1 * 10 ^ k = rw e at (number-most 0 (decimal_in k n) (decimal-all k n)) in
    omega arith

-- a field of a time: a character and exactly k digits
field_read :
    (c k n : ℕ) (rest : List ℕ)
    → n < 10 ^ k
    → run digit rest ≡ []
    → field c k (c ∷ last_digits k n ++ rest) ≡ got n rest
unfolding field expect on_got
field_read c k n rest h e =
    let ds = last_digits k n in
    let d = digits-all k n in
    rw
    (eq-eqb c c refl, run-over digit ds rest d e, past_run-over digit ds rest d e, digits-length k n, eq-eqb k k refl, digits_value k n h)

three_read :
    (first : List ℕ) (m s : ℕ) (rest : List ℕ)
    → s < 100
    → run digit rest ≡ []
    → three_values first m (colon ∷ last_digits 2 s ++ rest) ≡ got (record { hours = number first; minutes = m; seconds = s; thousandths = 0 }) rest
unfolding three_values starts_with on_got
three_read first m s rest h e = rw (or_true (hours_first first), field_read colon 2 s rest h e)

last_read :
    (t : Time) (n : ℕ) (rest : List ℕ)
    → t.minutes < 60
    → t.seconds < 60
    → n < 1_000
    → run digit rest ≡ []
    → last_steps t (full_stop ∷ last_digits 3 n ++ rest)
    ≡ got (record { hours = t.hours; minutes = t.minutes; seconds = t.seconds; thousandths = n }) rest
unfolding last_steps in_range on_got
last_read t n rest m s h e =
    rw (field_read full_stop 3 n rest h e, le-ltb 59 t.minutes (omega arith), le-ltb 59 t.seconds (omega arith))

fields_read :
    (first : List ℕ) (m s n : ℕ) (rest : List ℕ)
    → all digit first ≡ true
    → is_empty first ≡ false
    → m < 60
    → s < 60
    → n < 1_000
    → run digit rest ≡ []
    → timestamp (first ++ (colon ∷ last_digits 2 m ++ (colon ∷ last_digits 2 s ++ (full_stop ∷ last_digits 3 n ++ rest))))
    ≡ got (record { hours = number first; minutes = m; seconds = s; thousandths = n }) rest
unfolding timestamp on_got run digit
fields_read first m s n rest d f hm hs hn e =
    let fourth = full_stop ∷ last_digits 3 n ++ rest in
    let third = colon ∷ last_digits 2 s ++ fourth in
    let second = colon ∷ last_digits 2 m ++ third in
    let front = run-over digit first second d refl in
    let past = past_run-over digit first second d refl in
    rw (front, f, past, field_read colon 2 m third (omega arith) refl, front, three_read first m s fourth (omega arith) refl)
    (last_read (record { hours = number first; minutes = m; seconds = s; thousandths = 0 }) n rest hm hs hn e)

-- a time, and what does not begin with a digit after it
pub record TimeRead (ms : ℕ) (rest : List ℕ) : Type 0 where
  pub time : Time
  pub read : timestamp (written_time ms ++ rest) ≡ got time rest
  pub value : milliseconds time ≡ ms
  pub within : over_hours time ≡ false

pub time_read : (ms : ℕ) (rest : List ℕ) → ms < 360_000_000_000 → run digit rest ≡ [] → TimeRead ms rest
unfolding written_time milliseconds over_hours
time_read ms rest l e =
    let h = ms / 3_600_000 in
    let m = ms / 60_000 % 60 in
    let s = ms / 1_000 % 60 in
    let n = ms % 1_000 in
    let is : number (decimal_in 2 h) ≡ h = decimal-value 2 h (omega arith) in
    let filled = decimal-some 2 h (omega arith) (omega arith) in
    record {
      time = record { hours = number (decimal_in 2 h); minutes = m; seconds = s; thousandths = n };
      read = simp append_assoc
          (fields_read (decimal_in 2 h) m s n rest (decimal-all 2 h) filled (omega arith) (omega arith) (omega arith) e);
      value = omega arith;
      within = rw is (le-ltb max_hours h (omega arith));
    }

-- digits without the zeros they end with: those zeros put back, they are the same
without_zeros-all : (p : ℕ → Bool) (ds : List ℕ) → all p ds ≡ true → all p (without_zeros ds) ≡ true
unfolding without_zeros on_digit all
without_zeros-all p [] f = refl
without_zeros-all p (d ∷ ds) f =
    either (λ r. all p r ≡ true) (eqb d 0x30) (is_empty (without_zeros ds)) [] (d ∷ without_zeros ds) (λ _ _. refl)
    (and_both (p d) (all p (without_zeros ds)) (and_left (p d) (all p ds) f) (without_zeros-all p ds (and_right (p d) (all p ds) f)))

padded : (n : ℕ) (ds : List ℕ) → length ds ≤ n → take (length ds) (without_zeros ds ++ replicate n 0x30) ≡ ds
unfolding without_zeros on_digit
padded n [] h = refl
padded zero (d ∷ ds) h = absurd (omega arith)
padded (suc n) (d ∷ ds) h =
    by-test (eqb d 0x30 && is_empty (without_zeros ds))
    (λ y. let e = no_bytes (without_zeros ds) (and_right (eqb d 0x30) (is_empty (without_zeros ds)) y) in
    let rest : take (length ds) (replicate n 0x30) ≡ ds = rw e at (padded n ds (omega arith)) in
    rw (y, rest, eqb-true d 0x30 (and_left (eqb d 0x30) (is_empty (without_zeros ds)) y)))
    (λ z. rw z (ap (λ r. d ∷ r) (padded (suc n) ds (omega arith))))

-- the decimal that is written of millionths
abbrev pub decimal_for : ℕ → Decimal
decimal_for m = record { whole = decimal_in 1 (m / 1_000_000); fraction = without_zeros (last_digits 6 (m % 1_000_000)) }

fraction-stops : (ds : List ℕ) → run digit (fraction ds) ≡ []
unfolding fraction run digit
fraction-stops [] = refl
fraction-stops (d ∷ ds) = refl

decimal_of_read :
    (whole ds : List ℕ)
    → is_empty whole ≡ false
    → all digit ds ≡ true
    → decimal_of whole (fraction ds) ≡ Some (record { whole = whole; fraction = ds })
unfolding decimal_of fraction some_digits is_empty
decimal_of_read whole [] e f = rw e
decimal_of_read whole (d ∷ ds) e f = rw (e, f)

whole-some : (m : ℕ) → is_empty (decimal_in 1 (m / 1_000_000)) ≡ false
whole-some m = decimal-some 1 (m / 1_000_000) (omega arith) (omega arith)

pub fraction-all : (m : ℕ) → all digit (without_zeros (last_digits 6 (m % 1_000_000))) ≡ true
fraction-all m = without_zeros-all digit (last_digits 6 (m % 1_000_000)) (digits-all 6 (m % 1_000_000))

pub decimal_read : (m : ℕ) → decimal (written_decimal m) ≡ Some (decimal_for m)
unfolding decimal written_decimal
decimal_read m =
    let whole = decimal_in 1 (m / 1_000_000) in
    let rest = without_zeros (last_digits 6 (m % 1_000_000)) in
    let f = decimal-all 1 (m / 1_000_000) in
    let e = fraction-stops rest in
    rw (run-over digit whole (fraction rest) f e, past_run-over digit whole (fraction rest) f e)
    (decimal_of_read whole rest (whole-some m) (fraction-all m))

pub millionths_read : (m : ℕ) → m < 10 ^ 20 → millionths (decimal_for m) ≡ m
unfolding millionths
millionths_read m h =
    let f = m % 1_000_000 in
    let ds = last_digits 6 f in
    let six : take 6 (without_zeros ds ++ ascii "000000") ≡ ds = rw (digits-length 6 f) at (padded 6 ds (omega (arith, digits-length 6 f))) in
    rw six (omega (arith, decimal-value 1 (m / 1_000_000) (omega arith), digits_value 6 f (omega arith)))

-- a decimal up to a limit is not above it
pub not-above : (limit m : ℕ) → m ≤ limit * 1_000_000 → m < 10 ^ 20 → above limit (decimal_for m) ≡ false
unfolding above last_digits without_zeros on_digit is_empty all
not-above limit m l h =
    let w : number (decimal_in 1 (m / 1_000_000)) ≡ m / 1_000_000 = decimal-value 1 (m / 1_000_000) (omega arith) in
    rw (w, le-ltb limit (m / 1_000_000) (omega arith))
    (by-test (eqb (m / 1_000_000) limit)
    (λ y. let e : m % 1_000_000 ≡ 0 = omega (arith, eqb-true (m / 1_000_000) limit y) in rw (y, e))
    (λ n. rw n))

pub percentage_read : (m : ℕ) → m ≤ 100_000_000 → percentage (written_percentage m) ≡ Some m
unfolding percentage written_percentage up_to100
percentage_read m h =
    let s = written_decimal m in
    rw
    (ends_with_snoc percent s, without_last_snoc percent s, decimal_read m, not-above 100 m h (omega arith), millionths_read m (omega arith))

-- a line's number
pub record LineRead (negative : Bool) (m : ℕ) : Type 0 where
  pub line : LineNumber
  pub read : line_number (cond negative (hyphen ∷ []) [] ++ written_decimal m) ≡ Some line
  pub within : over_line line ≡ false
  pub sign : is_negative line ≡ negative
  pub value : millionths line.size ≡ m

not-hyphen : (b : ℕ) → digit b ≡ true → eqb b hyphen ≡ false
unfolding digit
not-hyphen b e = let l = leb-true 0x30 b (and_left (leb 0x30 b) (leb b 0x39) e) in ne_eqb b hyphen (λ y. omega arith)

unsigned : (s t : List ℕ) → is_empty s ≡ false → all digit s ≡ true → line_number (s ++ t) ≡ signed false (decimal (s ++ t))
unfolding line_number is_empty all
unsigned [] t e f = absurd (true≢false e)
unsigned (b ∷ s) t e f = rw (not-hyphen b (and_left (digit b) (all digit s) f))

line_number_read :
    (negative : Bool) (m : ℕ)
    → line_number (cond negative (hyphen ∷ []) [] ++ written_decimal m) ≡ signed negative (decimal (written_decimal m))
unfolding line_number written_decimal
line_number_read true m = refl
line_number_read false m =
    unsigned (decimal_in 1 (m / 1_000_000)) (fraction (without_zeros (last_digits 6 (m % 1_000_000)))) (whole-some m) (decimal-all 1 (m / 1_000_000))

pub line_read : (negative : Bool) (m : ℕ) → m ≤ 999_999_000_000 → (negative ≡ true → 0 < m) → LineRead negative m
unfolding signed over_line is_negative
line_read negative m h p =
    let v = millionths_read m (omega arith) in
    record {
      line = record { minus = negative; size = decimal_for m };
      read = line_number_read negative m ∙ rw (decimal_read m);
      within = not-above max_line m (omega arith) (omega arith);
      sign = rw v (sign_is negative p);
      value = v;
    }
  where
    sign_is : (negative : Bool) → (negative ≡ true → 0 < m) → negative && ltb 0 m ≡ negative
    sign_is true p = lt-ltb 0 m (p refl)
    sign_is false p = refl

-- a count of lines
pub count_read : (n : ℕ) → n ≤ 999_999 → line_count (decimal_in 1 n) ≡ Some n
unfolding line_count some_digits
count_read n h =
    rw (decimal-some 1 n (omega arith) (omega arith), decimal-all 1 n, decimal-value 1 n (omega arith))

-- the bytes that numbers and times are written with
unfoldable pub numeral : ℕ → Bool
numeral b = digit b || eqb b percent || eqb b full_stop || eqb b colon

digits_numeral : (s : List ℕ) → all digit s ≡ true → all numeral s ≡ true
unfolding numeral
digits_numeral s h = all_weaker digit numeral (λ b e. rw e) s h

pub decimal_in_numeral : (k n : ℕ) → all numeral (decimal_in k n) ≡ true
decimal_in_numeral k n = digits_numeral (decimal_in k n) (decimal-all k n)

after_numeral : (c k n : ℕ) → numeral c ≡ true → all numeral (c ∷ last_digits k n) ≡ true
unfolding all
after_numeral c k n e = rw (e, digits_numeral (last_digits k n) (digits-all k n))

pub written_time_numeral : (ms : ℕ) → all numeral (written_time ms) ≡ true
unfolding written_time numeral digit
written_time_numeral ms =
    let hours = decimal_in 2 (ms / 3_600_000) in
    let minutes = colon ∷ last_digits 2 (ms / 60_000 % 60) in
    let seconds = colon ∷ last_digits 2 (ms / 1_000 % 60) in
    all_append numeral (hours ++ minutes ++ seconds) (full_stop ∷ last_digits 3 (ms % 1_000))
    (all_append numeral (hours ++ minutes) seconds
    (all_append numeral hours minutes (decimal_in_numeral 2 (ms / 3_600_000)) (after_numeral colon 2 (ms / 60_000 % 60) refl))
    (after_numeral colon 2 (ms / 1_000 % 60) refl))
    (after_numeral full_stop 3 (ms % 1_000) refl)

fraction_numeral : (ds : List ℕ) → all digit ds ≡ true → all numeral (fraction ds) ≡ true
unfolding fraction all numeral digit
fraction_numeral [] h = refl
fraction_numeral (d ∷ ds) h = digits_numeral (d ∷ ds) h

pub written_decimal_numeral : (m : ℕ) → all numeral (written_decimal m) ≡ true
unfolding written_decimal
written_decimal_numeral m =
    let rest = without_zeros (last_digits 6 (m % 1_000_000)) in
    all_append numeral (decimal_in 1 (m / 1_000_000)) (fraction rest) (decimal_in_numeral 1 (m / 1_000_000))
    (fraction_numeral rest (fraction-all m))

pub written_percentage_numeral : (m : ℕ) → all numeral (written_percentage m) ≡ true
unfolding written_percentage all numeral digit
written_percentage_numeral m = all_append numeral (written_decimal m) (percent ∷ []) (written_decimal_numeral m) refl

-- no byte besides stands in them: LF, comma, hyphen, `>`, NUL and the others
pub numeral_other : (b c : ℕ) → numeral b ≡ true → numeral c ≡ false → eqb b c ≡ false
numeral_other b c p n = ne_eqb b c (λ e. absurd (false≢true (sym n ∙ ap numeral (sym e) ∙ p)))

pub numeral_absent : (c : ℕ) (s : List ℕ) → numeral c ≡ false → all numeral s ≡ true → absent c s ≡ true
unfolding absent all
numeral_absent c [] n h = refl
numeral_absent c (b ∷ s) n h =
    rw (numeral_other b c (and_left (numeral b) (all numeral s) h) n) (numeral_absent c s n (and_right (numeral b) (all numeral s) h))

not_white : (b : ℕ) → numeral b ≡ true → not (white b) ≡ true
unfolding white numeral digit
not_white b p =
    let other : (c : ℕ) → numeral c ≡ false → eqb b c ≡ false = λ c n. numeral_other b c p n in
    rw (other space refl, other tab refl, other lf refl, other form_feed refl, other cr refl)

pub numeral_unwhite : (s : List ℕ) → all numeral s ≡ true → all (λ b. not (white b)) s ≡ true
numeral_unwhite s h = all_weaker numeral (λ b. not (white b)) not_white s h

high_other : (b : ℕ) → 0x80 ≤ b → numeral b ≡ false
unfolding numeral digit
high_other b l =
    let other : (c : ℕ) → c < 0x80 → eqb b c ≡ false = λ c h. ne_eqb b c (λ e. omega arith) in
    rw (lt-leb b 0x39 (omega arith), and-false (leb 0x30 b) false refl)
    (rw (other percent (omega arith), other full_stop (omega arith), other colon (omega arith)))

pub numeral_ascii : (s : List ℕ) → all numeral s ≡ true → all (λ b. ltb b 0x80) s ≡ true
numeral_ascii s h =
    all_weaker numeral (λ b. ltb b 0x80)
    (λ b p. by-test (ltb b 0x80) (λ y. y) (λ n. absurd (false≢true (sym (high_other b (ltb-false b 0x80 n)) ∙ p)))) s h

-- they are not empty, and begin with no whitespace
pub written_time-some : (ms : ℕ) → is_empty (written_time ms) ≡ false
unfolding written_time
written_time-some ms =
    simp append_assoc (some_append (decimal_in 2 (ms / 3_600_000)) _ (decimal-some 2 (ms / 3_600_000) (omega arith) (omega arith)))

pub written_decimal-some : (m : ℕ) → is_empty (written_decimal m) ≡ false
unfolding written_decimal
written_decimal-some m =
    some_append (decimal_in 1 (m / 1_000_000)) (fraction (without_zeros (last_digits 6 (m % 1_000_000)))) (whole-some m)

pub written_percentage-some : (m : ℕ) → is_empty (written_percentage m) ≡ false
unfolding written_percentage
written_percentage-some m = some_append (written_decimal m) (percent ∷ []) (written_decimal-some m)

pub numeral_unskipped : (s t : List ℕ) → is_empty s ≡ false → all numeral s ≡ true → past_run white (s ++ t) ≡ s ++ t
unfolding past_run all is_empty
numeral_unskipped [] t e h = absurd (true≢false e)
numeral_unskipped (b ∷ s) t e h = rw (not-true (white b) (not_white b (and_left (numeral b) (all numeral s) h)))
