-- A cue's settings and its timing line as they are written: reading them gives the settings and the times back. What a writable row says is
-- of that kind.
use Prim.Native.Nat.{ℕ, zero, suc, ◌+◌, ◌-◌, ◌/◌, ◌%◌, ◌≤◌, ◌<◌}
use mathlib.Core.Path.{◌≡◌, refl, sym, ap, ◌∙◌}
use mathlib.Core.Bool.{Bool, true, false, cond, not, ◌&&◌, ◌||◌, false≢true}
use mathlib.Core.List.{List, [], ◌∷◌, ◌++◌, map, append_assoc, append-nil}
use Rattle.std.specs.Prelude.{Option, None, Some}
use Rattle.std.specs.Option.{option_map_or}
use native.Mathlib.Omega.{arith}
use lib.Dec.{eqb, leb, ltb}
use lib.ListN.{length, get_or}
use borrow.Author.Tests.{ne_eqb, eqb-true, eq-eqb, ltb-true, leb-true, not-true}
use Rattle.format.specs.Bytes.{ascii, white, lf, percent, comma, hyphen, full_stop, colon, digit}
use Rattle.format.specs.Texts.{Part, empty_part, is_empty, same, all, run, ends_with, starts_with, past_run, before_first, has}
use Rattle.format.specs.Tokens.{Flagged, unflagged, folded}
use Rattle.format.specs.CueSettings.{CueSettings, opening_settings, settings_after, name_after, is_over, direction, line_align, line_at_percentage, line_counted}
use Rattle.format.specs.CueSettings.{line_aligned, line_change, position_align, position_aligned, position_change, alignment, named, cue_change}
use Rattle.format.specs.CueSettings.{changed, cue_setting, cue_settings}
use Rattle.format.specs.declared.settings.Settings.{Settings}
use Rattle.format.specs.declared.settings.Change.{Change}
use Rattle.format.specs.Written.{last_digits, decimal_in, written_time, without_zeros, fraction, written_decimal, written_percentage, setting}
use Rattle.format.specs.Written.{written_vertical, written_line_align, written_line_number, written_line, written_position_align, written_position}
use Rattle.format.specs.Written.{written_size, written_align, written_five, written_region_name, written_settings, after_spaces, written_timing, line_ended}
use Rattle.format.specs.Blocks.{holds_arrow}
use Rattle.format.specs.Rows.{cue_entry}
use Rattle.format.specs.Writable.{unbroken, at_most100, line_fits, position_fits, is_index, last_of_its_name, names_of, cue_test1, cue_test2, cue_test3, cue_test4}
use Rattle.format.specs.Writable.{cue_test5, cue_test6, cue_tests, cue_fails, region_test1, region_test2, region_tests, region_fails}
use Rattle.format.specs.RegionSettings.{last_named}
use Rattle.format.specs.Times.{value, got, on_got, expect}
use Rattle.format.specs.TimingLines.{arrow, arrow_and_end, timings, Timing, with_settings, timing_of, timed_line, timing_line}
use Rattle.format.specs.Contents.{CueContents, RegionContents, cue_of_entry, cue_of_row, region_of_row}
use Rattle.format.specs.declared.settings.Direction.{Direction}
use Rattle.format.specs.declared.settings.Line.{Line}
use Rattle.format.specs.declared.settings.LinePlace.{LinePlace}
use Rattle.format.specs.declared.settings.LineAlign.{LineAlign}
use Rattle.format.specs.declared.settings.Position.{Position}
use Rattle.format.specs.declared.settings.PositionPlace.{PositionPlace}
use Rattle.format.specs.declared.settings.PositionAlign.{PositionAlign}
use Rattle.format.specs.declared.settings.Align.{Align}
use Rattle.laws.proofs.Tests.{and_left, and_right, and_both, or_true, by-test, absent, absent_append}
use Rattle.laws.proofs.Tokens.{inside as black}
use Rattle.laws.proofs.Standing as Standing
use Rattle.format.specs.Replacing.{with_region}
use Rattle.laws.proofs.Standing.{All, Signed}
use Rattle.laws.proofs.Rows.{row-signed}
use Rattle.roundtrip.proofs.Numbers.{all_append, some_append, run-over, ends_with_snoc, decimal-all, TimeRead, time_read, fraction-all}
use Rattle.roundtrip.proofs.Numbers.{percentage_read, line_read, numeral, written_time_numeral, written_decimal_numeral}
use Rattle.roundtrip.proofs.Numbers.{written_percentage_numeral, numeral_absent, numeral_unwhite, written_time-some, written_decimal-some}
use Rattle.roundtrip.proofs.Numbers.{written_percentage-some, numeral_unskipped}
use Rattle.roundtrip.proofs.Shape.{not_left, is_token, tokens-after_spaces, after_first_lem, setting-name, setting-value, parts_at, parts_append}
use Rattle.roundtrip.proofs.Shape.{black_line, absent_has, none-fails}

-- a text without a byte
digits_absent : (c : ℕ) (s : List ℕ) → digit c ≡ false → all digit s ≡ true → absent c s ≡ true
unfolding all absent
digits_absent c [] n h = refl
digits_absent c (b ∷ s) n h =
    let other = ne_eqb b c (λ e. absurd (false≢true (sym n ∙ ap digit (sym e) ∙ and_left (digit b) (all digit s) h))) in
    rw other (digits_absent c s n (and_right (digit b) (all digit s) h))

fraction_absent : (c : ℕ) (ds : List ℕ) → digit c ≡ false → eqb full_stop c ≡ false → all digit ds ≡ true → absent c (fraction ds) ≡ true
unfolding fraction absent
fraction_absent c [] n e h = refl
fraction_absent c (d ∷ ds) n e h = rw e (digits_absent c (d ∷ ds) n h)

decimal_absent : (c m : ℕ) → digit c ≡ false → eqb full_stop c ≡ false → absent c (written_decimal m) ≡ true
unfolding written_decimal
decimal_absent c m n e =
    let rest = without_zeros (last_digits 6 (m % 1_000_000)) in
    let whole = decimal_in 1 (m / 1_000_000) in
    absent_append c whole (fraction rest) (digits_absent c whole n (decimal-all 1 (m / 1_000_000)))
    (fraction_absent c rest n e (fraction-all m))

ends_absent : (c : ℕ) (s : List ℕ) → absent c s ≡ true → ends_with c s ≡ false
unfolding ends_with absent
ends_absent c [] a = refl
ends_absent c (b ∷ []) a = not_left (eqb b c) true a
ends_absent c (b ∷ (d ∷ s)) a = ends_absent c (d ∷ s) (and_right (not (eqb b c)) (absent c (d ∷ s)) a)

all_absent : (c : ℕ) (s : List ℕ) → absent c s ≡ true → all (λ b. not (eqb b c)) s ≡ true
unfolding all absent
all_absent c [] a = refl
all_absent c (b ∷ s) a =
    and_both (not (eqb b c)) (all (λ b. not (eqb b c)) s) (and_left (not (eqb b c)) (absent c s) a)
    (all_absent c s (and_right (not (eqb b c)) (absent c s) a))

-- what stands before a comma, or where there is none
before_tail : (c : ℕ) (s t : List ℕ) → absent c s ≡ true → before_first c t ≡ [] → before_first c (s ++ t) ≡ s
unfolding before_first
before_tail c s t a e = run-over (λ b. not (eqb b c)) s t (all_absent c s a) e

has-none : (c : ℕ) (s : List ℕ) → absent c s ≡ true → has c s ≡ false
unfolding has
has-none c s a = rw (all_absent c s a)

has-after : (c : ℕ) (s t : List ℕ) → has c (s ++ c ∷ t) ≡ true
unfolding has all
has-after c [] t = rw (eq-eqb c c refl)
has-after c (b ∷ s) t = by-test (eqb b c) (λ y. rw y) (λ n. rw n (has-after c s t))

-- a line's number and a percentage: no comma, some bytes, no whitespace, and `%` at the end of a percentage alone
percentage_absent : (m : ℕ) → absent comma (written_percentage m) ≡ true
unfolding written_percentage absent digit
percentage_absent m = absent_append comma (written_decimal m) (percent ∷ []) (decimal_absent comma m refl refl) refl

abbrev minus : Bool → List ℕ
minus negative = cond negative (hyphen ∷ []) []

number_absent :
    (c : ℕ) (negative : Bool) (m : ℕ)
    → eqb hyphen c ≡ false
    → digit c ≡ false
    → eqb full_stop c ≡ false
    → absent c (minus negative ++ written_decimal m) ≡ true
unfolding absent
number_absent c true m h n e = rw h (decimal_absent c m n e)
number_absent c false m h n e = decimal_absent c m n e

line_absent : (snap negative : Bool) (m : ℕ) → absent comma (written_line_number snap negative m) ≡ true
unfolding written_line_number digit
line_absent true negative m = number_absent comma negative m refl refl refl
line_absent false negative m = percentage_absent m

line_ends_lem : (snap negative : Bool) (m : ℕ) → ends_with percent (written_line_number snap negative m) ≡ not snap
unfolding written_line_number written_percentage digit
line_ends_lem true negative m = ends_absent percent _ (number_absent percent negative m refl refl refl)
line_ends_lem false negative m = ends_with_snoc percent (written_decimal m)

-- the alignments after them
line_before : (s : List ℕ) (a : LineAlign) → absent comma s ≡ true → before_first comma (s ++ written_line_align a) ≡ s
unfolding written_line_align before_first run
line_before s LineAlign.Start h = before_tail comma s _ h refl
line_before s LineAlign.Center h = before_tail comma s _ h refl
line_before s LineAlign.End h = before_tail comma s _ h refl

line_align_lem :
    (s : List ℕ) (a old : LineAlign)
    → absent comma s ≡ true
    → (a ≡ LineAlign.Start → old ≡ LineAlign.Start)
    → line_align (s ++ written_line_align a) old ≡ Some a
unfolding written_line_align line_align same
line_align_lem s LineAlign.Start old h o = rw (append-nil s, has-none comma s h, o refl)
line_align_lem s LineAlign.Center old h o = rw (has-after comma s (ascii "center"), after_first_lem comma (ascii "center") s h)
line_align_lem s LineAlign.End old h o = rw (has-after comma s (ascii "end"), after_first_lem comma (ascii "end") s h)

position_before : (s : List ℕ) (a : PositionAlign) → absent comma s ≡ true → before_first comma (s ++ written_position_align a) ≡ s
unfolding written_position_align before_first run
position_before s PositionAlign.Auto h = before_tail comma s _ h refl
position_before s PositionAlign.LineLeft h = before_tail comma s _ h refl
position_before s PositionAlign.Center h = before_tail comma s _ h refl
position_before s PositionAlign.LineRight h = before_tail comma s _ h refl

position_align_lem :
    (s : List ℕ) (a old : PositionAlign)
    → absent comma s ≡ true
    → (a ≡ PositionAlign.Auto → old ≡ PositionAlign.Auto)
    → position_align (s ++ written_position_align a) old ≡ Some a
unfolding written_position_align position_align same
position_align_lem s PositionAlign.Auto old h o = rw (append-nil s, has-none comma s h, o refl)
position_align_lem s PositionAlign.LineLeft old h o = rw (has-after comma s (ascii "line-left"), after_first_lem comma (ascii "line-left") s h)
position_align_lem s PositionAlign.Center old h o = rw (has-after comma s (ascii "center"), after_first_lem comma (ascii "center") s h)
position_align_lem s PositionAlign.LineRight old h o = rw (has-after comma s (ascii "line-right"), after_first_lem comma (ascii "line-right") s h)

-- a token with a name and a value
abbrev pub setting_at : ℕ → List ℕ → List ℕ → Part
setting_at p name value = record { place = p; bytes = name ++ colon ∷ value }

setting_read :
    (p : ℕ) (name value : List ℕ) (s : Settings)
    → absent colon name ≡ true
    → is_empty name ≡ false
    → is_empty value ≡ false
    → cue_change (setting_at p name value) s ≡ named name value s
unfolding cue_change
setting_read p name value s a n v =
    let t = setting_at p name value in
    rw (setting-name t name value a refl, setting-value t name value a refl, n, v)

-- each setting as it is written, read where other settings have been read
module _ (p : ℕ) (s : Settings) where
  vertical_read :
      (d : Direction) (x : List ℕ)
      → is_empty x ≡ false
      → direction x s.vertical ≡ d
      → cue_change (setting_at p (ascii "vertical") x) s ≡ Change.Vertical d
  unfolding absent is_empty named same
  vertical_read d x f e = setting_read p (ascii "vertical") x s refl refl f ∙ ap Change.Vertical e

  align_read :
      (a : Align) (x : List ℕ) → is_empty x ≡ false → alignment x s.align ≡ a → cue_change (setting_at p (ascii "align") x) s ≡ Change.Align a
  unfolding absent is_empty named same
  align_read a x f e = setting_read p (ascii "align") x s refl refl f ∙ ap Change.Align e

  vertical_written : (d : Direction) → All (λ t. cue_change (record { place = p; bytes = t }) s ≡ Change.Vertical d) (written_vertical d)
  unfolding written_vertical setting direction same is_empty
  vertical_written Direction.Horizontal = tt
  vertical_written Direction.Rl = (vertical_read Direction.Rl (ascii "rl") refl refl, tt)
  vertical_written Direction.Lr = (vertical_read Direction.Lr (ascii "lr") refl refl, tt)

  align_written : (a : Align) → All (λ t. cue_change (record { place = p; bytes = t }) s ≡ Change.Align a) (written_align a)
  unfolding written_align setting alignment same is_empty
  align_written Align.Start = (align_read Align.Start (ascii "start") refl refl, tt)
  align_written Align.Center = tt
  align_written Align.End = (align_read Align.End (ascii "end") refl refl, tt)
  align_written Align.Left = (align_read Align.Left (ascii "left") refl refl, tt)
  align_written Align.Right = (align_read Align.Right (ascii "right") refl refl, tt)

  size_read : (m : ℕ) → m ≤ 100_000_000 → cue_change (setting_at p (ascii "size") (written_percentage m)) s ≡ Change.Size m
  unfolding absent is_empty named same
  size_read m h =
      setting_read p (ascii "size") (written_percentage m) s refl refl (written_percentage-some m)
      ∙ ap (λ o. option_map_or Change.Size o Change.Nothing) (percentage_read m h)

  region_read : (name : List ℕ) → is_empty name ≡ false → cue_change (setting_at p (ascii "region") name) s ≡ Change.Region
  unfolding absent is_empty named same
  region_read name f = setting_read p (ascii "region") name s refl refl f

  position_read :
      (m : ℕ) (a : PositionAlign)
      → m ≤ 100_000_000
      → (a ≡ PositionAlign.Auto → s.position.align ≡ PositionAlign.Auto)
      → cue_change (setting_at p (ascii "position") (written_percentage m ++ written_position_align a)) s
      ≡ Change.Position (record { position = Position.At m; align = a })
  unfolding absent is_empty named same position_change position_aligned
  position_read m a h o =
      let w = written_percentage m in
      let x = w ++ written_position_align a in
      setting_read p (ascii "position") x s refl refl (some_append w (written_position_align a) (written_percentage-some m))
      ∙ rw (position_before w a (percentage_absent m), percentage_read m h, position_align_lem w a s.position.align (percentage_absent m) o)

-- a line's number: with snap, up to the limit and with no minus zero; without, a percentage
pub data LineNumbered : Bool → Bool → ℕ → Type 0 where
  counted : {negative : Bool} {m : ℕ} → m ≤ 999_999_000_000 → (negative ≡ true → 0 < m) → LineNumbered true negative m
  parted : {m : ℕ} → m ≤ 100_000_000 → LineNumbered false false m

number-some : (snap negative : Bool) (m : ℕ) → is_empty (written_line_number snap negative m) ≡ false
unfolding written_line_number is_empty
number-some true true m = refl
number-some true false m = written_decimal-some m
number-some false negative m = written_percentage-some m

line_number_lem :
    (x : List ℕ) (old : LineAlign) (snap negative : Bool) (m : ℕ) (a : LineAlign)
    → LineNumbered snap negative m
    → before_first comma x ≡ written_line_number snap negative m
    → line_align x old ≡ Some a
    → line_change x old ≡ Change.Line (record { line = Line.At negative m; snap = snap; align = a })
unfolding line_change line_aligned line_at_percentage line_counted written_line_number
line_number_lem x old true negative m a (counted h z) b e =
    let r = line_read negative m h z in
    rw (b, e, line_ends_lem true negative m, r.read, r.within, r.sign, r.value)
line_number_lem x old false false m a (parted h) b e = rw (b, e, line_ends_lem false false m, percentage_read m h)
line_number_lem x old false true m a parts b e = elim parts [ ]

line_setting_read :
    (p : ℕ) (s : Settings) (snap negative : Bool) (m : ℕ) (a : LineAlign)
    → LineNumbered snap negative m
    → (a ≡ LineAlign.Start → s.line.align ≡ LineAlign.Start)
    → cue_change (setting_at p (ascii "line") (written_line_number snap negative m ++ written_line_align a)) s
    ≡ Change.Line (record { line = Line.At negative m; snap = snap; align = a })
unfolding absent is_empty named same
line_setting_read p s snap negative m a n o =
    let w = written_line_number snap negative m in
    let x = w ++ written_line_align a in
    let h = line_absent snap negative m in
    setting_read p (ascii "line") x s refl refl (some_append w (written_line_align a) (number-some snap negative m))
    ∙ line_number_lem x s.line.align snap negative m a n (line_before w a h) (line_align_lem w a s.line.align h o)

-- each is a token
setting_token :
    (name value : List ℕ)
    → is_empty name ≡ false
    → all black name ≡ true
    → all black value ≡ true
    → is_token (name ++ colon ∷ value) ≡ true
unfolding is_token all white
setting_token name value f n v = rw (some_append name (colon ∷ value) f) (all_append black name (colon ∷ value) n v)

pub vertical_token : (d : Direction) → All (λ t. is_token t ≡ true) (written_vertical d)
unfolding written_vertical setting is_token is_empty all white
vertical_token Direction.Horizontal = tt
vertical_token Direction.Rl = (refl, tt)
vertical_token Direction.Lr = (refl, tt)

pub align_token : (a : Align) → All (λ t. is_token t ≡ true) (written_align a)
unfolding written_align setting is_token is_empty all white
align_token Align.Start = (refl, tt)
align_token Align.Center = tt
align_token Align.End = (refl, tt)
align_token Align.Left = (refl, tt)
align_token Align.Right = (refl, tt)

percentage_black : (m : ℕ) → all black (written_percentage m) ≡ true
percentage_black m = numeral_unwhite (written_percentage m) (written_percentage_numeral m)

pub size_token : (m : ℕ) → is_token (ascii "size" ++ colon ∷ written_percentage m) ≡ true
unfolding is_empty all white
size_token m = setting_token (ascii "size") (written_percentage m) refl refl (percentage_black m)

pub region_token : (name : List ℕ) → is_token name ≡ true → is_token (ascii "region" ++ colon ∷ name) ≡ true
unfolding is_token is_empty all white
region_token name h = setting_token (ascii "region") name refl refl (and_right (not (is_empty name)) (all black name) h)

position_black : (a : PositionAlign) → all black (written_position_align a) ≡ true
unfolding written_position_align all white
position_black PositionAlign.Auto = refl
position_black PositionAlign.LineLeft = refl
position_black PositionAlign.Center = refl
position_black PositionAlign.LineRight = refl

pub position_token : (m : ℕ) (a : PositionAlign) → is_token (ascii "position" ++ colon ∷ (written_percentage m ++ written_position_align a)) ≡ true
unfolding is_empty all white
position_token m a =
    setting_token (ascii "position") (written_percentage m ++ written_position_align a) refl refl
    (all_append black (written_percentage m) (written_position_align a) (percentage_black m)
    (position_black a))

line_black : (a : LineAlign) → all black (written_line_align a) ≡ true
unfolding written_line_align all white
line_black LineAlign.Start = refl
line_black LineAlign.Center = refl
line_black LineAlign.End = refl

number_black : (snap negative : Bool) (m : ℕ) → all black (written_line_number snap negative m) ≡ true
unfolding written_line_number all white
number_black true true m = numeral_unwhite (written_decimal m) (written_decimal_numeral m)
number_black true false m = numeral_unwhite (written_decimal m) (written_decimal_numeral m)
number_black false negative m = percentage_black m

pub line_token :
    (snap negative : Bool) (m : ℕ) (a : LineAlign)
    → is_token (ascii "line" ++ colon ∷ (written_line_number snap negative m ++ written_line_align a)) ≡ true
unfolding is_empty all white
line_token snap negative m a =
    setting_token (ascii "line") (written_line_number snap negative m ++ written_line_align a) refl refl
    (all_append black (written_line_number snap negative m) (written_line_align a) (number_black snap negative m) (line_black a))

-- settings with no region
abbrev unasked : Settings → CueSettings
unasked s = record { settings = s; region = empty_part }

-- texts that are tokens, and that turn settings with no region into others with none, wherever they stand
record Sets (ts : List (List ℕ)) (c d : Settings) : Type 0 where
  token : All (λ t. is_token t ≡ true) ts
  read : (p : ℕ) → folded cue_setting (unflagged (unasked c)) (parts_at p ts) ≡ unflagged (unasked d)

fold_append : {A : Type 0} (f : Part → A → Flagged A) (v : Flagged A) (a b : List Part) → folded f v (a ++ b) ≡ folded f (folded f v a) b
unfolding folded
fold_append f v [] b = refl
fold_append f v (t ∷ a) b = fold_append f _ a b

settings-lines :
    (c d : Settings) (p : ℕ) (xs ys : List (List ℕ))
    → Sets xs c d
    → folded cue_setting (unflagged (unasked c)) (parts_at p (xs ++ ys))
    ≡ folded cue_setting (unflagged (unasked d)) (parts_at (p + length (line_ended xs)) ys)
settings-lines c d p xs ys f =
    rw (parts_append p xs ys, fold_append cue_setting (unflagged (unasked c)) (parts_at p xs) (parts_at (p + length (line_ended xs)) ys), f.read p)

sets-both : {c d e : Settings} {xs ys : List (List ℕ)} → Sets xs c d → Sets ys d e → Sets (xs ++ ys) c e
sets-both {c} {d} {e} {xs} {ys} f g =
    record {
      token = Standing.all_append (λ t. is_token t ≡ true) xs ys f.token g.token;
      read = λ p. settings-lines c d p xs ys f ∙ g.read (p + length (line_ended xs));
    }

sets-none : (s : Settings) → Sets [] s s
unfolding folded parts_at
sets-none s = record { token = tt; read = λ p. refl }

-- one token that makes a change, which leaves no region where there is none
sets-one :
    {t : List ℕ} (h : Change) (s : Settings)
    → is_token t ≡ true
    → ((p : ℕ) → cue_change (record { place = p; bytes = t }) s ≡ h)
    → ((x : Part) → name_after empty_part h x empty_part ≡ empty_part)
    → is_over h ≡ false
    → Sets (t ∷ []) s (settings_after h s)
unfolding folded parts_at cue_setting changed
sets-one h s k f e o = record { token = (k, tt); read = λ p. rw (f p, e, o) }

-- what can be set: a line and a position that are auto with the opening alignment, or a number; a region with a token for a name
pub data LineSettable : LinePlace → Type 0 where
  auto_line : LineSettable (record { line = Line.Auto; snap = true; align = LineAlign.Start })
  line_at :
      {snap negative : Bool} {m : ℕ} {b : LineAlign}
      → LineNumbered snap negative m
      → LineSettable (record { line = Line.At negative m; snap = snap; align = b })

pub data PositionSettable : PositionPlace → Type 0 where
  auto_position : PositionSettable (record { position = Position.Auto; align = PositionAlign.Auto })
  position_at : {m : ℕ} {b : PositionAlign} → m ≤ 100_000_000 → PositionSettable (record { position = Position.At m; align = b })

abbrev pub region_name : List RegionContents → Option ℕ → List ℕ
region_name rs None = []
region_name rs (Some i) = get_or (map (λ r. r.id) rs) i []

pub data RegionSettable : List RegionContents → Option ℕ → Type 0 where
  no_region : {rs : List RegionContents} → RegionSettable rs None
  region_at : {rs : List RegionContents} {i : ℕ} → is_token (region_name rs (Some i)) ≡ true → RegionSettable rs (Some i)

pub record Settable (rs : List RegionContents) (c : CueContents) : Type 0 where
  pub line : LineSettable c.settings.line
  pub position : PositionSettable c.settings.position
  pub size : c.settings.size ≤ 100_000_000
  pub region : RegionSettable rs c.region

abbrev five : Direction → LinePlace → PositionPlace → ℕ → Align → Settings
five v l q n a = record { vertical = v; line = l; position = q; size = n; align = a }

sets_vertical :
    (d : Direction) (l : LinePlace) (q : PositionPlace) (n : ℕ) (a : Align)
    → Sets (written_vertical d) (five Direction.Horizontal l q n a) (five d l q n a)
unfolding written_vertical setting
sets_vertical Direction.Horizontal l q n a = sets-none (five Direction.Horizontal l q n a)
sets_vertical Direction.Rl l q n a =
    let s = five Direction.Horizontal l q n a in
    sets-one (Change.Vertical Direction.Rl) s (vertical_token Direction.Rl).0 (λ p. (vertical_written p s Direction.Rl).0) (λ x. refl) refl
sets_vertical Direction.Lr l q n a =
    let s = five Direction.Horizontal l q n a in
    sets-one (Change.Vertical Direction.Lr) s (vertical_token Direction.Lr).0 (λ p. (vertical_written p s Direction.Lr).0) (λ x. refl) refl

module _ (v : Direction) where
  sets_line :
      (l : LinePlace) (q : PositionPlace) (n : ℕ) (a : Align)
      → LineSettable l
      → Sets (written_line l) (five v opening_settings.line q n a) (five v l q n a)
  unfolding written_line setting
  sets_line l q n a auto_line = sets-none (five v l q n a)
  sets_line l q n a (line_at {snap} {negative} {m} {b} h) =
      let s = five v opening_settings.line q n a in
      sets-one (Change.Line (record { line = Line.At negative m; snap = snap; align = b })) s (line_token snap negative m b)
      (λ p. line_setting_read p s snap negative m b h (λ e. refl)) (λ x. refl) refl

  sets_position :
      (l : LinePlace) (q : PositionPlace) (n : ℕ) (a : Align)
      → PositionSettable q
      → Sets (written_position q) (five v l opening_settings.position n a) (five v l q n a)
  unfolding written_position setting
  sets_position l q n a auto_position = sets-none (five v l q n a)
  sets_position l q n a (position_at {m} {b} h) =
      let s = five v l opening_settings.position n a in
      sets-one (Change.Position (record { position = Position.At m; align = b })) s (position_token m b)
      (λ p. position_read p s m b h (λ e. refl)) (λ x. refl) refl

  sets-size :
      (l : LinePlace) (q : PositionPlace) (n : ℕ) (a : Align)
      → n ≤ 100_000_000
      → Sets (written_size n) (five v l q 100_000_000 a) (five v l q n a)
  unfolding written_size setting
  sets-size l q n a h =
      let s = five v l q 100_000_000 a in
      by-test (eqb n 100_000_000)
      (λ y. rw (y, eqb-true n 100_000_000 y) (sets-none s))
      (λ z. rw z (sets-one (Change.Size n) s (size_token n) (λ p. size_read p s n h) (λ x. rw z) refl))

  sets_align : (l : LinePlace) (q : PositionPlace) (n : ℕ) (a : Align) → Sets (written_align a) (five v l q n Align.Center) (five v l q n a)
  unfolding written_align setting
  sets_align l q n Align.Start = let s = five v l q n Align.Center in sets-one (Change.Align Align.Start) s (align_token Align.Start).0 (λ p. (align_written p s Align.Start).0) (λ x. refl) refl
  sets_align l q n Align.Center = sets-none (five v l q n Align.Center)
  sets_align l q n Align.End = let s = five v l q n Align.Center in sets-one (Change.Align Align.End) s (align_token Align.End).0 (λ p. (align_written p s Align.End).0) (λ x. refl) refl
  sets_align l q n Align.Left = let s = five v l q n Align.Center in sets-one (Change.Align Align.Left) s (align_token Align.Left).0 (λ p. (align_written p s Align.Left).0) (λ x. refl) refl
  sets_align l q n Align.Right = let s = five v l q n Align.Center in sets-one (Change.Align Align.Right) s (align_token Align.Right).0 (λ p. (align_written p s Align.Right).0) (λ x. refl) refl

-- the settings of contents, with the name of the region that they ask for
abbrev pub named_at : List RegionContents → CueContents → ℕ → Part
named_at rs c place = record { place = place; bytes = region_name rs c.region }

pub record SettingsRead (rs : List RegionContents) (c : CueContents) (v : Flagged CueSettings) : Type 0 where
  pub place : ℕ
  pub is : v ≡ unflagged (record { settings = c.settings; region = named_at rs c place })

-- a region comes last: nothing after it clears it
region_place : Option ℕ → ℕ → ℕ
region_place None p = 0
region_place (Some i) p = p + 7

sets-region :
    (s : Settings) (rs : List RegionContents) (o : Option ℕ) (p : ℕ)
    → RegionSettable rs o
    → folded cue_setting (unflagged (unasked s)) (parts_at p (written_region_name rs o))
    ≡ unflagged (record { settings = s; region = record { place = region_place o p; bytes = region_name rs o } })
unfolding written_region_name region_place setting folded parts_at cue_setting changed is_token absent
sets-region s rs None p no_region = refl
sets-region s rs (Some i) p (region_at t) =
    let name = region_name rs (Some i) in
    rw (region_read p s name (not_left (is_empty name) (all black name) t), setting-value (setting_at p (ascii "region") name) (ascii "region") name refl refl)

region-tokens : (rs : List RegionContents) (o : Option ℕ) → RegionSettable rs o → All (λ t. is_token t ≡ true) (written_region_name rs o)
unfolding written_region_name setting
region-tokens rs None no_region = tt
region-tokens rs (Some i) (region_at t) = (region_token (region_name rs (Some i)) t, tt)

module _ (rs : List RegionContents) (c : CueContents) (h : Settable rs c) where
  sets_five : Sets (written_five c.settings) opening_settings c.settings
  unfolding written_five
  sets_five =
      let v = c.settings.vertical in
      let l = c.settings.line in
      let q = c.settings.position in
      let n = c.settings.size in
      let q₀ = opening_settings.position in
      let n₀ = opening_settings.size in
      let a₀ = opening_settings.align in
      let two = sets-both (sets_vertical v opening_settings.line q₀ n₀ a₀) (sets_line v l q₀ n₀ a₀ h.line) in
      let three = sets-both two (sets_position v l q n₀ a₀ h.position) in
      sets-both (sets-both three (sets-size v l q n a₀ h.size)) (sets_align v l q n c.settings.align)

  pub settings-tokens : All (λ t. is_token t ≡ true) (written_settings rs c)
  unfolding written_settings
  settings-tokens =
      Standing.all_append (λ t. is_token t ≡ true) (written_five c.settings) (written_region_name rs c.region) sets_five.token
      (region-tokens rs c.region h.region)

  pub settings_read : (p : ℕ) → SettingsRead rs c (cue_settings (record { place = p; bytes = after_spaces (written_settings rs c) }))
  unfolding cue_settings written_settings
  settings_read p =
      let q = suc p + length (line_ended (written_five c.settings)) in
      record {
        place = region_place c.region q;
        is =
            ap (folded cue_setting (unflagged (unasked opening_settings))) (tokens-after_spaces p (written_settings rs c) settings-tokens)
            ∙ settings-lines opening_settings c.settings (suc p) (written_five c.settings) (written_region_name rs c.region) sets_five
            ∙ sets-region c.settings rs c.region q h.region;
      }

-- two times with an arrow between them
module _ (start end : ℕ) (rest : List ℕ) where
  abbrev from_arrow : List ℕ
  from_arrow = ascii " --> " ++ (written_time end ++ rest)

  times_read :
      (t : TimeRead start from_arrow) (u : TimeRead end rest)
      → timings (written_time start ++ from_arrow) ≡ got (record { start = t.time; end = u.time }) rest
  unfolding timings arrow_and_end arrow expect on_got past_run white
  times_read t u =
      let skip = numeral_unskipped (written_time start) from_arrow (written_time-some start) (written_time_numeral start) in
      let past = numeral_unskipped (written_time end) rest (written_time-some end) (written_time_numeral end) in
      rw (skip, t.read, past, u.read)

-- the timing line of contents
pub record TimingRead (rs : List RegionContents) (c : CueContents) (o : Option Timing) : Type 0 where
  pub place : ℕ
  pub is : o ≡ Some (record { start = c.start; end = c.end; settings = c.settings; region = named_at rs c place; over = false })

time_line : (ms : ℕ) → absent lf (written_time ms) ≡ true
unfolding numeral digit
time_line ms = numeral_absent lf (written_time ms) refl (written_time_numeral ms)

spaces_stop : (ts : List (List ℕ)) → run digit (after_spaces ts) ≡ []
unfolding after_spaces run digit
spaces_stop [] = refl
spaces_stop (t ∷ ts) = refl

spaces_line : (ts : List (List ℕ)) → All (λ t. is_token t ≡ true) ts → absent lf (after_spaces ts) ≡ true
unfolding after_spaces absent is_token
spaces_line [] h = refl
spaces_line (t ∷ ts) h =
    let line = black_line t (and_right (not (is_empty t)) (all black t) h.0) in
    absent_append lf t (after_spaces ts) line (spaces_line ts h.1)

arrow-after : (s t : List ℕ) → holds_arrow t ≡ true → holds_arrow (s ++ t) ≡ true
unfolding holds_arrow
arrow-after [] t e = e
arrow-after (b ∷ s) t e = rw (arrow-after s t e) (or_true (starts_with (ascii "-->") (b ∷ (s ++ t))))

module _ (rs : List RegionContents) (c : CueContents) where
  abbrev settings_text : List ℕ
  settings_text = after_spaces (written_settings rs c)

  timing_is : written_timing rs c ≡ written_time c.start ++ from_arrow c.start c.end settings_text
  unfolding written_timing
  timing_is =
      append_assoc (written_time c.start ++ ascii " --> ") (written_time c.end) settings_text
      ∙ append_assoc (written_time c.start) (ascii " --> ") (written_time c.end ++ settings_text)

  pub timing_arrow : holds_arrow (written_timing rs c) ≡ true
  unfolding holds_arrow starts_with
  timing_arrow = rw timing_is (arrow-after (written_time c.start) (from_arrow c.start c.end settings_text) refl)

  pub timing_line_lem : Settable rs c → absent lf (written_timing rs c) ≡ true
  unfolding absent
  timing_line_lem h =
      let rest = spaces_line (written_settings rs c) (settings-tokens rs c h) in
      let tail = absent_append lf (written_time c.end) settings_text (time_line c.end) rest in
      rw timing_is (absent_append lf (written_time c.start) (from_arrow c.start c.end settings_text) (time_line c.start) tail)

  pub timing_read :
      (p : ℕ)
      → c.start < 360_000_000_000
      → c.end < 360_000_000_000
      → Settable rs c
      → TimingRead rs c (timing_line (record { place = p; bytes = written_timing rs c }))
  unfolding timing_line timed_line timing_of value with_settings run digit
  timing_read p l m h =
      let arrow = from_arrow c.start c.end settings_text in
      let u = time_read c.end settings_text m (spaces_stop (written_settings rs c)) in
      let t = time_read c.start arrow l refl in
      let line = written_time c.start ++ arrow in
      let s = settings_read rs c h (p + (length line - length settings_text)) in
      record {
        place = s.place;
        is = rw (timing_is, times_read c.start c.end settings_text t u, s.is, t.value, u.value, t.within, u.within);
      }

-- a line and a position that pass test 5 can be set
line_fits_lem :
    (l : Line) (snap : Bool) (a : LineAlign)
    → Signed l
    → line_fits (record { line = l; snap = snap; align = a }) ≡ true
    → LineSettable (record { line = l; snap = snap; align = a })
unfolding line_fits at_most100
line_fits_lem Line.Auto true LineAlign.Start h f = auto_line
line_fits_lem Line.Auto false LineAlign.Start h f = absurd (false≢true f)
line_fits_lem Line.Auto snap LineAlign.Center h f = absurd (false≢true f)
line_fits_lem Line.Auto snap LineAlign.End h f = absurd (false≢true f)
line_fits_lem (Line.At false m) true a h f = line_at (counted (leb-true m 999_999_000_000 f) (λ e. absurd (false≢true e)))
line_fits_lem (Line.At true m) true a h f = line_at (counted (leb-true m 999_999_000_000 f) (λ e. h))
line_fits_lem (Line.At false m) false a h f = line_at (parted (leb-true m 100_000_000 (and_left (leb m 100_000_000) true f)))
line_fits_lem (Line.At true m) false a h f = absurd (false≢true (and_right (leb m 100_000_000) false f))

position_fits_lem :
    (q : Position) (a : PositionAlign)
    → position_fits (record { position = q; align = a }) ≡ true
    → PositionSettable (record { position = q; align = a })
unfolding position_fits at_most100
position_fits_lem Position.Auto PositionAlign.Auto f = auto_position
position_fits_lem Position.Auto PositionAlign.LineLeft f = absurd (false≢true f)
position_fits_lem Position.Auto PositionAlign.Center f = absurd (false≢true f)
position_fits_lem Position.Auto PositionAlign.LineRight f = absurd (false≢true f)
position_fits_lem (Position.At m) a f = position_at (leb-true m 100_000_000 f)

pub names_of_lem : (s : List ℕ) (rows : List (List ℕ)) → map (λ r. r.id) (map (region_of_row s) rows) ≡ names_of s rows
names_of_lem s [] = refl
names_of_lem s (r ∷ rows) = rw (names_of_lem s rows)

name_black : (s r : List ℕ) → region_fails s r ≡ None → all black (region_of_row s r).id ≡ true
unfolding region_fails region_tests region_test2
name_black s r e =
    let passed = none-fails 1 (region_test1 s r ∷ region_tests (region_of_row s r)) e in
    let id = (region_of_row s r).id in
    and_left (all black id) (not (holds_arrow id)) passed.1.0

names_black :
    (s : List ℕ) (rows : List (List ℕ)) (i : ℕ)
    → All (λ r. region_fails s r ≡ None) rows
    → all black (region_name (map (region_of_row s) rows) (Some i)) ≡ true
unfolding all
names_black s [] zero h = refl
names_black s [] (suc i) h = refl
names_black s (r ∷ rows) zero h = name_black s r h.0
names_black s (r ∷ rows) (suc i) h = names_black s rows i h.1

region_allowed :
    (rs : List RegionContents) (o : Option ℕ)
    → cue_test6 (map (λ r. r.id) rs) o ≡ true
    → ((i : ℕ) → all black (region_name rs (Some i)) ≡ true)
    → RegionSettable rs o
unfolding cue_test6 last_of_its_name is_token
region_allowed rs None e f = no_region
region_allowed rs (Some i) e f =
    let names = map (λ r. r.id) rs in
    let name = region_name rs (Some i) in
    let last = is_index (last_named 0 name names) i in
    let full = and_left (not (is_empty name)) last (and_right (ltb i (length names)) (not (is_empty name) && last) e) in
    region_at (and_both (not (is_empty name)) (all black name) full (f i))

-- a cue that can be written, with these regions; it is what the tests say of a cue's row, beside regions' rows
pub record CueWritable (rs : List RegionContents) (c : CueContents) : Type 0 where
  pub settable : Settable rs c
  pub start : c.start < 360_000_000_000
  pub end : c.end < 360_000_000_000
  pub line : absent lf c.id ≡ true
  pub plain : holds_arrow c.id ≡ false
  pub text : is_empty c.text || unbroken c.text ≡ true
  pub region : cue_test6 (map (λ r. r.id) rs) c.region ≡ true

-- the tests 2 to 5 say so, whichever allowed region the cue asks for
pub tests_writable :
    (rs : List RegionContents) (o : Option ℕ) (c : CueContents)
    → All (λ t. t ≡ true) (cue_tests c)
    → Signed c.settings.line.line
    → cue_test6 (map (λ r. r.id) rs) o ≡ true
    → ((i : ℕ) → all black (region_name rs (Some i)) ≡ true)
    → CueWritable rs (with_region o c)
unfolding cue_tests cue_test2 cue_test3 cue_test4 cue_test5 with_region at_most100
tests_writable rs o c tests signed allowed names =
    let id = c.id in
    let times = tests.1.1.0 in
    let fits = tests.1.1.1.0 in
    let before = ltb-true c.start c.end (and_left (ltb c.start c.end) (ltb c.end 360_000_000_000) times) in
    let within = ltb-true c.end 360_000_000_000 (and_right (ltb c.start c.end) (ltb c.end 360_000_000_000) times) in
    let line = line_fits c.settings.line in
    let position = position_fits c.settings.position in
    let size = leb c.settings.size 100_000_000 in
    let others = and_right line (position && size) fits in
    record {
      settable = record {
        line = line_fits_lem c.settings.line.line c.settings.line.snap c.settings.line.align signed (and_left line (position && size) fits);
        position = position_fits_lem c.settings.position.position c.settings.position.align (and_left position size others);
        size = leb-true c.settings.size 100_000_000 (and_right position size others);
        region = region_allowed rs o allowed names;
      };
      start = omega arith;
      end = within;
      line = absent_has lf id (and_left (not (has lf id)) (not (holds_arrow id)) tests.0);
      plain = not-true (holds_arrow id) (and_right (not (has lf id)) (not (holds_arrow id)) tests.0);
      text = tests.1.0;
      region = allowed;
    }

-- some of the tests of a list
pub all_front : {A : Type 0} (P : A → Type 0) (xs ys : List A) → All P (xs ++ ys) → All P xs
all_front P [] ys h = tt
all_front P (x ∷ xs) ys h = (h.0, all_front P xs ys h.1)

pub cue_writable :
    (s : List ℕ) (rows : List (List ℕ)) (w : List ℕ)
    → cue_fails s rows w ≡ None
    → All (λ r. region_fails s r ≡ None) rows
    → CueWritable (map (region_of_row s) rows) (cue_of_row s w)
unfolding cue_fails cue_tests cue_of_entry with_region
cue_writable s rows w e h =
    let c = cue_of_row s w in
    let last = cue_test6 (names_of s rows) c.region ∷ [] in
    let passed = none-fails 1 (cue_test1 s w ∷ cue_tests c ++ last) e in
    let rs = map (region_of_row s) rows in
    let allowed : cue_test6 (map (λ r. r.id) rs) c.region ≡ true = rw (names_of_lem s rows) passed.1.1.1.1.1.0 in
    tests_writable rs c.region c (all_front (λ t. t ≡ true) (cue_tests c) last passed.1) (row-signed (cue_entry w).region w) allowed
    (λ i. names_black s rows i h)
