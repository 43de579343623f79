-- Regions as they are written: each setting is a token without `-->` that is read back, and the lines of a region are a block that means
-- it.
use Prim.Native.Nat.{ℕ, suc, ◌+◌, ◌≤◌, ◌<◌}
use mathlib.Core.Path.{◌≡◌, refl, sym, ap, ◌∙◌}
use mathlib.Core.Bool.{true, false, not, ◌&&◌}
use mathlib.Core.List.{List, [], ◌∷◌, ◌++◌, append_assoc, append-nil}
use Rattle.std.specs.Prelude.{None, Some}
use Rattle.std.specs.Option.{option_map_or}
use native.Mathlib.Omega.{arith}
use lib.Dec.{eqb}
use lib.ListN.{length, length-append}
use borrow.Author.Tests.{leb-true, le-ltb, lt-ltb, not-true}
use Rattle.format.specs.Bytes.{ascii, digit, white, hyphen, comma, colon}
use Rattle.format.specs.Limits.{max_line}
use Rattle.format.specs.Texts.{Part, empty_part, starts_with, same, is_empty, all, has}
use Rattle.format.specs.Lines.{join}
use Rattle.format.specs.Blocks.{lines_at, holds_arrow}
use Rattle.format.specs.Tokens.{Flagged, unflagged, folded, value_of}
use Rattle.format.specs.RegionSettings.{RegionValues, opening_region, region_after, id_after, over_region, lines_change}
use Rattle.laws.proofs.Changes.{opening_values}
use Rattle.format.specs.RegionSettings.{point_of, point, region_named, region_change, region_setting, region_settings}
use Rattle.format.specs.Lists.{Item, region, region_of, meaning}
use Rattle.format.specs.Contents.{RegionContents, region_contents, region_of_row}
use Rattle.format.specs.Written.{decimal_in, written_percentage, setting, written_point, written_id, written_scroll, region_lines}
use Rattle.format.specs.Writable.{at_most100, region_test1, region_test2, region_test3, region_test4, region_tests, region_fails}
use Rattle.format.specs.declared.regions.Point.{Point}
use Rattle.format.specs.declared.regions.Scroll.{Scroll}
use Rattle.format.specs.declared.regions.RegionChange.{RegionChange}
use Rattle.laws.proofs.Tests.{by-test, and_left, and_right, absent, absent_append}
use Rattle.laws.proofs.Tokens.{inside as black, first_at}
use Rattle.laws.proofs.Standing.{All}
use Rattle.roundtrip.proofs.Numbers.{all_append, some_append, decimal-some, percentage_read, count_read, numeral, decimal_in_numeral}
use Rattle.roundtrip.proofs.Numbers.{written_percentage_numeral, written_percentage-some, numeral_absent, numeral_unwhite}
use Rattle.roundtrip.proofs.Shape.{is_token, not_left, empty_is, before_first_lem, after_first_lem, setting-name, setting-value, parts_at, tokens-join}
use Rattle.roundtrip.proofs.Shape.{no_arrow, quiet_tokens, Block, region-block, region_means, none-fails}

-- the name of a setting: some bytes, no whitespace, no colon and no hyphen
pub record Name (name : List ℕ) : Type 0 where
  pub full : is_empty name ≡ false
  pub dark : all black name ≡ true
  pub whole : absent colon name ≡ true
  pub plain : absent hyphen name ≡ true

id-name : Name (ascii "id")
unfolding is_empty all white absent
id-name = record { full = refl; dark = refl; whole = refl; plain = refl }

width_name : Name (ascii "width")
unfolding is_empty all white absent
width_name = record { full = refl; dark = refl; whole = refl; plain = refl }

lines-name : Name (ascii "lines")
unfolding is_empty all white absent
lines-name = record { full = refl; dark = refl; whole = refl; plain = refl }

anchor_name : Name (ascii "regionanchor")
unfolding is_empty all white absent
anchor_name = record { full = refl; dark = refl; whole = refl; plain = refl }

viewport_name : Name (ascii "viewportanchor")
unfolding is_empty all white absent
viewport_name = record { full = refl; dark = refl; whole = refl; plain = refl }

scroll_name : Name (ascii "scroll")
unfolding is_empty all white absent
scroll_name = record { full = refl; dark = refl; whole = refl; plain = refl }

-- no arrow begins in bytes without a hyphen
pub arrow-after : (x y : List ℕ) → absent hyphen x ≡ true → holds_arrow (x ++ y) ≡ holds_arrow y
unfolding holds_arrow starts_with absent
arrow-after [] y a = refl
arrow-after (b ∷ x) y a =
    rw (not_left (eqb b hyphen) (absent hyphen x) a) (arrow-after x y (and_right (not (eqb b hyphen)) (absent hyphen x) a))

pub no_arrow_lem : (x : List ℕ) → absent hyphen x ≡ true → holds_arrow x ≡ false
unfolding holds_arrow
no_arrow_lem x a = ap holds_arrow (sym (append-nil x)) ∙ arrow-after x [] a

-- a line that is one token and holds no `-->`
pub record Word (l : List ℕ) : Type 0 where
  pub token : is_token l ≡ true
  pub quiet : holds_arrow l ≡ false

pub setting-word : (name value : List ℕ) → Name name → all black value ≡ true → holds_arrow value ≡ false → Word (name ++ colon ∷ value)
unfolding is_token all white holds_arrow starts_with
setting-word name value n d a =
    record {
      token = rw (some_append name (colon ∷ value) n.full) (all_append black name (colon ∷ value) n.dark d);
      quiet = arrow-after name (colon ∷ value) n.plain ∙ a;
    }

-- values without whitespace and hyphens
pub record Value (value : List ℕ) : Type 0 where
  pub full : is_empty value ≡ false
  pub dark : all black value ≡ true
  pub plain : absent hyphen value ≡ true

value-word : (name value : List ℕ) → Name name → Value value → Word (name ++ colon ∷ value)
value-word name value n v = setting-word name value n v.dark (no_arrow_lem value v.plain)

numeral_value : (value : List ℕ) → is_empty value ≡ false → all numeral value ≡ true → Value value
unfolding numeral digit
numeral_value value f h = record { full = f; dark = numeral_unwhite value h; plain = numeral_absent hyphen value refl h }

percentage-value : (m : ℕ) → Value (written_percentage m)
percentage-value m = numeral_value (written_percentage m) (written_percentage-some m) (written_percentage_numeral m)

count-value : (n : ℕ) → Value (decimal_in 1 n)
count-value n = numeral_value (decimal_in 1 n) (decimal-some 1 n (omega arith) (omega arith)) (decimal_in_numeral 1 n)

point-value : (p : Point) → Value (written_point p)
unfolding written_point all white absent
point-value p =
    let x = written_percentage p.x in
    let y = comma ∷ written_percentage p.y in
    record {
      full = some_append x y (written_percentage-some p.x);
      dark = all_append black x y (percentage-value p.x).dark (percentage-value p.y).dark;
      plain = absent_append hyphen x y (percentage-value p.x).plain (percentage-value p.y).plain;
    }

up_value : Value (ascii "up")
unfolding is_empty all white absent
up_value = record { full = refl; dark = refl; plain = refl }

-- the lines of a region's settings, one by one
pub id-word : (id : List ℕ) → all black id ≡ true → holds_arrow id ≡ false → Word (ascii "id" ++ colon ∷ id)
id-word id d a = setting-word (ascii "id") id id-name d a

pub width_word : (m : ℕ) → Word (ascii "width" ++ colon ∷ written_percentage m)
width_word m = value-word (ascii "width") (written_percentage m) width_name (percentage-value m)

pub lines-word : (n : ℕ) → Word (ascii "lines" ++ colon ∷ decimal_in 1 n)
lines-word n = value-word (ascii "lines") (decimal_in 1 n) lines-name (count-value n)

pub anchor_word : (p : Point) → Word (ascii "regionanchor" ++ colon ∷ written_point p)
anchor_word p = value-word (ascii "regionanchor") (written_point p) anchor_name (point-value p)

pub viewport_word : (p : Point) → Word (ascii "viewportanchor" ++ colon ∷ written_point p)
viewport_word p = value-word (ascii "viewportanchor") (written_point p) viewport_name (point-value p)

pub scroll_word_lem : Word (ascii "scroll" ++ colon ∷ ascii "up")
scroll_word_lem = value-word (ascii "scroll") (ascii "up") scroll_name up_value

-- two numbers up to 100
pub record Percents (p : Point) : Type 0 where
  pub x : p.x ≤ 100_000_000
  pub y : p.y ≤ 100_000_000

pub point_read : (p : Point) → Percents p → point (written_point p) ≡ Some p
unfolding point point_of written_point numeral digit
point_read p h =
    let x = written_percentage p.x in
    let y = written_percentage p.y in
    let a = numeral_absent comma x refl (written_percentage_numeral p.x) in
    let front = before_first_lem comma y x a in
    let both = x ++ comma ∷ y in
    let more : length x < length both = omega (arith, length-append x (comma ∷ y)) in
    let found : has comma both ≡ true = first_at comma both ∙ rw front (lt-ltb (length x) (length both) more) in
    rw (found, front, after_first_lem comma y x a, percentage_read p.x h.x, percentage_read p.y h.y)

-- one token: what it changes, by its name and its value
module _ (p : ℕ) where
  changes :
      (name value : List ℕ)
      → Name name
      → is_empty value ≡ false
      → region_change (record { place = p; bytes = name ++ colon ∷ value }) ≡ region_named name value
  unfolding region_change
  changes name value n f =
      let t : Part = record { place = p; bytes = name ++ colon ∷ value } in
      rw (setting-name t name value n.whole refl, setting-value t name value n.whole refl, n.full, f)

  id_read : (id : List ℕ) → is_empty id ≡ false → region_change (record { place = p; bytes = ascii "id" ++ colon ∷ id }) ≡ RegionChange.Id
  unfolding region_named same
  id_read id f = changes (ascii "id") id id-name f

  width_read :
      (m : ℕ)
      → m ≤ 100_000_000
      → region_change (record { place = p; bytes = ascii "width" ++ colon ∷ written_percentage m }) ≡ RegionChange.Width m
  unfolding region_named same
  width_read m h = changes (ascii "width") (written_percentage m) width_name (written_percentage-some m) ∙ rw (percentage_read m h)

  lines_read :
      (n : ℕ)
      → n ≤ 999_999
      → region_change (record { place = p; bytes = ascii "lines" ++ colon ∷ decimal_in 1 n }) ≡ RegionChange.Lines n
  unfolding region_named same lines_change
  lines_read n h =
      changes (ascii "lines") (decimal_in 1 n) lines-name (count-value n).full ∙ rw (count_read n h, le-ltb max_line n h)

  anchor_read :
      (at : Point)
      → Percents at
      → region_change (record { place = p; bytes = ascii "regionanchor" ++ colon ∷ written_point at }) ≡ RegionChange.Anchor at
  unfolding region_named same
  anchor_read at h = changes (ascii "regionanchor") (written_point at) anchor_name (point-value at).full ∙ rw (point_read at h)

  viewport_read :
      (at : Point)
      → Percents at
      → region_change (record { place = p; bytes = ascii "viewportanchor" ++ colon ∷ written_point at }) ≡ RegionChange.Viewport at
  unfolding region_named same
  viewport_read at h = changes (ascii "viewportanchor") (written_point at) viewport_name (point-value at).full ∙ rw (point_read at h)

  scroll_read : region_change (record { place = p; bytes = ascii "scroll" ++ colon ∷ ascii "up" }) ≡ RegionChange.Scroll
  unfolding region_named same
  scroll_read = changes (ascii "scroll") (ascii "up") scroll_name up_value.full

-- contents of a region that can be written
pub record Regional (c : RegionContents) : Type 0 where
  pub dark : all black c.id ≡ true
  pub quiet : holds_arrow c.id ≡ false
  pub width : c.settings.width ≤ 100_000_000
  pub lines : c.settings.lines ≤ 999_999
  pub anchor : Percents c.settings.anchor
  pub viewport : Percents c.settings.viewport

-- the lines after `REGION`: the identifier's, if any, and the others
unfoldable pub later_lines : RegionContents → List (List ℕ)
later_lines c =
    (ascii "width" ++ colon ∷ written_percentage c.settings.width)
    ∷ (ascii "lines" ++ colon ∷ decimal_in 1 c.settings.lines)
    ∷ (ascii "regionanchor" ++ colon ∷ written_point c.settings.anchor)
    ∷ (ascii "viewportanchor" ++ colon ∷ written_point c.settings.viewport)
    ∷ written_scroll c.settings.scroll

abbrev pub setting_lines : RegionContents → List (List ℕ)
setting_lines c = written_id c.id ++ later_lines c

pub region_lines_lem : (c : RegionContents) → region_lines c ≡ ascii "REGION" ∷ setting_lines c
unfolding region_lines setting later_lines
region_lines_lem c = simp append_assoc

-- they are words
words_later : (c : RegionContents) → All Word (later_lines c)
unfolding later_lines written_scroll setting
words_later c =
    let r = c.settings in
    (width_word r.width, (lines-word r.lines, (anchor_word r.anchor, (viewport_word r.viewport, words_scroll r.scroll))))
  where
    words_scroll : (s : Scroll) → All Word (written_scroll s)
    words_scroll Scroll.None = tt
    words_scroll Scroll.Up = (scroll_word_lem, tt)

-- the lines of an identifier, if it has any
id-none : (id : List ℕ) → is_empty id ≡ true → written_id id ≡ []
unfolding written_id
id-none id y = rw y

id-one : (id : List ℕ) → is_empty id ≡ false → written_id id ≡ (ascii "id" ++ colon ∷ id) ∷ []
unfolding written_id setting
id-one id n = rw n

pub words_region : (c : RegionContents) → Regional c → All Word (setting_lines c)
words_region c h =
    by-test (is_empty c.id)
    (λ y. rw (id-none c.id y) (words_later c))
    (λ n. rw (id-one c.id n) (id-word c.id h.dark h.quiet, words_later c))

words_tokens : (ls : List (List ℕ)) → All Word ls → All (λ l. is_token l ≡ true) ls
words_tokens [] w = tt
words_tokens (l ∷ ls) w = (w.0.token, words_tokens ls w.1)

words_quiet : (ls : List (List ℕ)) → All Word ls → no_arrow ls ≡ true
unfolding no_arrow
words_quiet [] w = refl
words_quiet (l ∷ ls) w = rw w.0.quiet (words_quiet ls w.1)

pub region_lines-block : (c : RegionContents) → Regional c → Block (region_lines c)
region_lines-block c h =
    let w = words_region c h in
    let ls = setting_lines c in
    rw (region_lines_lem c) (region-block ls (quiet_tokens ls (words_tokens ls w) (words_quiet ls w)))

-- one line after the other, each by what it changes
abbrev changed : Part → RegionValues → RegionChange → Flagged RegionValues
changed t r c =
    record { value = record { id = id_after c (value_of t) r.id; settings = region_after c r.settings }; over = over_region c }

line_taken :
    (p : ℕ) (l : List ℕ) (ls : List (List ℕ)) (r : RegionValues) (c : RegionChange)
    → let t : Part = record { place = p; bytes = l } in
    region_change t ≡ c
    → folded region_setting (unflagged r) (parts_at p (l ∷ ls)) ≡ folded region_setting (changed t r c) (parts_at (p + suc (length l)) ls)
unfolding parts_at folded region_setting
line_taken p l ls r c e =
    ap (λ c. folded region_setting (changed (record { place = p; bytes = l }) r c) (parts_at (p + suc (length l)) ls)) e

scroll_last :
    (p : ℕ) (s : Scroll) (r : RegionValues)
    → r.settings.scroll ≡ Scroll.None
    → let q = r.settings in
    folded region_setting (unflagged r) (parts_at p (written_scroll s))
    ≡ unflagged
    (record { id = r.id; settings = record { width = q.width; lines = q.lines; anchor = q.anchor; viewport = q.viewport; scroll = s } })
unfolding written_scroll setting parts_at folded
scroll_last p Scroll.None r e = rw (sym e)
scroll_last p Scroll.Up r e = line_taken p (ascii "scroll" ++ colon ∷ ascii "up") [] r RegionChange.Scroll (scroll_read p)

later_read :
    (p : ℕ) (id : Part) (c : RegionContents)
    → Regional c
    → folded region_setting (unflagged (record { id = id; settings = opening_region })) (parts_at p (later_lines c))
    ≡ unflagged (record { id = id; settings = c.settings })
unfolding later_lines
later_read p id c h =
    line_taken _ _ _ _ _ (width_read p c.settings.width h.width)
    ∙ line_taken _ _ _ _ _ (lines_read _ c.settings.lines h.lines)
    ∙ line_taken _ _ _ _ _ (anchor_read _ c.settings.anchor h.anchor)
    ∙ line_taken _ _ _ _ _ (viewport_read _ c.settings.viewport h.viewport)
    ∙ scroll_last _ c.settings.scroll _ refl

-- what reading these lines gives
pub record RegionRead (c : RegionContents) (t : Flagged RegionValues) : Type 0 where
  pub over : t.over ≡ false
  pub values : region_contents t.value ≡ c

region_is_lem :
    (c : RegionContents) (id : Part) → id.bytes ≡ c.id → RegionRead c (unflagged (record { id = id; settings = c.settings }))
unfolding region_contents
region_is_lem c id e = record { over = refl; values = rw e }

from_opening :
    (p : ℕ) (c : RegionContents)
    → Regional c
    → RegionRead c (folded region_setting (unflagged opening_values) (parts_at p (setting_lines c)))
from_opening p c h =
    by-test (is_empty c.id)
    (λ y. rw (id-none c.id y, later_read p empty_part c h) (region_is_lem c empty_part (empty_is c.id y)))
    (λ n. let t : Part = record { place = p; bytes = ascii "id" ++ colon ∷ c.id } in
    rw (id-one c.id n, line_taken p _ (later_lines c) opening_values _ (id_read p c.id n), later_read _ (value_of t) c h)
    (region_is_lem c (value_of t) (ap (λ x. x.bytes) (setting-value t (ascii "id") c.id id-name.whole refl))))

pub settings_read :
    (p : ℕ) (c : RegionContents) → Regional c → RegionRead c (region_settings (record { place = p; bytes = join (setting_lines c) }))
unfolding region_settings
settings_read p c h =
    rw (tokens-join p (setting_lines c) (words_tokens (setting_lines c) (words_region c h))) (from_opening p c h)

-- what the block means
pub record RegionItem (c : RegionContents) (i : Item) : Type 0 where
  pub values : RegionValues
  pub is : i ≡ region values false
  pub same : region_contents values ≡ c

means_region :
    (k p : ℕ) (x : List (List ℕ)) (l : List ℕ) (ls : List (List ℕ))
    → no_arrow (x ++ l ∷ ls) ≡ true
    → meaning false (lines_at k p (ascii "REGION" ∷ (x ++ l ∷ ls)))
    ≡ region_of (region_settings (record { place = p + 7; bytes = join (x ++ l ∷ ls) }))
means_region k p [] l ls n = region_means k p l ls n
means_region k p (m ∷ x) l ls n = region_means k p m (x ++ l ∷ ls) n

pub region_lines_mean : (k p : ℕ) (c : RegionContents) → Regional c → RegionItem c (meaning false (lines_at k p (region_lines c)))
unfolding later_lines region_of
region_lines_mean k p c h =
    let r = settings_read (p + 7) c h in
    let t = region_settings (record { place = p + 7; bytes = join (setting_lines c) }) in
    record {
      values = t.value;
      is = rw (region_lines_lem c) (means_region k p (written_id c.id) _ _ (words_quiet (setting_lines c) (words_region c h)))
          ∙ ap (region t.value) r.over;
      same = r.values;
    }

-- a row that passes all tests
up_to_100 : (n : ℕ) → at_most100 n ≡ true → n ≤ 100_000_000
unfolding at_most100
up_to_100 n e = leb-true n 100_000_000 e

pub region-passes : (s w : List ℕ) → region_fails s w ≡ None → Regional (region_of_row s w)
unfolding region_fails region_tests region_test2 region_test3 region_test4
region-passes s w e =
    let r = region_of_row s w in
    let ts = none-fails 1 (region_test1 s w ∷ region_tests r) e in
    let id = r.id in
    let q = r.settings in
    let two : all black id && not (holds_arrow id) ≡ true = ts.1.0 in
    let width = at_most100 q.width in
    let ax = at_most100 q.anchor.x in
    let ay = at_most100 q.anchor.y in
    let vx = at_most100 q.viewport.x in
    let vy = at_most100 q.viewport.y in
    let three : width && (ax && (ay && (vx && vy))) ≡ true = ts.1.1.0 in
    let from-ax = and_right width (ax && (ay && (vx && vy))) three in
    let from-ay = and_right ax (ay && (vx && vy)) from-ax in
    let from-vx = and_right ay (vx && vy) from-ay in
    record {
      dark = and_left (all black id) (not (holds_arrow id)) two;
      quiet = not-true (holds_arrow id) (and_right (all black id) (not (holds_arrow id)) two);
      width = up_to_100 q.width (and_left width (ax && (ay && (vx && vy))) three);
      lines = leb-true q.lines max_line ts.1.1.1.0;
      anchor = record { x = up_to_100 q.anchor.x (and_left ax (ay && (vx && vy)) from-ax); y = up_to_100 q.anchor.y (and_left ay (vx && vy) from-ay) };
      viewport = record { x = up_to_100 q.viewport.x (and_left vx vy from-vx); y = up_to_100 q.viewport.y (and_right vx vy from-vx) };
    }
