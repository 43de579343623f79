-- Document 01, "writable": the tests of a cue, a region and a style, in its order, on what rows say that anyone may have written.
use Rattle.std.specs.Prelude.{ℕ, suc, ◌+◌, ◌*◌, Bool, true, false, cond, not, ◌&&◌, ◌||◌, List, [], ◌∷◌, ◌++◌, map, eqb, leb, ltb, length, get_or}
use Rattle.std.specs.Prelude.{Option, None, Some}
use Rattle.format.specs.Bytes.{lf, white}
use Rattle.format.specs.Limits.{max_hours, max_line}
use Rattle.format.specs.Texts.{is_empty, has, all, bytes_at}
use Rattle.format.specs.Plain.{first_not_plain}
use Rattle.format.specs.Lines.{split}
use Rattle.format.specs.RegionSettings.{last_named}
use Rattle.format.specs.Blocks.{holds_arrow}
use Rattle.format.specs.Rows.{cue_codes_named, region_codes_named, cue_entry, region_entry, style_entry}
use Rattle.format.specs.Contents.{CueContents, RegionContents, cue_of_row, region_of_row, style_of_row}
use Rattle.format.specs.declared.settings.Span.{Span}
use Rattle.format.specs.declared.settings.Settings.{Settings}
use Rattle.format.specs.declared.settings.Line.{Line}
use Rattle.format.specs.declared.settings.LinePlace.{LinePlace}
use Rattle.format.specs.declared.settings.LineAlign.{LineAlign}
use Rattle.format.specs.declared.settings.Position.{Position}
use Rattle.format.specs.declared.settings.PositionPlace.{PositionPlace}
use Rattle.format.specs.declared.settings.PositionAlign.{PositionAlign}
use Rattle.format.specs.declared.regions.Point.{Point}

-- the first test that fails, counted from 1
unfoldable pub first_failing : ℕ → List Bool → Option ℕ
first_failing n [] = None
first_failing n (t ∷ ts) = cond t (first_failing (n + 1) ts) (Some n)

-- "each part is inside the text and is itself plain, so cuts no character"
unfoldable pub part_plain : List ℕ → ℕ → ℕ → Bool
part_plain s from to =
    leb from to && (leb to (length s) && not (ltb (first_not_plain (bytes_at s from to)) (length (bytes_at s from to))))

-- "has no empty line (none at its start or end), and no `-->`"
unfoldable pub none_empty : List (List ℕ) → Bool
none_empty [] = true
none_empty (l ∷ ls) = not (is_empty l) && none_empty ls

unfoldable pub unbroken : List ℕ → Bool
unbroken text = none_empty (split text) && not (holds_arrow text)

-- a cue's tests. (1): both parts, "and each coded choice is one of those named"
unfoldable pub cue_test1 : List ℕ → List ℕ → Bool
cue_test1 s w =
    part_plain s (cue_entry w).id.from (cue_entry w).id.to
    && (part_plain s (cue_entry w).text.from (cue_entry w).text.to && cue_codes_named w)

-- (2): "the identifier has no LF and no `-->`"
unfoldable pub cue_test2 : List ℕ → Bool
cue_test2 id = not (has lf id) && not (holds_arrow id)

-- (3): "the cue text is empty or has no empty line …, and no `-->`"
unfoldable pub cue_test3 : List ℕ → Bool
cue_test3 text = is_empty text || unbroken text

-- (4): "times are within the limit, end after start"
unfoldable pub cue_test4 : ℕ → ℕ → Bool
cue_test4 start end = ltb start end && ltb end (3_600_000 * suc max_hours)

-- (5): "a non-auto line or position where its alignment differs from its opening value, percentages in 0 to 100, snap on where line is auto,
-- line number within limit"; it looks at no number where the value is auto, and a line is a percentage exactly where snap is off
unfoldable pub at_most100 : ℕ → Bool
at_most100 n = leb n 100_000_000

abbrev pub is_start : LineAlign → Bool
is_start LineAlign.Start = true
is_start LineAlign.Center = false
is_start LineAlign.End = false

unfoldable pub line_fits : LinePlace → Bool
line_fits p = go p.line
  where
    go : Line → Bool
    go Line.Auto = is_start p.align && p.snap
    go (Line.At negative n) = cond p.snap (leb n (max_line * 1_000_000)) (at_most100 n && not negative)

abbrev pub is_auto : PositionAlign → Bool
is_auto PositionAlign.Auto = true
is_auto PositionAlign.LineLeft = false
is_auto PositionAlign.Center = false
is_auto PositionAlign.LineRight = false

unfoldable pub position_fits : PositionPlace → Bool
position_fits p = go p.position
  where
    go : Position → Bool
    go Position.Auto = is_auto p.align
    go (Position.At n) = at_most100 n

unfoldable pub cue_test5 : Settings → Bool
cue_test5 s = line_fits s.line && (position_fits s.position && at_most100 s.size)

-- (6): "its region, if any, is in the list, has a non-empty identifier and is the last with it"
unfoldable pub is_index : Option ℕ → ℕ → Bool
is_index None i = false
is_index (Some j) i = eqb j i

unfoldable pub last_of_its_name : List (List ℕ) → ℕ → Bool
last_of_its_name names i =
    ltb i (length names) && (not (is_empty (get_or names i [])) && is_index (last_named 0 (get_or names i []) names) i)

unfoldable pub cue_test6 : List (List ℕ) → Option ℕ → Bool
cue_test6 names None = true
cue_test6 names (Some i) = last_of_its_name names i

-- the tests 2 to 5, which look at what a cue says alone
unfoldable pub cue_tests : CueContents → List Bool
cue_tests c = cue_test2 c.id ∷ cue_test3 c.text ∷ cue_test4 c.start c.end ∷ cue_test5 c.settings ∷ []

-- the identifiers of a table of regions over a text
abbrev pub names_of : List ℕ → List (List ℕ) → List (List ℕ)
names_of s regions = map (λ r. (region_of_row s r).id) regions

unfoldable pub cue_fails : List ℕ → List (List ℕ) → List ℕ → Option ℕ
cue_fails s regions w =
    first_failing 1
    (cue_test1 s w ∷ cue_tests (cue_of_row s w) ++ cue_test6 (names_of s regions) (cue_of_row s w).region ∷ [])

-- a region's tests: "(1) as for a cue, (2) its identifier has no ASCII whitespace and no `-->`, (3) its percentages lie in 0 to 100, (4) its
-- lines count is within limit"
unfoldable pub region_test1 : List ℕ → List ℕ → Bool
region_test1 s w = part_plain s (region_entry w).id.from (region_entry w).id.to && region_codes_named w

unfoldable pub region_test2 : List ℕ → Bool
region_test2 id = all (λ b. not (white b)) id && not (holds_arrow id)

unfoldable pub region_test3 : ℕ → Point → Point → Bool
region_test3 width anchor viewport =
    at_most100 width && (at_most100 anchor.x && (at_most100 anchor.y && (at_most100 viewport.x && at_most100 viewport.y)))

unfoldable pub region_test4 : ℕ → Bool
region_test4 lines = leb lines max_line

unfoldable pub region_tests : RegionContents → List Bool
region_tests r =
    region_test2 r.id
    ∷ region_test3 r.settings.width r.settings.anchor r.settings.viewport
    ∷ region_test4 r.settings.lines
    ∷ []

unfoldable pub region_fails : List ℕ → List ℕ → Option ℕ
region_fails s w = first_failing 1 (region_test1 s w ∷ region_tests (region_of_row s w))

-- a style's tests: "(1) as for a cue, (2) it is non-empty, has no empty line and no `-->`"
unfoldable pub style_test1 : List ℕ → Span → Bool
style_test1 s t = part_plain s t.from t.to

unfoldable pub style_fails : List ℕ → List ℕ → Option ℕ
style_fails s w = first_failing 1 (style_test1 s (style_entry w) ∷ unbroken (style_of_row s w) ∷ [])
