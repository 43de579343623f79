-- Document 01, "the one written form": what is written of a time, a number, a setting, a cue, a region, a style, and of whole lists. It is
-- made of tokens and lines; these are joined at the end.
use Rattle.std.specs.Prelude.{ℕ, zero, suc, ◌+◌, ◌/◌, ◌%◌, Bool, cond, ◌&&◌, List, [], ◌∷◌, ◌++◌, map, eqb, leb, length, get_or}
use Rattle.std.specs.Prelude.{Option, None, Some}
use Rattle.format.specs.Bytes.{ascii, lf, space, percent, comma, hyphen, full_stop, colon}
use Rattle.format.specs.Texts.{is_empty}
use Rattle.format.specs.Lines.{split}
use Rattle.format.specs.Contents.{CueContents, RegionContents, Contents}
use Rattle.format.specs.declared.settings.Settings.{Settings}
use Rattle.format.specs.declared.settings.Direction.{Direction}
use Rattle.format.specs.declared.settings.Line.{Line}
use Rattle.format.specs.declared.settings.LinePlace.{LinePlace}
use Rattle.format.specs.declared.settings.LineAlign.{LineAlign}
use Rattle.format.specs.declared.settings.Position.{Position}
use Rattle.format.specs.declared.settings.PositionPlace.{PositionPlace}
use Rattle.format.specs.declared.settings.PositionAlign.{PositionAlign}
use Rattle.format.specs.declared.settings.Align.{Align}
use Rattle.format.specs.declared.regions.Point.{Point}
use Rattle.format.specs.declared.regions.Scroll.{Scroll}

-- the last k decimal digits of a number
unfoldable pub last_digits : ℕ → ℕ → List ℕ
last_digits zero n = []
last_digits (suc k) n = last_digits k (n / 10) ++ (0x30 + n % 10) ∷ []

-- digits without the zeros they begin with, but k of them at least
unfoldable pub at_least : ℕ → List ℕ → List ℕ
at_least k [] = []
at_least k (d ∷ ds) = cond (eqb d 0x30 && leb k (length ds)) (at_least k ds) (d ∷ ds)

-- a number in k digits at least; no word of a row has more than twenty
unfoldable pub decimal_in : ℕ → ℕ → List ℕ
decimal_in k n = at_least k (last_digits 20 n)

-- "hours in at least two digits"
unfoldable pub written_time : ℕ → List ℕ
written_time ms =
    decimal_in 2 (ms / 3_600_000)
    ++ colon ∷ last_digits 2 (ms / 60_000 % 60)
    ++ colon ∷ last_digits 2 (ms / 1_000 % 60)
    ++ full_stop ∷ last_digits 3 (ms % 1_000)

-- digits without the zeros they end with
unfoldable pub on_digit : ℕ → List ℕ → List ℕ
on_digit d ds = cond (eqb d 0x30 && is_empty ds) [] (d ∷ ds)

unfoldable pub without_zeros : List ℕ → List ℕ
without_zeros [] = []
without_zeros (d ∷ ds) = on_digit d (without_zeros ds)

unfoldable pub fraction : List ℕ → List ℕ
fraction [] = []
fraction (d ∷ ds) = full_stop ∷ d ∷ ds

-- "decimals without trailing zeros", of millionths
unfoldable pub written_decimal : ℕ → List ℕ
written_decimal m = decimal_in 1 (m / 1_000_000) ++ fraction (without_zeros (last_digits 6 (m % 1_000_000)))

unfoldable pub written_percentage : ℕ → List ℕ
written_percentage m = written_decimal m ++ percent ∷ []

-- a setting with its name; "those at their opening value left out"
unfoldable pub setting : List ℕ → List ℕ → List (List ℕ)
setting name value = (name ++ colon ∷ value) ∷ []

unfoldable pub written_vertical : Direction → List (List ℕ)
written_vertical Direction.Horizontal = []
written_vertical Direction.Rl = setting (ascii "vertical") (ascii "rl")
written_vertical Direction.Lr = setting (ascii "vertical") (ascii "lr")

-- "an alignment at its opening value is left out of line and position too"
unfoldable pub written_line_align : LineAlign → List ℕ
written_line_align LineAlign.Start = []
written_line_align LineAlign.Center = ascii ",center"
written_line_align LineAlign.End = ascii ",end"

unfoldable pub written_line_number : Bool → Bool → ℕ → List ℕ
written_line_number snap negative m = cond snap (cond negative (hyphen ∷ []) [] ++ written_decimal m) (written_percentage m)

unfoldable pub written_line : LinePlace → List (List ℕ)
written_line p = go p.line
  where
    go : Line → List (List ℕ)
    go Line.Auto = []
    go (Line.At negative m) = setting (ascii "line") (written_line_number p.snap negative m ++ written_line_align p.align)

unfoldable pub written_position_align : PositionAlign → List ℕ
written_position_align PositionAlign.Auto = []
written_position_align PositionAlign.LineLeft = ascii ",line-left"
written_position_align PositionAlign.Center = ascii ",center"
written_position_align PositionAlign.LineRight = ascii ",line-right"

unfoldable pub written_position : PositionPlace → List (List ℕ)
written_position p = go p.position
  where
    go : Position → List (List ℕ)
    go Position.Auto = []
    go (Position.At m) = setting (ascii "position") (written_percentage m ++ written_position_align p.align)

unfoldable pub written_size : ℕ → List (List ℕ)
written_size m = cond (eqb m 100_000_000) [] (setting (ascii "size") (written_percentage m))

unfoldable pub written_align : Align → List (List ℕ)
written_align Align.Start = setting (ascii "align") (ascii "start")
written_align Align.Center = []
written_align Align.End = setting (ascii "align") (ascii "end")
written_align Align.Left = setting (ascii "align") (ascii "left")
written_align Align.Right = setting (ascii "align") (ascii "right")

unfoldable pub written_five : Settings → List (List ℕ)
written_five s =
    written_vertical s.vertical ++ written_line s.line ++ written_position s.position ++ written_size s.size ++ written_align s.align

-- the region by its identifier, in a list of regions
unfoldable pub written_region_name : List RegionContents → Option ℕ → List (List ℕ)
written_region_name rs None = []
written_region_name rs (Some i) = setting (ascii "region") (get_or (map (λ r. r.id) rs) i [])

-- "cue settings in the order vertical, line, position, size, align, region"
unfoldable pub written_settings : List RegionContents → CueContents → List (List ℕ)
written_settings rs c = written_five c.settings ++ written_region_name rs c.region

-- "parted by one space"
unfoldable pub after_spaces : List (List ℕ) → List ℕ
after_spaces [] = []
after_spaces (t ∷ ts) = space ∷ (t ++ after_spaces ts)

unfoldable pub written_timing : List RegionContents → CueContents → List ℕ
written_timing rs c = written_time c.start ++ ascii " --> " ++ written_time c.end ++ after_spaces (written_settings rs c)

-- "an empty identifier or text gives no line"
unfoldable pub lines_of : List ℕ → List (List ℕ)
lines_of x = cond (is_empty x) [] (split x)

-- "a cue's block is its identifier, its timing line and its text's lines"
unfoldable pub cue_lines : List RegionContents → CueContents → List (List ℕ)
cue_lines rs c = lines_of c.id ++ written_timing rs c ∷ lines_of c.text

unfoldable pub written_point : Point → List ℕ
written_point p = written_percentage p.x ++ comma ∷ written_percentage p.y

unfoldable pub written_id : List ℕ → List (List ℕ)
written_id id = cond (is_empty id) [] (setting (ascii "id") id)

unfoldable pub written_scroll : Scroll → List (List ℕ)
written_scroll Scroll.None = []
written_scroll Scroll.Up = setting (ascii "scroll") (ascii "up")

-- "region lines: id (if not empty), width, lines, regionanchor, viewportanchor, scroll (if up)"
unfoldable pub region_lines : RegionContents → List (List ℕ)
region_lines r =
    ascii "REGION"
    ∷ written_id r.id
    ++ setting (ascii "width") (written_percentage r.settings.width)
    ++ setting (ascii "lines") (decimal_in 1 r.settings.lines)
    ++ setting (ascii "regionanchor") (written_point r.settings.anchor)
    ++ setting (ascii "viewportanchor") (written_point r.settings.viewport)
    ++ written_scroll r.settings.scroll

unfoldable pub style_lines : List ℕ → List (List ℕ)
style_lines text = ascii "STYLE" ∷ split text

-- "each block after an empty line"
unfoldable pub apart : List (List (List ℕ)) → List (List ℕ)
apart [] = []
apart (b ∷ bs) = [] ∷ (b ++ apart bs)

-- "styles, regions, cues"
unfoldable pub file_lines : Contents → List (List ℕ)
file_lines c =
    ascii "WEBVTT" ∷ apart (map style_lines c.styles ++ map region_lines c.regions ++ map (cue_lines c.regions) c.cues)

-- "every line ended by LF"
unfoldable pub line_ended : List (List ℕ) → List ℕ
line_ended [] = []
line_ended (l ∷ ls) = l ++ lf ∷ line_ended ls

-- the file that has these lists
unfoldable pub written : Contents → List ℕ
written c = line_ended (file_lines c)
