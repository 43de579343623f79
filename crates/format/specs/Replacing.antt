-- Document 01, "Replacing one cue": raw lines, a cue's own bytes, the cue asked for, the new file, what replacing answers, and demand 3.
use Rattle.std.specs.Prelude.{ℕ, ◌+◌, ◌-◌, ◌≤◌, ◌≡◌, Bool, true, false, cond, not, ◌&&◌, ◌||◌, List, [], ◌∷◌, ◌++◌, eqb, ltb, length, get_or, set, take, drop}
use Rattle.std.specs.Prelude.{Option, None, Some}
use Rattle.std.specs.Prelude.{Result}
use Rattle.format.specs.Bytes.{lf, cr}
use Rattle.format.specs.Texts.{starts_with, is_empty, bytes_at}
use Rattle.format.specs.Plain.{plain_text}
use Rattle.format.specs.Lines.{split, join}
use Rattle.format.specs.RegionSettings.{last_named}
use Rattle.format.specs.Blocks.{has_signature}
use Rattle.format.specs.Lists.{items, lists, any_over}
use Rattle.format.specs.LineNumbers.{cue_blocks, first_number, line_spans, LinesMoved}
use Rattle.format.specs.Rows.{ids, new_cue_entry, new_cue_name}
use Rattle.format.specs.Contents.{CueContents, Contents, contents, cue_of_entry}
use Rattle.format.specs.Answers.{Answer, refused, if_accepted, and_then, file_answer, placed, answered, length_told}
use Rattle.format.specs.Converting.{convert_error, converting}
use Rattle.format.specs.Reading.{text_error, ReadsAgain}
use Rattle.format.specs.Writing.{not_writable, out_error}
use Rattle.format.specs.Writable.{first_failing, part_plain, cue_test1, cue_tests}
use Rattle.format.specs.Written.{cue_lines}
use Rattle.format.specs.declared.errors.ReplaceError.{ReplaceError}

-- a raw line, and what ends it: "Raw lines end at CR LF, at any other CR or LF, or with the file"
pub record RawLine : Type 0 where
  pub bytes : List ℕ
  pub ending : List ℕ

abbrev pub empty_line : List ℕ → RawLine
empty_line ending = record { bytes = []; ending = ending }

-- one byte more at the start of the first line, and one more at the start of what ends it
unfoldable pub on_raw_line : ℕ → List RawLine → List RawLine
on_raw_line b [] = record { bytes = b ∷ []; ending = [] } ∷ []
on_raw_line b (l ∷ ls) = record { bytes = b ∷ l.bytes; ending = l.ending } ∷ ls

unfoldable pub on_ending : ℕ → List RawLine → List RawLine
on_ending b [] = empty_line (b ∷ []) ∷ []
on_ending b (l ∷ ls) = empty_line (b ∷ l.ending) ∷ ls

-- a byte before the bytes s, which have these lines
unfoldable pub before_lines : ℕ → List ℕ → List RawLine → List RawLine
before_lines b s ls =
    cond (eqb b lf) (empty_line (lf ∷ []) ∷ ls)
    (cond (eqb b cr) (cond (starts_with (lf ∷ []) s) (on_ending cr ls) (empty_line (cr ∷ []) ∷ ls)) (on_raw_line b ls))

unfoldable pub raw_lines : List ℕ → List RawLine
raw_lines [] = empty_line [] ∷ []
raw_lines (b ∷ s) = before_lines b s (raw_lines s)

unfoldable pub raw_bytes : List RawLine → List ℕ
raw_bytes [] = []
raw_bytes (l ∷ ls) = l.bytes ++ l.ending ++ raw_bytes ls

-- where raw line n starts, and where it ends, "that line's terminator excluded"
unfoldable pub raw_start : List ℕ → ℕ → ℕ
raw_start raw n = length (raw_bytes (take n (raw_lines raw)))

unfoldable pub raw_end : List ℕ → ℕ → ℕ
raw_end raw n = raw_start raw n + length (get_or (raw_lines raw) n (empty_line [])).bytes

-- the numbers of a cue's first line (identifier or timing line) and of its last (the timing line where its text is empty)
unfoldable pub first_line : List ℕ → ℕ → ℕ
first_line s number = first_number (get_or (cue_blocks s) number [])

unfoldable pub last_line : List ℕ → ℕ → ℕ
last_line s number = first_line s number + (length (get_or (cue_blocks s) number []) - 1)

-- a cue's own bytes: from here up to there in the raw file; "line n of the raw file is line n of the plain text"
unfoldable pub own_start : List ℕ → ℕ → ℕ
own_start raw number = raw_start raw (first_line (plain_text raw) number)

unfoldable pub own_end : List ℕ → ℕ → ℕ
own_end raw number = raw_end raw (last_line (plain_text raw) number)

-- the region's name that is lent with the new cue, a row over a text
unfoldable pub name_lent : List ℕ → List ℕ → List ℕ
name_lent t w = bytes_at t (new_cue_name w).from (new_cue_name w).to

-- "its region the file's last with the name lent, or none where that name is empty"
unfoldable pub region_asked : List (List ℕ) → List ℕ → Option ℕ
region_asked names name = cond (is_empty name) None (last_named 0 name names)

unfoldable pub with_region : Option ℕ → CueContents → CueContents
with_region r c = record { id = c.id; start = c.start; end = c.end; text = c.text; settings = c.settings; region = r }

-- the cue asked for, in a file whose regions have these names
unfoldable pub cue_asked : List ℕ → List ℕ → List (List ℕ) → CueContents
cue_asked t w names = with_region (region_asked names (name_lent t w)) (cue_of_entry t (new_cue_entry w))

-- the tests of "writable" on it: "each part", the region's name too; "one not in the file fails test 6"
unfoldable pub new_test1 : List ℕ → List ℕ → Bool
new_test1 t w = cue_test1 t w && part_plain t (new_cue_name w).from (new_cue_name w).to

unfoldable pub is_there : Option ℕ → Bool
is_there None = false
is_there (Some i) = true

unfoldable pub new_test6 : List ℕ → List ℕ → List (List ℕ) → Bool
new_test6 t w names = is_empty (name_lent t w) || is_there (last_named 0 (name_lent t w) names)

unfoldable pub new_cue_fails : List ℕ → List ℕ → List (List ℕ) → Option ℕ
new_cue_fails t w names = first_failing 1 (new_test1 t w ∷ cue_tests (cue_of_entry t (new_cue_entry w)) ++ new_test6 t w names ∷ [])

-- the names of a file's regions
unfoldable pub region_names : List ℕ → List (List ℕ)
region_names s = ids (lists s).regions

-- "the written form of the new cue, without a last LF"
unfoldable pub new_form : List ℕ → List ℕ → List ℕ → List ℕ
new_form s t w = join (cue_lines (contents (lists s)).regions (cue_asked t w (region_names s)))

-- the new file: the bytes before the cue's own, the written form in their place, and those after them
unfoldable pub new_file : List ℕ → ℕ → List ℕ → List ℕ → List ℕ
new_file raw number t w =
    take (own_start raw number) raw ++ new_form (plain_text raw) t w ++ drop (own_end raw number) raw

-- refusal 9: "new identifier non-empty, line before the cue's first line not empty"
unfoldable pub line_up_to : List ℕ → ℕ → List ℕ
line_up_to s number = get_or (split s) (first_line s number - 1) []

unfoldable pub no_gap : List ℕ → ℕ → List ℕ → List ℕ → Bool
no_gap s number t w = not (is_empty (cue_of_entry t (new_cue_entry w)).id) && not (is_empty (line_up_to s number))

-- the number and the values of each case; a new cue that is not writable is of list 2, with the cue number as its index
unfoldable pub replace_error : ReplaceError → Answer
replace_error (ReplaceError.Convert e) = convert_error e
replace_error (ReplaceError.Text e) = text_error e
replace_error (ReplaceError.NoSuchCue count) = refused 7 (count ∷ [])
replace_error (ReplaceError.NotWritable f) = not_writable f
replace_error ReplaceError.NoGap = refused 9 []
replace_error (ReplaceError.Out e) = out_error e

unfoldable pub replacing_is : Result ℕ ReplaceError → Answer
replacing_is = answered length_told replace_error

unfoldable pub unless_test : Option ℕ → ℕ → Answer → Answer
unless_test None number answer = answer
unless_test (Some test) number answer = refused 8 (2 ∷ number ∷ test ∷ [])

-- what replacing answers, after converting: the checks 4, 5, 7, 8, 9, 1 (output), 10 in this order, else the new file's length
unfoldable pub replacing_text : List ℕ → ℕ → List ℕ → List ℕ → ℕ → Answer
replacing_text raw number t w out =
    cond (not (has_signature (plain_text raw))) (refused 4 [])
    (cond (any_over (items (plain_text raw))) (refused 5 [])
    (cond (not (ltb number (length (lists (plain_text raw)).cues))) (refused 7 (length (lists (plain_text raw)).cues ∷ []))
    (unless_test (new_cue_fails t w (region_names (plain_text raw))) number
    (cond (no_gap (plain_text raw) number t w) (refused 9 [])
    (file_answer (new_file raw number t w) out)))))

-- the checks 1 (input), 2 are converting's, with the scratch room; the scratch room after replacing is `converted_room`
unfoldable pub replacing : List ℕ → ℕ → List ℕ → List ℕ → ℕ → ℕ → Answer
replacing raw number t w scratch out = and_then (converting raw scratch) (replacing_text raw number t w out)

-- the output room after replacing
unfoldable pub replaced_room : List ℕ → ℕ → List ℕ → List ℕ → ℕ → List ℕ → List ℕ
replaced_room raw number t w scratch out =
    if_accepted (replacing raw number t w scratch (length out)) (placed (new_file raw number t w) out) out

-- lists with one cue replaced
unfoldable pub with_cue : ℕ → CueContents → Contents → Contents
with_cue number c l = record { cues = set l.cues number c; regions = l.regions; styles = l.styles }

-- Demand 3, for a raw file, a cue number, a new cue and the file that is made. It rules out a program that hands the old file back (its lists
-- are not the old ones with that cue replaced), and one that changes the right cue but writes the rest of the file anew (the bytes around are
-- the old ones).
pub record Replaced (raw : List ℕ) (number : ℕ) (t w new : List ℕ) : Type 0 where
  -- the own bytes are a part of the old file, and the new file has the written form in their place
  pub starts : own_start raw number ≤ own_end raw number
  pub ends : own_end raw number ≤ length raw
  pub bytes : new ≡ take (own_start raw number) raw ++ new_form (plain_text raw) t w ++ drop (own_end raw number) raw
  -- the new file reads as the old lists with that one cue replaced by the cue asked for
  pub reads :
      contents (lists (plain_text new))
      ≡ with_cue number (cue_asked t w (region_names (plain_text raw))) (contents (lists (plain_text raw)))
  -- that cue has the lines of the written form, and only the cues after it move
  pub lines : LinesMoved number (length (split (new_form (plain_text raw) t w))) (line_spans (plain_text raw)) (line_spans (plain_text new))
  -- and it can be read
  pub again : ReadsAgain new
