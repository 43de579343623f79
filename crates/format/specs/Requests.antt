-- The request line of `mend`, and what mending answers. What is quoted is README's, of that line.
use Rattle.std.specs.Prelude.{ℕ, ◌+◌, Bool, cond, not, ◌&&◌, ◌||◌, List, [], ◌∷◌, ◌++◌, eqb, ltb, length, get_or}
use Rattle.std.specs.Prelude.{Option, None, Some, option_and_then, option_map, Result, Ok, Err}
use Rattle.std.specs.Option.{option_map_or}
use Rattle.format.specs.Limits.{max_request, max_mended}
use Rattle.format.specs.Bytes.{ascii, lf}
use Rattle.format.specs.Texts.{same, has, before_first, after_first}
use Rattle.format.specs.Fields.{fields, field_number, unescaped}
use Rattle.format.specs.Tokens.{Flagged}
use Rattle.format.specs.CueSettings.{CueSettings, cue_settings}
use Rattle.format.specs.Rows.{new_cue_words}
use Rattle.format.specs.Answers.{Answer, accepted, refused, if_accepted, placed}
use Rattle.format.specs.Converting.{converted_room}
use Rattle.format.specs.Replacing.{new_file, replace_error, replacing}
use Rattle.format.specs.declared.errors.MendError.{MendError}
use Rattle.format.specs.declared.settings.Settings.{Settings}
use Rattle.format.specs.declared.settings.Span.{Span}
use Rattle.format.specs.declared.rows.CueEntry.{CueEntry}

-- a request: the number of the cue to be replaced, and the new cue, its region by name
pub record Request : Type 0 where
  pub number : ℕ
  pub start : ℕ
  pub end : ℕ
  pub id : List ℕ
  pub text : List ℕ
  pub settings : Settings
  pub region : List ℕ

-- "Settings are written as in a timing line"
unfoldable pub settings_field : List ℕ → Flagged CueSettings
settings_field f = cue_settings (record { place = 0; bytes = f })

-- what a value gives, where there is one
abbrev pub with_value : {A B : Type 0} → Option A → (A → Option B) → Option B
with_value o f = option_and_then f o

-- the request of these numbers, texts and settings; none "Where the line is not so, or its settings hold a line number above 999,999"
unfoldable pub request_with : Option ℕ → Option ℕ → Option ℕ → Option (List ℕ) → Flagged CueSettings → Option (List ℕ) → Option Request
request_with number start end id taken text =
    with_value number (λ n.
    with_value start (λ from.
    with_value end (λ to.
    with_value id (λ i.
    with_value text (λ t.
    cond taken.over None
    (Some
    (record {
      number = n;
      start = from;
      end = to;
      id = i;
      text = t;
      settings = taken.value.settings;
      region = taken.value.region.bytes;
    })))))))

unfoldable pub request_of : List (List ℕ) → Option Request
request_of fs =
    request_with (field_number (get_or fs 1 [])) (field_number (get_or fs 2 [])) (field_number (get_or fs 3 [])) (unescaped (get_or fs 4 []))
    (settings_field (get_or fs 5 []))
    (unescaped (get_or fs 6 []))

-- "seven fields, parted by tabs": "`mend`, the cue's number, start, end, identifier, settings, text"
unfoldable pub request : List ℕ → Option Request
request line =
    cond (eqb (length (fields line)) 7 && same (get_or (fields line) 0 []) (ascii "mend")) (request_of (fields line)) None

-- the request at an input's start: it "ends with LF" and "may have 4,096 bytes without its LF"
unfoldable pub asked : List ℕ → Option Request
asked input =
    cond (has lf input && not (ltb max_request (length (before_first lf input)))) (request (before_first lf input)) None

-- the new cue as it is lent for replacing: identifier, text and region's name one after the other, and its row over them
unfoldable pub lent_text : Request → List ℕ
lent_text q = q.id ++ q.text ++ q.region

unfoldable pub id_span : Request → Span
id_span q = record { from = 0; to = length q.id }

unfoldable pub text_span : Request → Span
text_span q = record { from = length q.id; to = length q.id + length q.text }

unfoldable pub name_span : Request → Span
name_span q = record { from = length q.id + length q.text; to = length q.id + length q.text + length q.region }

unfoldable pub lent_entry : Request → CueEntry
lent_entry q =
    record { id = id_span q; start = q.start; end = q.end; text = text_span q; settings = q.settings; region = None }

unfoldable pub lent_row : Request → List ℕ
lent_row q = new_cue_words (lent_entry q) (name_span q)

-- the number and the values of each case; a bad request has none
unfoldable pub mend_error : MendError → Option Answer
mend_error MendError.BadRequest = None
mend_error (MendError.Replace e) = Some (replace_error e)

unfoldable pub mending_is : Result ℕ MendError → Option Answer
mending_is (Ok n) = Some (accepted (n ∷ []))
mending_is (Err e) = mend_error e

-- is there more than the raw file may have; `longer` says that the input goes on
unfoldable pub too_long : List ℕ → Bool → Bool
too_long raw longer = longer || ltb max_mended (length raw)

-- what a request answers in a raw file, scratch room and output room having these lengths: "a longer file is refused by 1",
-- else what replacing answers
unfoldable pub mending_with : List ℕ → Bool → ℕ → ℕ → Request → Answer
mending_with raw longer scratch out q =
    cond (too_long raw longer) (refused 1 []) (replacing raw q.number (lent_text q) (lent_row q) scratch out)

-- what mending answers, the input being a request line, LF and the raw file
unfoldable pub mending : List ℕ → Bool → ℕ → ℕ → Option Answer
mending input longer scratch out = option_map (mending_with (after_first lf input) longer scratch out) (asked input)

-- the output room after it, and the scratch room: both as they were where the request is bad or the file too long
unfoldable pub mended_room : List ℕ → Bool → ℕ → List ℕ → List ℕ
mended_room input longer scratch out =
    option_map_or (λ q.
    if_accepted (mending_with (after_first lf input) longer scratch (length out) q)
    (placed (new_file (after_first lf input) q.number (lent_text q) (lent_row q)) out)
    out) (asked input) out

unfoldable pub mended_scratch : List ℕ → Bool → List ℕ → List ℕ
mended_scratch input longer scratch =
    option_map_or (λ q.
    cond (too_long (after_first lf input) longer) scratch (converted_room (after_first lf input) scratch)) (asked input) scratch
