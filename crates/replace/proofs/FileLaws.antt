-- Laws of the new file: the pieces it is put together of, and the form of the new cue among the old file's regions.
use Prim.Native.Nat.{ℕ, ◌+◌, ◌-◌, ◌≤◌, ◌<◌}
use mathlib.Core.Path.{◌≡◌, refl, sym, ap, ◌∙◌}
use mathlib.Core.Bool.{true, not, ◌||◌, false≢true}
use mathlib.Core.List.{List, [], ◌∷◌, ◌++◌}
use Rattle.std.specs.Prelude.{Option, None, Some}
use native.Mathlib.Omega.{arith}
use lib.Dec.{ltb}
use lib.ListN.{length, take, drop, length-drop}
use lib.Seq.{take_all}
use borrow.Author.Tests.{lt-ltb}
use Rattle.format.specs.Limits.{max_file}
use Rattle.format.specs.Answers.{if_accepted, and_then, file_answer}
use Rattle.std.specs.Prelude.{Result}
use Rattle.format.specs.Converting.{convert_error, converting}
use Rattle.format.specs.declared.errors.ConvertError.{ConvertError}
use Rattle.format.specs.declared.errors.OutError.{OutError}
use Rattle.format.specs.declared.errors.ReplaceError.{ReplaceError}
use Rattle.output.specs.Puts.{made_is, Made}
use Rattle.format.specs.Texts.{is_empty, bytes_at}
use Rattle.format.specs.Plain.{plain_text}
use Rattle.format.specs.Rows.{cue_entry, new_cue_entry}
use Rattle.format.specs.RegionSettings.{last_named}
use Rattle.format.specs.Lists.{lists}
use Rattle.format.specs.Contents.{contents, cue_of_entry}
use Rattle.format.specs.Writable.{cue_tests}
use Rattle.format.specs.Written.{written_region_name, written_settings, written_timing, cue_lines}
use Rattle.format.specs.Replacing.{name_lent, region_asked, with_region, cue_asked, new_test1, is_there, new_test6, new_cue_fails, region_names, new_form, new_file, replacing_is, replacing, replaced_room, raw_start, raw_end, first_line, last_line, own_start, own_end}
use Rattle.laws.proofs.Tests.{by-test}
use Rattle.roundtrip.proofs.Shape.{none-fails}
use Rattle.replaced.proofs.Asked.{names_are, asked-name}
use Rattle.setting_forms.specs.Settings.{named_region, settings_form}
use Rattle.forms.specs.Forms.{timing_form, cue_form}
use Rattle.blocks.specs.Collecting.{line_ends}
use Rattle.places.specs.Places.{OwnLines}
use Rattle.blocks.proofs.LineLaws.{ends_more}
use Rattle.places.proofs.PlaceLaws.{end_from}
use Rattle.replace.specs.NewCue.{asked, lent_form, in_place, Outcome}

pub front_part : (s : List ℕ) (n : ℕ) → bytes_at s 0 n ≡ take n s
unfolding bytes_at
front_part s n = let e : n - 0 ≡ n = omega arith in rw e refl

pub back_part : (s : List ℕ) (n : ℕ) → bytes_at s n (length s) ≡ drop n s
unfolding bytes_at
back_part s n = take_all (length s - n) (drop n s) (omega (arith, length-drop n s))

-- the new cue's written form, by its words and its region's name
pub lent_form_lem :
    (t w words name : List ℕ) (region : Option (List ℕ))
    → cue_entry words ≡ new_cue_entry w
    → name ≡ name_lent t w
    → region ≡ asked name
    → cue_form t (cue_entry words) region ≡ lent_form t w
unfolding lent_form
lent_form_lem t w words name region e f g = rw (e, g, f) refl

-- it is the form of the cue asked for, where no test fails
module _ (s t w : List ℕ) (e : new_cue_fails t w (region_names s) ≡ None) where
  abbrev names : List (List ℕ)
  names = region_names s

  abbrev name : List ℕ
  name = name_lent t w

  found-region :
      (o : Option ℕ) → region_asked names name ≡ o → is_there o ≡ true → named_region (Some name) ≡ written_region_name (contents (lists s)).regions o
  unfolding named_region written_region_name is_there
  found-region None q h = absurd (false≢true h)
  found-region (Some i) q h = rw (names_are s t w e, asked-name s t w e i q) refl

  is_there_lem : (is_empty name || is_there (last_named 0 name names)) ≡ true
  unfolding new_cue_fails new_test6 cue_tests
  is_there_lem =
      (none-fails 1 (new_test1 t w ∷ cue_tests (cue_of_entry t (new_cue_entry w)) ++ new_test6 t w names ∷ []) e).1.1.1.1.1.0

  region_form : named_region (asked name) ≡ written_region_name (contents (lists s)).regions (region_asked names name)
  unfolding asked named_region region_asked written_region_name
  region_form =
      by-test (is_empty name)
      (λ y. rw y refl)
      (λ n. rw n (found-region (last_named 0 name names) (rw n refl) (rw n at is_there_lem)))

  pub form_is : lent_form t w ≡ new_form s t w
  unfolding lent_form new_form cue_form cue_lines cue_asked with_region cue_of_entry timing_form settings_form written_timing written_settings
  form_is = rw region_form refl

-- the file that the code puts together is the new file: its raw lines are sought by the line ends before the cue's lines and in them
pub file-is :
    (raw s t w : List ℕ) (number from to first more start end : ℕ)
    → s ≡ plain_text raw
    → OwnLines s number from to
    → new_cue_fails t w (region_names s) ≡ None
    → first ≡ line_ends (bytes_at s 0 from)
    → more ≡ line_ends (bytes_at s from to)
    → start ≡ 0 + raw_start (drop 0 raw) first
    → end ≡ start + raw_end (drop start raw) more
    → in_place raw start end t w ≡ new_file raw number t w
unfolding in_place new_file own_start own_end bytes_at
file-is raw s t w number from to first more start end e own passed f m a b =
    let number-first : first ≡ first_line s number = f ∙ ap line_ends (front_part s from) ∙ sym own.first in
    let number-last : first + more ≡ last_line s number = omega (arith, own.first, own.last, ends_more s from to own.some) in
    let starts : start ≡ raw_start raw first = omega arith in
    let ends : end ≡ raw_end raw (first + more) = b ∙ rw starts (end_from raw first more) in
    rw (starts, ends, number-last, number-first, form_is s t w passed, e) refl

-- what making the file answers
pub made_so :
    (new out : List ℕ) (r : Result ℕ ReplaceError) (m : Result ℕ OutError) {room : List ℕ}
    → replacing_is r ≡ made_is m
    → Made new out m room
    → Outcome new out (file_answer new (length out)) r room
made_so new out r m e f = record { answer = e ∙ f.is; holds = f.holds }

-- where converting refuses, so does replacing, and the output room is as it was
pub not_converted :
    (raw : List ℕ) (number : ℕ) (t w out : List ℕ) (scratch : ℕ) (e : ConvertError)
    → convert_error e ≡ converting raw scratch
    → (convert_error e ≡ replacing raw number t w scratch (length out)) × (out ≡ replaced_room raw number t w scratch out)
unfolding convert_error replacing replaced_room and_then if_accepted
not_converted raw number t w out scratch ConvertError.TooLong h = rw (← h) (refl, refl)
not_converted raw number t w out scratch (ConvertError.RoomTooShort n) h = rw (← h) (refl, refl)
