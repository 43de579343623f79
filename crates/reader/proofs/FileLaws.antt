-- Laws of reading a text that was just converted: which of its answers can come, and what each tells of the file.
use Prim.Native.Nat.{ℕ, ◌≤◌}
use mathlib.Core.Path.{◌≡◌, refl, sym}
use mathlib.Core.Bool.{Bool, true, false, cond, not, ◌||◌}
use mathlib.Core.List.{List, [], ◌∷◌, ◌++◌}
use native.Mathlib.Omega.{arith}
use lib.Dec.{ltb}
use lib.ListN.{length}
use borrow.Author.Tests.{le-ltb, ltb-false}
use Rattle.laws.proofs.PlainText.{plain_text-length}
use Rattle.laws.proofs.Answers.{after_test}
use Rattle.format.specs.Answers.{Answer, accepted, refused, if_accepted, and_then}
use Rattle.format.specs.Limits.{max_file, max_text}
use Rattle.format.specs.Plain.{plain_text, first_not_plain}
use Rattle.format.specs.Converting.{convert_error, converting}
use Rattle.format.specs.Blocks.{has_signature}
use Rattle.format.specs.Lists.{items, lists, any_over}
use Rattle.format.specs.Reading.{text_error, lists_error, counts_told, count_values, file_lists_told, counts, reading, reading_raw, file_reading, after_reading}
use Rattle.format.specs.declared.Counts.{Counts}
use Rattle.format.specs.declared.errors.ConvertError.{ConvertError}
use Rattle.format.specs.declared.errors.TextError.{TextError}
use Rattle.format.specs.declared.errors.ListsError.{ListsError}

-- only the counts of the lists are accepted
same_values : (vs us : List ℕ) → accepted vs ≡ accepted us → vs ≡ us
same_values vs us e = cc

pub counted : (s : List ℕ) (cues regions styles : ℕ) (vs : List ℕ) → accepted vs ≡ reading s cues regions styles → vs ≡ counts (lists s)
unfolding reading
counted s cues regions styles vs e =
    let l = lists s in
    let size = after_test (ltb max_text (length s)) 1 [] vs _ (sym e) in
    let plain = after_test (ltb (first_not_plain s) (length s)) 3 (first_not_plain s ∷ []) vs _ size.1 in
    let signed = after_test (not (has_signature s)) 4 [] vs _ plain.1 in
    let within = after_test (any_over (items s)) 5 [] vs _ signed.1 in
    let short = ltb cues (length l.cues) || ltb regions (length l.regions) || ltb styles (length l.styles) in
    same_values vs (counts l) (sym (after_test short 6 (counts l) vs _ within.1).1)

-- a text that was converted is within its limit, and the length told is its own
module _ (raw : List ℕ) (room : ℕ) {n : ℕ} (a : accepted (n ∷ []) ≡ converting raw room) where
  pub short_enough : length (plain_text raw) ≤ max_text
  unfolding converting
  short_enough =
      let within = after_test (ltb max_file (length raw)) 1 [] (n ∷ []) _ (sym a) in
      omega (arith, ltb-false max_file (length raw) within.0, plain_text-length raw)

  pub text-length : n ≡ length (plain_text raw)
  unfolding converting
  text-length =
      let within = after_test (ltb max_file (length raw)) 1 [] (n ∷ []) _ (sym a) in
      let fitting = after_test (ltb room (length (plain_text raw))) 2 (length (plain_text raw) ∷ []) (n ∷ []) _ within.1 in
      cc fitting.1

-- what the text told, and its length, is what the file tells
pub told :
    (s : List ℕ) (cues regions styles : ℕ) (n : Counts) (k : ℕ)
    → counts_told n ≡ reading s cues regions styles
    → k ≡ length s
    → file_lists_told (record { counts = n; text = k }) ≡ and_then (reading s cues regions styles) (accepted (counts (lists s) ++ length s ∷ []))
unfolding counts_told file_lists_told and_then if_accepted
told s cues regions styles n k e z = rw (← e, ← (counted s cues regions styles (count_values n) e), z)

pub not_told : (e : ListsError) (b : Answer) → lists_error e ≡ and_then (lists_error e) b
unfolding lists_error text_error and_then if_accepted
not_told (ListsError.Text TextError.NoSignature) b = refl
not_told (ListsError.Text TextError.OverLimit) b = refl
not_told (ListsError.TablesTooShort n) b = refl

-- where converting refuses, so does reading the file, and no table changes
pub no_file :
    (raw : List ℕ) (room cues regions styles : ℕ) (e : ConvertError)
    → convert_error e ≡ converting raw room
    → (convert_error e ≡ file_reading raw room cues regions styles)
    × ((rows table : List (List ℕ)) → table ≡ after_reading (reading_raw raw room cues regions styles) rows table)
unfolding convert_error file_reading reading_raw and_then if_accepted after_reading
no_file raw room cues regions styles ConvertError.TooLong h = rw (← h) (refl, λ rows table. refl)
no_file raw room cues regions styles (ConvertError.RoomTooShort n) h = rw (← h) (refl, λ rows table. refl)
