-- The words of a cue's row after its region, and of a new cue's row after its region's name, are looked at by nobody.
use Prim.Native.Nat.{ℕ, ◌+◌}
use mathlib.Core.Path.{◌≡◌, refl, ap}
use mathlib.Core.Bool.{true}
use mathlib.Core.List.{List, [], ◌∷◌, map}
use lib.Dec.{ltb}
use lib.ListN.{get_or, take, length-map, get_or-map}
use lib.Seq.{get_or-take}
use borrow.Author.Tests.{ltb-true}
use Rattle.format.specs.Plain.{plain_text}
use Rattle.format.specs.Rows.{word, cue_codes_named, cue_entry, new_cue_entry}
use Rattle.format.specs.Contents.{cue_of_entry, cue_of_row, contents_of_rows}
use Rattle.format.specs.Writable.{cue_test1, cue_fails}
use Rattle.format.specs.Writing.{first_in, file_of, writing}
use Rattle.format.specs.Parts.{asking}
use Rattle.format.specs.Replacing.{name_lent, cue_asked, new_test1, new_test6, new_cue_fails, region_names, new_form, new_file, no_gap, replacing_text, replacing}

-- a row's first words are those of the row
word_front : (n : ℕ) (w : List ℕ) (i : ℕ) → ltb i n ≡ true → word i (take n w) ≡ word i w
word_front n w i h = get_or-take n w i 0 (ltb-true i n h)

-- so a cue's row says what its first seventeen say
pub entry_front : (w : List ℕ) → cue_entry (take 17 w) ≡ cue_entry w
entry_front w = simp (word_front 17 w)

pub codes_front : (w : List ℕ) → cue_codes_named (take 17 w) ≡ cue_codes_named w
unfolding cue_codes_named
codes_front w = simp (word_front 17 w)

test_front : (s w : List ℕ) → cue_test1 s (take 17 w) ≡ cue_test1 s w
unfolding cue_test1
test_front s w = simp (word_front 17 w, codes_front w)

fails_front : (s : List ℕ) (regions : List (List ℕ)) (w : List ℕ) → cue_fails s regions (take 17 w) ≡ cue_fails s regions w
unfolding cue_fails
fails_front s regions w = rw (test_front s w, ap (cue_of_entry s) (entry_front w))

-- and a table of cues with it
first_front :
    (s : List ℕ) (regions : List (List ℕ)) (i : ℕ) (cues : List (List ℕ))
    → first_in 2 (cue_fails s regions) i (map (take 17) cues) ≡ first_in 2 (cue_fails s regions) i cues
unfolding first_in
first_front s regions i [] = refl
first_front s regions i (w ∷ cues) = rw (fails_front s regions w, first_front s regions (i + 1) cues)

rows_front : (s : List ℕ) (cues : List (List ℕ)) → map (cue_of_row s) (map (take 17) cues) ≡ map (cue_of_row s) cues
rows_front s [] = refl
rows_front s (w ∷ cues) = rw (ap (cue_of_entry s) (entry_front w), rows_front s cues)

-- writing does not look at the other words
pub file_front :
    (s : List ℕ) (styles regions cues : List (List ℕ)) → file_of s styles regions (map (take 17) cues) ≡ file_of s styles regions cues
unfolding file_of contents_of_rows
file_front s styles regions cues = rw (rows_front s cues)

pub writing_front :
    (s : List ℕ) (styles regions cues : List (List ℕ)) (room : ℕ)
    → writing s styles regions (map (take 17) cues) room ≡ writing s styles regions cues room
unfolding writing
writing_front s styles regions cues room = rw (first_front s regions 0 cues, file_front s styles regions cues)

-- nor does asking for a part
pub asking_front : (s : List ℕ) (cues : List (List ℕ)) (number : ℕ) → asking s (map (take 17) cues) number ≡ asking s cues number
unfolding asking
asking_front s cues number = rw (length-map cues (take 17), get_or-map (take 17) cues number [], test_front s (get_or cues number []))

-- a new cue's row says what its first eighteen words say
new_codes_front : (w : List ℕ) → cue_codes_named (take 18 w) ≡ cue_codes_named w
unfolding cue_codes_named
new_codes_front w = simp (word_front 18 w)

new_fails_front : (t w : List ℕ) (names : List (List ℕ)) → new_cue_fails t (take 18 w) names ≡ new_cue_fails t w names
unfolding new_cue_fails new_test1 cue_test1 new_test6 name_lent
new_fails_front t w names = simp (word_front 18 w, new_codes_front w)

-- replacing does not look at the other words
pub new_file_front : (raw : List ℕ) (number : ℕ) (t w : List ℕ) → new_file raw number t (take 18 w) ≡ new_file raw number t w
unfolding new_file new_form cue_asked name_lent
new_file_front raw number t w = simp (word_front 18 w)

pub replacing_front :
    (raw : List ℕ) (number : ℕ) (t w : List ℕ) (scratch out : ℕ)
    → replacing raw number t (take 18 w) scratch out ≡ replacing raw number t w scratch out
unfolding replacing replacing_text no_gap
replacing_front raw number t w scratch out =
    let entry : new_cue_entry (take 18 w) ≡ new_cue_entry w = simp (word_front 18 w) in
    rw (new_fails_front t w (region_names (plain_text raw)), ap (cue_of_entry t) entry, new_file_front raw number t w)
