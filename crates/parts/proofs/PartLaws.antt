-- A cue's test 1, and the part that is handed back.
use Prim.Native.Nat.{ℕ, ◌≤◌}
use mathlib.Core.Path.{◌≡◌}
use mathlib.Core.Bool.{true, false, ◌&&◌}
use mathlib.Core.List.{List, []}
use lib.Dec.{leb, ltb}
use lib.ListN.{length, get_or}
use borrow.Author.Tests.{leb-true, le-ltb}
use Rattle.format.specs.Writable.{part_plain, cue_test1}
use Rattle.format.specs.Texts.{bytes_at}
use Rattle.format.specs.Rows.{cue_entry, cue_codes_named}
use Rattle.format.specs.Contents.{cue_of_entry}
use Rattle.format.specs.Answers.{if_accepted}
use Rattle.format.specs.Parts.{asking, identifier_of, text_of}
use Rattle.laws.proofs.Tests.{and_left, and_right}
use Rattle.parts.specs.declared.Part.{Part}
use Rattle.parts.specs.Parts.{place_of, handed_back}

-- a part that is plain is inside the text
part-inside : (s : List ℕ) (from to : ℕ) → part_plain s from to ≡ true → (from ≤ to) × (to ≤ length s)
unfolding part_plain
part-inside s from to e =
    let rest = and_right (leb from to) _ e in
    (leb-true from to (and_left (leb from to) _ e), leb-true to (length s) (and_left (leb to (length s)) _ rest))

-- the place of either part is inside the text
pub place_inside :
    (s row : List ℕ) (part : Part) → cue_test1 s row ≡ true → ((place_of row part).from ≤ (place_of row part).to) × ((place_of row part).to ≤ length s)
unfolding cue_test1
place_inside s row Part.Text e =
    let id = (cue_entry row).id in
    let text = (cue_entry row).text in
    let second = part_plain s text.from text.to in
    part-inside s text.from text.to (and_left second (cue_codes_named row) (and_right (part_plain s id.from id.to) (second && cue_codes_named row) e))
place_inside s row Part.Identifier e =
    let id = (cue_entry row).id in
    let text = (cue_entry row).text in
    part-inside s id.from id.to (and_left (part_plain s id.from id.to) (part_plain s text.from text.to && cue_codes_named row) e)

-- the part, by the tests that the code makes
module _ (s : List ℕ) (cues : List (List ℕ)) (number : ℕ) where
  pub none_such : (part : Part) → length cues ≤ number → handed_back s cues number part ≡ []
  unfolding identifier_of text_of cue_of_entry asking if_accepted
  none_such Part.Identifier l = rw (le-ltb number (length cues) l)
  none_such Part.Text l = rw (le-ltb number (length cues) l)

  pub not_writable : (part : Part) → ltb number (length cues) ≡ true → cue_test1 s (get_or cues number []) ≡ false → handed_back s cues number part ≡ []
  unfolding identifier_of text_of cue_of_entry asking if_accepted
  not_writable Part.Identifier l e = rw (l, e)
  not_writable Part.Text l e = rw (l, e)

  pub handed :
      (part : Part)
      → ltb number (length cues) ≡ true
      → cue_test1 s (get_or cues number []) ≡ true
      → handed_back s cues number part ≡ bytes_at s (place_of (get_or cues number []) part).from (place_of (get_or cues number []) part).to
  unfolding identifier_of text_of cue_of_entry asking if_accepted
  handed Part.Identifier l e = rw (l, e)
  handed Part.Text l e = rw (l, e)
