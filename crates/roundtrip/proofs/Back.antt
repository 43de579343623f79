-- Demand 2's second half, of the file that writing leaves in the output room: converting changes nothing, and reading gives the lists back.
use Prim.Native.Nat.{ℕ}
use mathlib.Core.Path.{◌≡◌, refl, sym, ap, ◌∙◌}
use mathlib.Core.List.{List, [], ◌∷◌}
use native.Mathlib.Omega.{arith}
use lib.ListN.{length, take}
use Rattle.std.specs.Prelude.{Result, Ok}
use Rattle.format.specs.Texts.{starts_with}
use Rattle.format.specs.Plain.{plain_text}
use Rattle.format.specs.Lists.{lists}
use Rattle.format.specs.Contents.{Contents, contents, contents_of_rows}
use Rattle.format.specs.Writable.{style_fails, region_fails, cue_fails}
use Rattle.format.specs.Written.{file_lines, line_ended, written}
use Rattle.format.specs.Answers.{accepted, if_accepted, file_answer, placed}
use Rattle.format.specs.Writing.{writing_is, first_in, file_of, writing, written_room, ReadBack}
use Rattle.format.specs.declared.errors.WriteError.{WriteError}
use Rattle.laws.proofs.PlainText.{plain_text_keeps}
use Rattle.laws.proofs.Answers.{front, file-made, reads-again}
use Rattle.laws.proofs.Rows.{rows_say}
use Rattle.roundtrip.proofs.Files.{Reads, accepts, round_trip}

-- where writing accepts, making the file does
file_answer_lem :
    (s : List ℕ) (styles regions cues : List (List ℕ)) (room : ℕ) (vs : List ℕ)
    → writing s styles regions cues room ≡ accepted vs
    → file_answer (file_of s styles regions cues) room ≡ accepted vs
unfolding writing
file_answer_lem s styles regions cues room vs e =
    (accepts (first_in 2 (cue_fails s regions) 0 cues) _ vs
    (accepts (first_in 1 (region_fails s) 0 regions) _ vs (accepts (first_in 0 (style_fails s) 0 styles) _ vs e).1).1).1

-- converting it changes nothing
plain-kept : (c : Contents) → Reads c → plain_text (written c) ≡ written c
unfolding written file_lines line_ended starts_with
plain-kept c back = plain_text_keeps (written c) back.plain refl

-- demand 2's second half: the file of any writable lists is read as those lists, and the rows that reading stores say the same
pub writes_back :
    (s : List ℕ) (styles regions cues : List (List ℕ)) (room : ℕ) (vs : List ℕ)
    → writing s styles regions cues room ≡ accepted vs
    → ReadBack (contents_of_rows s styles regions cues) (file_of s styles regions cues)
unfolding file_of
writes_back s styles regions cues room vs e =
    let c = contents_of_rows s styles regions cues in
    let f = written c in
    let back = round_trip s styles regions cues room vs e in
    let fits = (file-made f room vs (file_answer_lem s styles regions cues room vs e)).fits in
    let kept = plain-kept c back in
    let same : contents (lists (plain_text f)) ≡ c = rw kept back.same in
    record {
      plain = kept;
      reads = same;
      stores = rows_say (plain_text f) (rw kept (omega arith)) ∙ same;
      again = reads-again f fits (rw kept back.signature) (rw kept back.within);
    }

-- the same of the file that a function left in the output room, where it keeps the promise of the answer and of that room
pub room_back :
    (s : List ℕ) (styles regions cues : List (List ℕ)) (out left : List ℕ) (r : Result ℕ WriteError)
    → writing_is r ≡ writing s styles regions cues (length out)
    → left ≡ written_room s styles regions cues out
    → (n : ℕ)
    → r ≡ Ok n
    → ReadBack (contents_of_rows s styles regions cues) (take n left)
unfolding writing_is written_room if_accepted
room_back s styles regions cues out left r e room n q =
    let f = file_of s styles regions cues in
    let is : writing s styles regions cues (length out) ≡ accepted (n ∷ []) = sym e ∙ ap writing_is q in
    let there : left ≡ placed f out = rw is at room in
    let size = (file-made f (length out) (n ∷ []) (file_answer_lem s styles regions cues (length out) (n ∷ []) is)).size n refl in
    rw (front f out left n there size) (writes_back s styles regions cues (length out) (n ∷ []) is)

-- one file is read back as one list: a program that writes the same file for two lists keeps the promise of one of them at most
pub one-file : (c d : Contents) (file : List ℕ) → ReadBack c file → ReadBack d file → c ≡ d
one-file c d file f g = sym f.reads ∙ g.reads
