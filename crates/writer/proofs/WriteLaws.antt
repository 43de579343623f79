-- Laws of writing's answer: where the lists are writable, it is that of making the file; a refusal leaves the room alone.
use Prim.Native.Nat.{ℕ}
use mathlib.Core.Path.{◌≡◌, refl, sym, ap, ◌∙◌}
use mathlib.Core.List.{List}
use lib.ListN.{length, take}
use Rattle.std.specs.Prelude.{Result, Ok, Err}
use Rattle.format.specs.Answers.{Answer, if_accepted, file_answer}
use Rattle.format.specs.Writable.{style_fails, region_fails, cue_fails}
use Rattle.format.specs.Writing.{not_writable, write_error, writing_is, first_in, unless_failing, file_of, writing, written_room, ReadBack}
use Rattle.format.specs.Contents.{contents_of_rows}
use Rattle.format.specs.declared.errors.NotWritable.{NotWritable}
use Rattle.format.specs.declared.errors.OutError.{OutError}
use Rattle.format.specs.declared.errors.WriteError.{WriteError}
use Rattle.roundtrip.proofs.Back.{room_back}
use Rattle.output.specs.Puts.{made_is, Made}
use Rattle.writer.specs.Blocks.{unless}

module _ (s : List ℕ) (styles regions cues : List (List ℕ)) (lent : List ℕ) where
  abbrev file : List ℕ
  file = file_of s styles regions cues

  abbrev told : Answer
  told = writing s styles regions cues (length lent)

  -- what writing answers, and the room after it
  abbrev Answers : Answer → List ℕ → Type 0
  Answers a o = (a ≡ told) × (o ≡ written_room s styles regions cues lent)

  -- so the file that was left is read back
  pub record Promised (r : Result ℕ WriteError) (o : List ℕ) : Type 0 where
    pub answer : writing_is r ≡ writing s styles regions cues (length lent)
    pub out : o ≡ written_room s styles regions cues lent
    pub back : (n : ℕ) → r ≡ Ok n → ReadBack (contents_of_rows s styles regions cues) (take n o)

  promised : {r : Result ℕ WriteError} {o : List ℕ} → Answers (writing_is r) o → Promised r o
  promised {r} {o} h = record { answer = h.0; out = h.1; back = room_back s styles regions cues lent o r h.0 h.1 }

  abbrev sized : Answer
  sized = file_answer file (length lent)

  module _ {checked : Result (Unit {0}) NotWritable}
      (checks :
      (a : Answer)
      → unless checked a
      ≡ unless_failing (first_in 0 (style_fails s) 0 styles)
      (unless_failing (first_in 1 (region_fails s) 0 regions) (unless_failing (first_in 2 (cue_fails s regions) 0 cues) a))) where
    pub refused_by : {f : NotWritable} → checked ≡ Err f → Promised (Err (WriteError.NotWritable f)) lent
    unfolding writing writing_is write_error not_writable written_room if_accepted
    refused_by {f} e =
        let is : not_writable f ≡ told = ap (λ r. unless r sized) (sym e) ∙ checks sized in
        promised (is, rw (sym is) refl)

    module _ (e : checked ≡ Ok tt) where
      passed : sized ≡ told
      unfolding writing
      passed = ap (λ r. unless r sized) (sym e) ∙ checks sized

      made-as : (r : Result ℕ WriteError) {m : Result ℕ OutError} {o : List ℕ} → writing_is r ≡ made_is m → Made file lent m o → Promised r o
      unfolding written_room
      made-as r same f = promised (same ∙ f.is ∙ passed, f.holds ∙ rw passed refl)

      pub made : {n : ℕ} {o : List ℕ} → Made file lent (Ok n) o → Promised (Ok n) o
      unfolding writing_is made_is
      made f = made-as (Ok _) refl f

      pub not_made : {why : OutError} {o : List ℕ} → Made file lent (Err why) o → Promised (Err (WriteError.Out why)) o
      unfolding writing_is write_error made_is
      not_made f = made-as (Err (WriteError.Out _)) refl f
