-- A file measured and then written: what was measured decides the answer, and the file stands at the room's start.
use Prim.Native.Nat.{ℕ, ◌≤◌, ◌<◌}
use mathlib.Core.Path.{◌≡◌, refl, sym, ◌∙◌}
use mathlib.Core.List.{List}
use native.Mathlib.Omega.{arith}
use lib.Dec.{ltb}
use lib.ListN.{length}
use borrow.Author.Tests.{ltb-true, ltb-false, lt-ltb, le-ltb}
use Rattle.format.specs.Limits.{max_file}
use Rattle.std.specs.Prelude.{Result, Ok, Err}
use Rattle.format.specs.Answers.{refused, file_answer, if_accepted}
use Rattle.format.specs.Writing.{out_error}
use Rattle.format.specs.declared.errors.OutError.{OutError}
use Rattle.output.specs.declared.Output.{Output}
use Rattle.laws.proofs.Tests.{by-test}
use Rattle.output.specs.Puts.{made_is, Puts, Made}
use Rattle.output.proofs.PutLaws.{measured, measured-above, stands}

module _ {file : List ℕ} {out end : Output} (f : Puts file out end) (start : out.at ≡ 0) where
  exact : end.at ≤ max_file → end.at ≡ length file
  exact h =
      by-test (ltb max_file (length file))
      (λ y. absurd (omega (arith, measured-above f start (ltb-true max_file (length file) y))))
      (λ z. measured f start (ltb-false max_file (length file) z))

  above : max_file < end.at → max_file < length file
  above h =
      by-test (ltb max_file (length file))
      (λ y. ltb-true max_file (length file) y)
      (λ z. let l = ltb-false max_file (length file) z in absurd (omega (arith, measured f start l)))

  module _ (room : List ℕ) where
    refused_as : (r : Result ℕ OutError) {n : ℕ} {vs : List ℕ} → made_is r ≡ refused n vs → file_answer file (length room) ≡ refused n vs → Made file room r room
    unfolding if_accepted
    refused_as r e a = record { is = e ∙ sym a; holds = rw a refl }

    pub too_long_lem : max_file < end.at → Made file room (Err OutError.FileTooLong) room
    unfolding made_is out_error file_answer
    too_long_lem h = refused_as (Err OutError.FileTooLong) refl (rw (lt-ltb max_file (length file) (above h)) refl)

    pub too_short : end.at ≤ max_file → length room < end.at → Made file room (Err (OutError.OutTooShort end.at)) room
    unfolding made_is out_error file_answer
    too_short h l =
        let is = exact h in
        refused_as (Err (OutError.OutTooShort end.at)) refl
        (rw (is, le-ltb max_file (length file) (omega arith), lt-ltb (length room) (length file) (omega arith)) refl)

  -- the same file, put into the room that it was measured to fit
  pub made :
      {lent last : Output}
      → end.at ≤ max_file
      → end.at ≤ length lent.room.now
      → lent.at ≡ 0
      → Puts file lent last
      → Made file lent.room.now (Ok last.at) last.room.now
  unfolding made_is file_answer if_accepted
  made {lent} {last} h l begins g =
      let is = exact h in
      let size = measured g begins (omega arith) in
      let small = le-ltb max_file (length file) (omega arith) in
      let short = le-ltb (length lent.room.now) (length file) (omega arith) in
      record {
        is = rw (size, small, short) refl;
        holds = rw (small, short) (stands g begins (omega arith) (omega arith));
      }
