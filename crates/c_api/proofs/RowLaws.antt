-- What a lent row of another count of words says, and a part that is refused.
use Prim.Native.Nat.{ℕ}
use mathlib.Core.Path.{◌≡◌, refl, ap, ◌∙◌}
use mathlib.Core.Bool.{false}
use mathlib.Core.List.{List, [], ◌∷◌}
use native.Mathlib.Omega.{arith}
use lib.ListN.{length, get_or, drop, drop_of_length-le}
use lib.Seq.{drop-cons}
use Rattle.format.specs.Answers.{refused, if_accepted, returned}
use Rattle.format.specs.Parts.{part_error}
use Rattle.format.specs.declared.errors.PartError.{PartError}
use Rattle.format.specs.Replacing.{new_test1}
use Rattle.format.specs.Rows.{cue_codes_named}
use Rattle.format.specs.Writable.{part_plain, cue_test1}
use Rattle.laws.proofs.Tests.{by-test}
use Rattle.c_api.specs.Lent.{most, unnamed}

-- the row that stands for words of another count fails test 1
pub unnamed-fails : (t : List ℕ) → new_test1 t unnamed ≡ false
unfolding new_test1 cue_test1 cue_codes_named
unnamed-fails t = by-test (part_plain t most most) (λ y. rw y refl) (λ n. rw n refl)

-- where a part is refused, what is returned with the refusal is told
pub told-refused : (e : PartError) (vs : List ℕ) → if_accepted (part_error e) vs (returned (part_error e)) ≡ returned (part_error e)
unfolding part_error if_accepted
told-refused (PartError.NoSuchCue n) vs = refl
told-refused (PartError.NotWritable i) vs = refl
