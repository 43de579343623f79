-- An answer that accepts is the case that accepts, with its values: no error accepts.
use Prim.Native.Nat.{ℕ}
use mathlib.Core.Path.{◌≡◌, refl}
use mathlib.Core.List.{List, [], ◌∷◌}
use native.Mathlib.Omega.{arith}
use Rattle.std.specs.Prelude.{Result, Ok, Err}
use Rattle.format.specs.Answers.{accepted, refused}
use Rattle.format.specs.Converting.{convert_error}
use Rattle.format.specs.Reading.{text_error}
use Rattle.format.specs.Trees.{tree_error, tree_size_told, tree_is}
use Rattle.format.specs.Writing.{not_writable, out_error, write_error, writing_is}
use Rattle.format.specs.Replacing.{replace_error, replacing_is}
use Rattle.format.specs.declared.TreeSize.{TreeSize}
use Rattle.format.specs.declared.errors.ConvertError.{ConvertError}
use Rattle.format.specs.declared.errors.TextError.{TextError}
use Rattle.format.specs.declared.errors.TreeError.{TreeError}
use Rattle.format.specs.declared.errors.OutError.{OutError}
use Rattle.format.specs.declared.errors.WriteError.{WriteError}
use Rattle.format.specs.declared.errors.ReplaceError.{ReplaceError}

-- no refusal accepts
never : {A : Type 0} {n : ℕ} {us vs : List ℕ} → refused n us ≡ accepted vs → A
never e = let z : ◌≡◌ {A = ℕ} 0 1 = cc e in absurd (omega arith)

tree_never : {A : Type 0} (why : TreeError) {vs : List ℕ} → tree_error why ≡ accepted vs → A
unfolding tree_error
tree_never TreeError.TooLong e = never e
tree_never (TreeError.NotPlainAt i) e = never e
tree_never TreeError.OverLimit e = never e
tree_never (TreeError.RoomTooShort n) e = never e
tree_never (TreeError.TableTooShort n) e = never e

pub tree_accepted : (r : Result TreeSize TreeError) (count used : ℕ) → tree_is r ≡ accepted (count ∷ used ∷ []) → r ≡ Ok (record { count = count; used = used })
unfolding tree_is tree_size_told
tree_accepted (Ok n) count used e =
    let c : n.count ≡ count = cc e in
    let u : n.used ≡ used = cc e in
    rw (← c, ← u) refl
tree_accepted (Err why) count used e = tree_never why e

out_never : {A : Type 0} (why : OutError) {vs : List ℕ} → out_error why ≡ accepted vs → A
unfolding out_error
out_never OutError.FileTooLong e = never e
out_never (OutError.OutTooShort n) e = never e

write_never : {A : Type 0} (why : WriteError) {vs : List ℕ} → write_error why ≡ accepted vs → A
unfolding write_error not_writable
write_never (WriteError.NotWritable f) e = never e
write_never (WriteError.Out why) e = out_never why e

pub writing-accepted : (r : Result ℕ WriteError) (n : ℕ) → writing_is r ≡ accepted (n ∷ []) → r ≡ Ok n
unfolding writing_is
writing-accepted (Ok m) n e = cc e
writing-accepted (Err why) n e = write_never why e

convert_never : {A : Type 0} (why : ConvertError) {vs : List ℕ} → convert_error why ≡ accepted vs → A
unfolding convert_error
convert_never ConvertError.TooLong e = never e
convert_never (ConvertError.RoomTooShort n) e = never e

text_never : {A : Type 0} (why : TextError) {vs : List ℕ} → text_error why ≡ accepted vs → A
unfolding text_error
text_never TextError.NoSignature e = never e
text_never TextError.OverLimit e = never e

replace_never : {A : Type 0} (why : ReplaceError) {vs : List ℕ} → replace_error why ≡ accepted vs → A
unfolding replace_error not_writable
replace_never (ReplaceError.Convert why) e = convert_never why e
replace_never (ReplaceError.Text why) e = text_never why e
replace_never (ReplaceError.NoSuchCue count) e = never e
replace_never (ReplaceError.NotWritable f) e = never e
replace_never ReplaceError.NoGap e = never e
replace_never (ReplaceError.Out why) e = out_never why e

pub replacing-accepted : (r : Result ℕ ReplaceError) (n : ℕ) → replacing_is r ≡ accepted (n ∷ []) → r ≡ Ok n
unfolding replacing_is
replacing-accepted (Ok m) n e = cc e
replacing-accepted (Err why) n e = replace_never why e
