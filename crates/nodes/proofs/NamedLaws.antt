-- The kind that a name names, where it is none of the names.
use mathlib.Core.Path.{◌≡◌}
use mathlib.Core.Bool.{false}
use mathlib.Core.List.{List}
use Prim.Native.Nat.{ℕ}
use Rattle.std.specs.Prelude.{None}
use Rattle.format.specs.Bytes.{ascii}
use Rattle.format.specs.Texts.{same}
use Rattle.format.specs.Trees.{kind_named}

pub none_named :
    (name : List ℕ)
    → same name (ascii "c") ≡ false
    → same name (ascii "i") ≡ false
    → same name (ascii "b") ≡ false
    → same name (ascii "u") ≡ false
    → same name (ascii "ruby") ≡ false
    → same name (ascii "rt") ≡ false
    → same name (ascii "v") ≡ false
    → same name (ascii "lang") ≡ false
    → kind_named name ≡ None
unfolding kind_named
none_named name c i b u ruby rt v lang = rw (c, i, b, u, ruby, rt, v, lang)
