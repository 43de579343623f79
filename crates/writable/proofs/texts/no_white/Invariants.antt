use Prim.Native.Nat.{ℕ}
use mathlib.Core.Path.{◌≡◌}
use mathlib.Core.Bool.{Bool, not}
use lib.ListN.{drop}
use Rattle.format.specs.Bytes.{white}
use Rattle.format.specs.Texts.{all}
use Rattle.writable.proofs.texts.no_white.Given as goal

-- `writable::texts::no_white` meets its contract: what is left from the byte on has no whitespace exactly where the whole has none.
abbrev pub other : ℕ → Bool
other b = not (white b)

abbrev pub invariant-loop-b : goal.invariant-loop-b
invariant-loop-b l = (all other (drop l.b-index l.s) ≡ all other l.s)
