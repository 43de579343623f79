use Prim.Native.Nat.{ℕ, ◌≤◌, ◌-◌}
use mathlib.Core.Path.{◌≡◌}
use mathlib.Core.List.{List}
use lib.ListN.{length, drop}
use Rattle.format.specs.Plain.{to_plain}
use Rattle.laws.proofs.Filling.{filled}
use Rattle.plain.proofs.write.Given as goal

-- `plain::write` meets its contract: the room is filled with the text as far as the bytes are read.
-- i bytes are read and n are written: what is left to write is the text of what is left to read
pub record Written (s : List ℕ) (room₀ room : List ℕ) (i n : ℕ) : Type 0 where
  pub inside : i ≤ length s
  pub some : n ≤ length (to_plain s)
  pub left : drop n (to_plain s) ≡ to_plain (drop i s)
  pub full : room ≡ filled (to_plain s) room₀ n
  pub kept : length room ≡ length room₀

abbrev pub invariant-loop-i : goal.invariant-loop-i
invariant-loop-i l = Written l.s l.initial.room l.room l.i l.n

abbrev pub decreases-loop-i : goal.decreases-loop-i
decreases-loop-i l = length l.s - l.i
