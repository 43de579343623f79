use Prim.Native.Nat.{ℕ, ◌/◌, ◌^◌, ◌≤◌, ◌<◌}
use mathlib.Core.Path.{◌≡◌}
use Rattle.output.proofs.width.Given as goal

-- no count from the least one on was enough so far
abbrev pub invariant-loop-w : goal.invariant-loop-w
invariant-loop-w l = (l.rest ≡ l.n / 10 ^ l.w) × ((k : ℕ) → k < l.w → l.least ≤ k → l.n / 10 ^ k ≡ 0 → ⊥)
