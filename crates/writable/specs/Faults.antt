-- A row of a list that fails a test, as writing answers it.
use Rattle.std.specs.Prelude.{ℕ, List, [], ◌∷◌}
use Rattle.std.specs.Prelude.{Option, option_map}
use Rattle.writable.specs.declared.Fault.{Fault}

-- the first row that fails, with its list
abbrev pub fault_is : ℕ → Option Fault → Option (List ℕ)
fault_is list fault = option_map (λ (f : Fault). list ∷ f.index ∷ f.test ∷ []) fault
