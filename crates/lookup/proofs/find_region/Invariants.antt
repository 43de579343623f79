use Rattle.std.proofs.Common.{◌≡◌, ◌-◌, take}
use Rattle.format.specs.Writable.{names_of}
use Rattle.format.specs.LookingUp.{look_up}
use Rattle.laws.proofs.LookingUp.{more}
use Rattle.lookup.proofs.find_region.Given as goal

-- the records from i on have another name, and were seen
abbrev pub invariant-loop-i : goal.invariant-loop-i
invariant-loop-i l =
    look_up l.name (names_of l.text l.regions) ≡ more (l.count - l.i) (look_up l.name (take l.i (names_of l.text l.regions)))
