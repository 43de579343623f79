use Rattle.std.proofs.Common.{◌≡◌, ◌+◌, length, drop}
use Rattle.format.specs.Texts.{run}
use Rattle.tokenizer.specs.Tags.{in_name}
use Rattle.tokenizer.proofs.name_length.Given as goal

-- what is left of the run ends where the whole does
abbrev pub invariant-loop-i : goal.invariant-loop-i
invariant-loop-i l = l.i + length (run (in_name l.stops) (drop l.i l.s)) ≡ length (run (in_name l.stops) l.s)
