use Rattle.std.proofs.Common.{◌≡◌, ℕ, List, length, sym, ap}
use Rattle.std.specs.Prelude.{Result, Ok, Err, OnErr}
use Rattle.format.specs.Answers.{refusal_number}
use Rattle.format.specs.Trees.{tree_size_told, tree_is, treeing}
use Rattle.format.specs.declared.TreeSize.{TreeSize}
use Rattle.listing.proofs.trees.show.Goals as goal

-- a tree that was read was not refused
shown : (s : List ℕ) (room table : ℕ) (size : TreeSize) → tree_is (Ok size) ≡ treeing s room table → refusal_number (treeing s room table) ≡ 0
unfolding tree_is tree_size_told refusal_number
shown s room table size e = sym (ap refusal_number e)

on_err : {T E P : Type 0} (r : Result T E) → P → OnErr r P
on_err (Ok x) p = tt
on_err (Err e) p = p

pub returns-in_err-print_all-in-Ok-clause-err : goal.returns-in_err-print_all-in-Ok-clause-err
returns-in_err-print_all-in-Ok-clause-err g c = on_err _ (shown _ _ _ _ c.in-Ok.ensures.answer)

pub returns-in_ok-print_all-in-Ok-clause-number : goal.returns-in_ok-print_all-in-Ok-clause-number
unfolding refusal_number
returns-in_ok-print_all-in-Ok-clause-number g c = sym (shown _ _ _ _ c.in-Ok.ensures.answer)
