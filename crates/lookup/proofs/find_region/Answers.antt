use Rattle.std.specs.Prelude.{Some}
use Prim.Native.Nat.{◌+◌, ◌-◌, ◌<◌}
use mathlib.Core.Path.{◌≡◌, refl, sym, ap, ◌∙◌}
use mathlib.Core.Bool.{cond}
use mathlib.Core.List.{[]}
use native.Mathlib.Omega.{arith}
use lib.ListN.{length, take, get_or}
use Rattle.format.specs.Texts.{same, bytes_at}
use Rattle.format.specs.Contents.{region_of_entry}
use Rattle.format.specs.Writable.{names_of}
use Rattle.format.specs.LookingUp.{look_up}
use Rattle.laws.proofs.LookingUp.{more, look_up-start, look_up_turn, look_up-end, look_up-last}
use Rattle.lookup.proofs.NameLaws.{names_length, name_at_lem}
use borrow.Author.Rules.{rules}
use Rattle.lookup.proofs.find_region.Goals as goal
use Rattle.lookup.proofs.find_region.Goals.{After-is_named, In-loop-i}

pub loop-i-init : goal.loop-i-init
loop-i-init c =
    let a = c.args in
    let rows = a.regions.now in
    sym (look_up-start a.name.now (names_of a.text.now rows) (length rows) (names_length a.text.now rows))

-- the row is inside the table
row_inside : (c : In-loop-i) → c.loop-i.i - 1 < length c.args.regions.now
row_inside c = omega arith

pub offset_bounds-regions-i : goal.offset_bounds-regions-i
offset_bounds-regions-i c = let inside = row_inside (goal.at.offset_bounds-regions-i c).In-loop-i in search (rules, inside)

pub bounds-regions-i : goal.bounds-regions-i
bounds-regions-i c = row_inside (goal.at.bounds-regions-i c).In-loop-i

-- one turn: the record at i is the one, or those before it are left
turn :
    (c : After-is_named)
    → let a = c.args in
    let names = names_of a.text.now a.regions.now in
    let n = length a.regions.now in
    let i = c.loop-i.i - 1 in
    look_up a.name.now names
    ≡ cond c.is_named.result (record { index = Some i; seen = n - i }) (more (n - i) (look_up a.name.now (take i names)))
unfolding region_of_entry
turn c =
    let a = c.args in
    let s = a.text.now in
    let x = a.name.now in
    let names = names_of s a.regions.now in
    let n = length a.regions.now in
    let i = c.loop-i.i - 1 in
    let next : c.loop-i.i ≡ i + 1 = omega arith in
    let own : same (get_or names i []) x ≡ c.is_named.result =
    ap (λ y. same y x) (name_at_lem s a.regions.now i)
    ∙ sym (c.is_named.ensures ∙ ap (λ p. same (bytes_at s p.from p.to) x) c.id.ensures) in
    rw next at c.loop-i.invariant
    ∙ look_up_turn x names n (names_length s a.regions.now) i (omega arith)
    ∙ ap (λ t. cond t (record { index = Some i; seen = n - i }) (more (n - i) (look_up x (take i names)))) own

pub returns-then-is_named : goal.returns-then-is_named
returns-then-is_named c =
    let a = c.args in
    let names = names_of a.text.now a.regions.now in
    let found = rw c.if-is_named.true at (turn (goal.at.returns-then-is_named c).After-is_named) in
    record {
      found = sym found;
      last = rw found at (look_up-last a.name.now names);
    }

pub loop-i-preserved : goal.loop-i-preserved
loop-i-preserved c = turn (goal.at.loop-i-preserved c).After-is_named ∙ rw c.if-is_named.false refl

pub returns : goal.returns
returns c =
    let a = c.args in
    let names = names_of a.text.now a.regions.now in
    let n = length a.regions.now in
    let z : c.loop-i.i ≡ 0 = omega arith in
    let found = rw z at c.loop-i.invariant ∙ look_up-end a.name.now names n (names_length a.text.now a.regions.now) in
    record {
      found = sym found;
      last = rw found at (look_up-last a.name.now names);
    }
