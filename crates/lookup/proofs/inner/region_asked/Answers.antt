use Prim.Native.Nat.{◌<◌}
use mathlib.Core.Path.{◌≡◌, sym, ap, ◌∙◌}
use mathlib.Core.Bool.{true}
use mathlib.Core.List.{[]}
use native.Mathlib.Omega.{arith}
use lib.ListN.{length, get_or}
use Rattle.format.specs.Texts.{same, bytes_at}
use Rattle.format.specs.LookingUp.{look_up}
use Rattle.format.specs.Writable.{names_of}
use Rattle.format.specs.declared.RegionFound.{RegionFound}
use Rattle.lookup.specs.Known.{asked_at, known_name, Right}
use Rattle.lookup.proofs.KnownLaws.{asked-none, asked-found, known_again, right_new, every_set}
use Rattle.lookup.proofs.inner.region_asked.Goals as goal
use Rattle.lookup.proofs.inner.region_asked.Goals.{Else-wanted-eq0}

pub returns-then-wanted-eq0 : goal.returns-then-wanted-eq0
returns-then-wanted-eq0 c =
    let a = c.args in
    record {
      index = asked-none a.text.now a.regions.now a.name (sym (ap length c.part-wanted.ensures) ∙ c.if-wanted-eq0.true);
      known = c.requires.all_right;
    }

-- what the look-up finds is what the name asks for
found-is :
    (c : Else-wanted-eq0) (f : RegionFound)
    → let a = c.args in
    f ≡ look_up c.part-wanted.result.now (names_of a.text.now a.regions.now)
    → f.index ≡ asked_at a.text.now a.regions.now a.name
found-is c f e =
    let a = c.args in
    let names = names_of a.text.now a.regions.now in
    ap (λ g. g.index) e
    ∙ ap (λ x. (look_up x names).index) c.part-wanted.ensures
    ∙ asked-found a.text.now a.regions.now a.name (λ z. c.if-wanted-eq0.false (ap length c.part-wanted.ensures ∙ z))

pub returns-then-is_named : goal.returns-then-is_named
returns-then-is_named c =
    let a = c.args in
    let s = a.text.now in
    let p = c.place_of-place.result in
    let k = get_or a.known.now p [] in
    let inside : p < length a.known.now = omega (arith, c.place_of-place.ensures, c.requires.known_len) in
    let alike : same (bytes_at s (known_name k).from (known_name k).to) (bytes_at s a.name.from a.name.to) ≡ true =
    ap (λ x. same (bytes_at s (known_name k).from (known_name k).to) x) (sym c.part-wanted.ensures)
    ∙ ap (λ n. same (bytes_at s n.from n.to) c.part-wanted.result.now) (sym c.known_name.ensures)
    ∙ sym c.is_named.ensures
    ∙ c.if-is_named.true in
    record {
      index = c.known_index.ensures ∙ known_again s a.regions.now a.name k (c.requires.all_right p inside) c.if-row-regions.true alike;
      known = c.requires.all_right;
    }

pub returns : goal.returns
returns c =
    let a = c.args in
    let s = a.text.now in
    let rows = a.regions.now in
    let p = c.place_of-place.result in
    let inside : p < length a.known.now = omega (arith, c.place_of-place.ensures, c.requires.known_len) in
    let index : c.find_region-found.result.index ≡ asked_at s rows a.name = found-is (goal.at.returns c).Else-wanted-eq0 c.find_region-found.result c.find_region-found.ensures.found in
    let right : Right s rows c.known_row.result = rw (c.known_row.ensures, index) (right_new s rows a.name) in
    record {
      index = index;
      known = every_set (Right s rows) [] a.known.now p c.known_row.result inside c.requires.all_right right;
    }
