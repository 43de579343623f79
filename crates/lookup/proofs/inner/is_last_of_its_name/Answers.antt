use mathlib.Core.Path.{◌≡◌, sym, ap, ◌∙◌}
use mathlib.Core.List.{[]}
use lib.ListN.{length, get_or}
use Rattle.format.specs.Texts.{bytes_at}
use Rattle.format.specs.Contents.{region_of_entry}
use Rattle.format.specs.Writable.{names_of, is_index, last_of_its_name}
use Rattle.format.specs.LookingUp.{look_up}
use Rattle.lookup.proofs.NameLaws.{name_at, no_region_lem, no_name, last-is}
use Rattle.lookup.proofs.inner.is_last_of_its_name.Goals as goal
use Rattle.lookup.proofs.inner.is_last_of_its_name.Goals.{After-find_region-found, After-part-name}

-- `lookup::inner::is_last_of_its_name` meets its contract.
-- the name that the code cuts out
name-is :
    (c : After-part-name)
    → let a = c.args in c.part-name.result.now ≡ name_at a.text.now (get_or a.regions.now a.index [])
unfolding region_of_entry
name-is c =
    let a = c.args in
    c.part-name.ensures ∙ ap (λ p. bytes_at a.text.now p.from p.to) c.id-id.ensures

-- the answer, by the index that was found
answer :
    (c : After-find_region-found) (from_name_is : let a = c.args in c.part-name.result.now ≡ name_at a.text.now (get_or a.regions.now a.index []))
    → let a = c.args in
    is_index (c.find_region-found.result.index) a.index ≡ last_of_its_name (names_of a.text.now a.regions.now) a.index
answer c from_name_is =
    let a = c.args in
    let names = names_of a.text.now a.regions.now in
    last-is
    a.text.now
    a.regions.now
    a.index
    c.if-regions-index.false
    (λ z. c.if-name-eq0.false (ap length from_name_is ∙ z))
    c.find_region-found.result.index
    (ap (λ f. f.index) c.find_region-found.ensures.found ∙ ap (λ x. (look_up x names).index) from_name_is)

pub returns-then-regions-index : goal.returns-then-regions-index
returns-then-regions-index c = let a = c.args in no_region_lem a.text.now a.regions.now a.index c.if-regions-index.true

pub returns-then-name-eq0 : goal.returns-then-name-eq0
returns-then-name-eq0 c =
    let a = c.args in
    no_name a.text.now a.regions.now a.index c.if-regions-index.false (sym (ap length (name-is (goal.at.returns-then-name-eq0 c).After-part-name)) ∙ c.if-name-eq0.true)

pub returns-in-None : goal.returns-in-None
unfolding is_index
returns-in-None c = rw c.in-None.is at (answer (goal.at.returns-in-None c).After-find_region-found (name-is (goal.at.returns-in-None c).After-part-name))

pub returns-in-Some : goal.returns-in-Some
unfolding is_index
returns-in-Some c = rw c.in-Some.is at (answer (goal.at.returns-in-Some c).After-find_region-found (name-is (goal.at.returns-in-Some c).After-part-name))
