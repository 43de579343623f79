-- What settings make of a region's name and of an identifier, whatever stands for it (a part of a text, a span, bytes alone), and of a whole
-- value, token after token.
use mathlib.Core.Path.{◌≡◌, refl, ap, ◌∙◌}
use mathlib.Core.Bool.{Bool, true, false, cond, ◌||◌}
use mathlib.Core.List.{List, [], ◌∷◌}
use lib.Dec.{eqb}
use Rattle.format.specs.Texts.{Part, empty_part}
use Rattle.format.specs.Tokens.{Flagged, folded}
use Rattle.format.specs.CueSettings.{name_after, is_horizontal}
use Rattle.format.specs.RegionSettings.{RegionValues, opening_region, id_after}
use Rattle.format.specs.declared.settings.Change.{Change}
use Rattle.format.specs.declared.regions.RegionChange.{RegionChange}

-- the values with which a region's settings are folded
abbrev pub opening_values : RegionValues
opening_values = record { id = empty_part; settings = opening_region }

-- names that are alike stay so: the setting's value is taken for both or for none, and both are cleared or none
module _ {A B : Type 0} (Alike : A → B → Type 0) {a : A} {b : B} (cleared : Alike a b) where
  kept_or_cleared : (t : Bool) {n : A} {m : B} → Alike n m → Alike (cond t n a) (cond t m b)
  kept_or_cleared true h = h
  kept_or_cleared false h = cleared

  pub name_after_lem : (c : Change) {x n : A} {y m : B} → Alike x y → Alike n m → Alike (name_after a c x n) (name_after b c y m)
  name_after_lem Change.Nothing v h = h
  name_after_lem Change.Over v h = h
  name_after_lem Change.Region v h = v
  name_after_lem (Change.Vertical d) v h = kept_or_cleared (is_horizontal d) h
  name_after_lem (Change.Line l) v h = cleared
  name_after_lem (Change.Position p) v h = h
  name_after_lem (Change.Size n) v h = kept_or_cleared (eqb n 100_000_000) h
  name_after_lem (Change.Align a) v h = h

-- identifiers that are alike stay so: the setting's value is taken for both, or for none
pub id_after_lem :
    {A B : Type 0} (Alike : A → B → Type 0) (c : RegionChange) (x id : A) (y name : B)
    → Alike x y
    → Alike id name
    → Alike (id_after c x id) (id_after c y name)
id_after_lem Alike RegionChange.Nothing x id y name v h = h
id_after_lem Alike RegionChange.Over x id y name v h = h
id_after_lem Alike RegionChange.Id x id y name v h = v
id_after_lem Alike (RegionChange.Width n) x id y name v h = h
id_after_lem Alike (RegionChange.Lines n) x id y name v h = h
id_after_lem Alike (RegionChange.Anchor p) x id y name v h = h
id_after_lem Alike (RegionChange.Viewport p) x id y name v h = h
id_after_lem Alike RegionChange.Scroll x id y name v h = h

-- token after token, as the code takes them
unfoldable pub stepped : {S : Type 0} → (Part → S → S) → S → List Part → S
stepped step s [] = s
stepped step s (t ∷ ts) = stepped step (step t s) ts

-- where one step of the code is one of the definitions, as the code holds it, so is the fold
pub folds_as :
    {A S : Type 0} (f : Part → A → Flagged A) (is : Flagged A → S) (step : Part → S → S)
    → ((t : Part) (v : Flagged A) → step t (is v) ≡ is (record { value = (f t v.value).value; over = v.over || (f t v.value).over }))
    → (v : Flagged A) (ts : List Part)
    → stepped step (is v) ts ≡ is (folded f v ts)
unfolding stepped folded
folds_as f is step e v [] = refl
folds_as f is step e v (t ∷ ts) = ap (λ s. stepped step s ts) (e t v) ∙ folds_as f is step e _ ts
