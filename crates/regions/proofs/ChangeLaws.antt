-- The code's answers for a setting's value give the definition's changes, and its fold over spans is the definition's fold over parts.
use Prim.Native.Nat.{ℕ}
use mathlib.Core.Path.{◌≡◌, refl, sym, ap}
use mathlib.Core.Bool.{false, ◌||◌}
use mathlib.Core.List.{List}
use Rattle.std.specs.Prelude.{Option, None, Some, Result, Ok, Err}
use lib.Dec.{ltb}
use lib.ListN.{get_or}
use Rattle.format.specs.Bytes.{ascii}
use Rattle.format.specs.Texts.{Part, same}
use Rattle.format.specs.Tokens.{Flagged, folded, value_of}
use Rattle.format.specs.CueSettings.{span_is}
use Rattle.format.specs.RegionSettings.{RegionValues, lines_change, region_after, over_region, region_change, region_setting, region_named}
use Rattle.format.specs.declared.regions.RegionChange.{RegionChange}
use Rattle.laws.proofs.Tests.{by-test}
use Rattle.laws.proofs.Runs.{same-is}
use Rattle.laws.proofs.Changes.{id_after_lem, stepped, folds_as}
use Rattle.values.specs.declared.numbers.NumberError.{NumberError}
use Rattle.values.specs.Numbers.{line_count_is}
use Rattle.regions.specs.Changes.{step_is, taken_is}

-- what each answer of the code changes
abbrev pub lines_from : Result ℕ NumberError → RegionChange
lines_from (Err NumberError.Bad) = RegionChange.Nothing
lines_from (Err NumberError.Over) = RegionChange.Over
lines_from (Ok n) = RegionChange.Lines n

pub lines-is : (o : Option ℕ) → lines_change o ≡ lines_from (line_count_is o)
unfolding lines_change
lines-is None = refl
lines-is (Some n) = by-test (ltb 999_999 n) (λ y. rw y) (λ z. rw z)

-- a name that is none of a setting's
pub named_none :
    (name x : List ℕ)
    → same name (ascii "id") ≡ false
    → same name (ascii "width") ≡ false
    → same name (ascii "lines") ≡ false
    → same name (ascii "regionanchor") ≡ false
    → same name (ascii "viewportanchor") ≡ false
    → same name (ascii "scroll") ≡ false
    → RegionChange.Nothing ≡ region_named name x
unfolding region_named
named_none name x id width lines anchor viewport scroll = rw (id, width, lines, anchor, viewport, scroll)

-- a name that differs from a long one, by a byte after the first eight
module _ (s t : List ℕ) where
  other_at : (i : ℕ) → (get_or s i 0 ≡ get_or t i 0 → ⊥) → same s t ≡ false
  other_at i n = by-test (same s t) (λ y. absurd (n (ap (λ x. get_or x i 0) (same-is s t y)))) (λ z. z)

  pub other_at_8 : (get_or s 8 0 ≡ get_or t 8 0 → ⊥) → same s t ≡ false
  other_at_8 = other_at 8

  pub other_at_9 : (get_or s 9 0 ≡ get_or t 9 0 → ⊥) → same s t ≡ false
  other_at_9 = other_at 9

  pub other_at_10 : (get_or s 10 0 ≡ get_or t 10 0 → ⊥) → same s t ≡ false
  other_at_10 = other_at 10

  pub other_at_11 : (get_or s 11 0 ≡ get_or t 11 0 → ⊥) → same s t ≡ false
  other_at_11 = other_at 11

  pub other_at_12 : (get_or s 12 0 ≡ get_or t 12 0 → ⊥) → same s t ≡ false
  other_at_12 = other_at 12

  pub other_at_13 : (get_or s 13 0 ≡ get_or t 13 0 → ⊥) → same s t ≡ false
  other_at_13 = other_at 13

pub ruleset not_long = (other_at_8, other_at_9, other_at_10, other_at_11, other_at_12, other_at_13)

-- one token: of each part that may become the identifier the code has the span
step_is_lem :
    (t : Part) (v : Flagged RegionValues)
    → step_is t (taken_is v) ≡ taken_is (record { value = (region_setting t v.value).value; over = v.over || (region_setting t v.value).over })
unfolding region_setting
step_is_lem t v =
    let h = region_change t in
    ap (λ id. record { region = record { id = id; settings = region_after h v.value.settings }; over = v.over || over_region h })
    (sym (id_after_lem (λ p n. span_is p ≡ n) h (value_of t) v.value.id (span_is (value_of t)) (span_is v.value.id) refl refl))

-- token after token
pub fold_is : (v : Flagged RegionValues) (ts : List Part) → stepped step_is (taken_is v) ts ≡ taken_is (folded region_setting v ts)
fold_is v ts = folds_as region_setting taken_is step_is step_is_lem v ts
