-- Laws of a region's name: where it stands, and whether the region is the last with it.
use Rattle.std.specs.Prelude.{Option}
use Prim.Native.Nat.{ℕ, ◌≤◌, ◌<◌}
use mathlib.Core.Path.{◌≡◌, sym}
use mathlib.Core.Bool.{false}
use mathlib.Core.List.{List, []}
use native.Mathlib.Omega.{arith}
use lib.ListN.{length, get_or, length-map, get_or-map}
use borrow.Author.Tests.{lt-ltb, le-ltb}
use Rattle.format.specs.Contents.{region_of_entry, region_of_row}
use Rattle.format.specs.Texts.{same, bytes_at}
use Rattle.format.specs.Writable.{is_index, last_of_its_name, names_of}
use Rattle.format.specs.LookingUp.{look_up}
use Rattle.laws.proofs.Tests.{by-test}
use Rattle.laws.proofs.Runs.{same-is}
use Rattle.laws.proofs.LookingUp.{look_up-named}
use Rattle.values.proofs.NumberLaws.{empty_is, is_empty-not}

-- texts that differ are not the same
pub differ : (a b : List ℕ) → (a ≡ b → ⊥) → same a b ≡ false
differ a b other = by-test (same a b) (λ y. absurd (other (same-is a b y))) (λ n. n)

-- the name of a region's row
abbrev pub name_at : List ℕ → List ℕ → List ℕ
name_at s row = (region_of_row s row).id

-- as many names as rows
pub names_length : (s : List ℕ) (rows : List (List ℕ)) → length rows ≡ length (names_of s rows)
names_length s rows = sym (length-map rows (name_at s))

pub name_at_lem : (s : List ℕ) (rows : List (List ℕ)) (i : ℕ) → get_or (names_of s rows) i [] ≡ name_at s (get_or rows i [])
unfolding bytes_at region_of_entry
name_at_lem s rows i = get_or-map (name_at s) rows i []

module _ (s : List ℕ) (rows : List (List ℕ)) (i : ℕ) where
  pub no_region_lem : length rows ≤ i → false ≡ last_of_its_name (names_of s rows) i
  unfolding last_of_its_name
  no_region_lem l = rw (le-ltb i (length (names_of s rows)) (omega (arith, names_length s rows)))

  module _ (inside : i < length rows) where
    pub no_name : length (name_at s (get_or rows i [])) ≡ 0 → false ≡ last_of_its_name (names_of s rows) i
    unfolding last_of_its_name
    no_name e =
        rw (
          lt-ltb i (length (names_of s rows)) (omega (arith, names_length s rows)),
          name_at_lem s rows i,
          empty_is (name_at s (get_or rows i [])) e,
        )

    -- the look-up's answer decides
    pub last-is :
        (length (name_at s (get_or rows i [])) ≡ 0 → ⊥)
        → (found : Option ℕ)
        → found ≡ (look_up (name_at s (get_or rows i [])) (names_of s rows)).index
        → is_index found i ≡ last_of_its_name (names_of s rows) i
    unfolding last_of_its_name
    last-is f found e =
        let name = name_at s (get_or rows i []) in
        rw (
          lt-ltb i (length (names_of s rows)) (omega (arith, names_length s rows)),
          name_at_lem s rows i,
          is_empty-not name (omega arith),
          e,
          look_up-named name (names_of s rows),
        )
