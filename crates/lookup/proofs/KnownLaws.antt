-- Answers that are remembered stay right: where a name is asked for again, where a row is stored, and where a region is added.
use Rattle.std.specs.Prelude.{Option, None, Some}
use Prim.Native.Nat.{ℕ, ◌+◌, ◌≤◌, ◌<◌}
use mathlib.Core.Path.{◌≡◌, refl, sym, ap, ◌∙◌}
use mathlib.Core.Bool.{true}
use mathlib.Core.List.{List, [], ◌∷◌}
use native.Mathlib.Omega.{arith}
use lib.Dec.{eqb}
use lib.ListN.{length, take, get_or, set, replicate, length-set, length-replicate, get_or-replicate}
use lib.Seq.{take_all, take-length, take-take, take-set-le, length-take-le, get_or-set_same, get_or-set_other}
use borrow.Author.Tests.{eqb-true, eqb-false}
use Rattle.format.specs.Texts.{is_empty, same, bytes_at}
use Rattle.format.specs.Writable.{last_of_its_name, names_of}
use Rattle.format.specs.Replacing.{region_asked}
use Rattle.format.specs.LookingUp.{look_up}
use Rattle.format.specs.declared.settings.Span.{Span}
use Rattle.laws.proofs.Tests.{by-test}
use Rattle.laws.proofs.Runs.{same-is}
use Rattle.laws.proofs.LookingUp.{look_up-named}
use Rattle.values.proofs.NumberLaws.{empty_is, is_empty-not}
use Rattle.lookup.specs.Known.{asked_at, known_count, known_name, known_index, known_words, Right, Every, AllRight, KnownLast, AllLast}

-- a list of one element over and over, and a list with one element stored
module _ {A : Type 0} (P : A → Type 0) (d : A) where
  every_same : (n : ℕ) (a : A) → P a → Every P d (replicate n a)
  every_same n a h i below = rw (get_or-replicate n i a d (omega (arith, length-replicate n a))) h

  pub every_set : (l : List A) (p : ℕ) (a : A) → p < length l → Every P d l → P a → Every P d (set l p a)
  every_set l p a inside all h i below =
      by-test (eqb i p)
      (λ y. let e = eqb-true i p y in rw (e, get_or-set_same l p a d inside) h)
      (λ n. rw (get_or-set_other l p i a d (eqb-false i p n)) (all i (omega (arith, length-set l p a))))

-- the bytes of a name
abbrev name_at : List ℕ → Span → List ℕ
name_at s name = bytes_at s name.from name.to

words_index : (n : ℕ) (name : Span) (i : Option ℕ) → known_index (known_words n name i) ≡ i
words_index n name None = refl
words_index n name (Some i) = refl

module _ (s : List ℕ) (rows : List (List ℕ)) where
  module _ (name : Span) where
    -- an empty name asks for none
    pub asked-none : length (name_at s name) ≡ 0 → None ≡ asked_at s rows name
    unfolding region_asked
    asked-none e = rw (empty_is (name_at s name) e) refl

    -- any other asks for what the look-up finds
    pub asked-found : (length (name_at s name) ≡ 0 → ⊥) → (look_up (name_at s name) (names_of s rows)).index ≡ asked_at s rows name
    unfolding region_asked
    asked-found some = rw (is_empty-not (name_at s name) (omega arith)) (look_up-named (name_at s name) (names_of s rows))

    -- what is remembered of the same name among the same regions is said again
    pub known_again : (k : List ℕ) → Right s rows k → known_count k ≡ length rows → same (name_at s (known_name k)) (name_at s name) ≡ true → known_index k ≡ asked_at s rows name
    known_again k right all alike =
        sym right.says
        ∙ ap (λ r. asked_at s r (known_name k)) (take_all (known_count k) rows (omega arith))
        ∙ ap (λ x. (region_asked (names_of s rows) x)) (same-is (name_at s (known_name k)) (name_at s name) alike)

    -- a new row is right
    pub right_new : Right s rows (known_words (length rows) name (asked_at s rows name))
    right_new =
        record {
          among = omega arith;
          says = ap (λ r. asked_at s r name) (take-length rows) ∙ sym (words_index (length rows) name (asked_at s rows name));
        }

-- rows of zeros are right among any regions
abbrev zeros : List ℕ
zeros = 0 ∷ 0 ∷ 0 ∷ 0 ∷ 0 ∷ []

pub right_none : (s : List ℕ) (rows : List (List ℕ)) (n : ℕ) → AllRight s rows (replicate n zeros)
unfolding region_asked bytes_at is_empty
right_none s rows n = every_same (Right s rows) [] n zeros (record { among = omega arith; says = refl })

-- rows that are right stay so where a region is stored after the first n
pub right_grown :
    (s : List ℕ) (rows known : List (List ℕ)) (n : ℕ) (r : List ℕ)
    → n < length rows
    → AllRight s (take n rows) known
    → AllRight s (take (n + 1) (set rows n r)) known
right_grown s rows known n r inside all i below =
    let k = get_or known i [] in
    let right = all i below in
    let few : known_count k ≤ n = omega (arith, right.among, length-take-le n rows (omega arith)) in
    let size : length (take (n + 1) (set rows n r)) ≡ n + 1 = length-take-le (n + 1) (set rows n r) (omega (arith, length-set rows n r)) in
    let first : take (known_count k) (take (n + 1) (set rows n r)) ≡ take (known_count k) (take n rows) =
    take-take (known_count k) (n + 1) (set rows n r) (omega arith)
    ∙ take-set-le (known_count k) rows n r few
    ∙ sym (take-take (known_count k) n rows few) in
    record { among = omega arith; says = ap (λ l. asked_at s l (known_name k)) first ∙ right.says }

-- where no index is remembered, nothing is said
pub last_none : (names : List (List ℕ)) (n : ℕ) → AllLast names (replicate n 0)
last_none names n = every_same (KnownLast names) 0 n 0 (λ i e. absurd (omega arith))

pub last_new : (names : List (List ℕ)) (index : ℕ) → last_of_its_name names index ≡ true → KnownLast names (index + 1)
last_new names index is i e = let k : i ≡ index = omega arith in rw k is
