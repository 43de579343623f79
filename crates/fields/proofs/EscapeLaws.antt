-- Laws of escaped texts, over any table of escapes: what a step gives, and what is left after it.
use Prim.Native.Nat.{ℕ, suc, ◌+◌, ◌≤◌, ◌<◌}
use mathlib.Core.Path.{Path, ◌≡◌, refl, sym, ap, ◌∙◌}
use mathlib.Core.Bool.{Bool, true, false, false≢true}
use mathlib.Core.List.{List, [], ◌∷◌}
use Rattle.std.specs.Prelude.{Option, None, Some, option_map, is_some}
use Rattle.std.specs.Prelude.{Ok, Err}
use Rattle.std.specs.Result.{result_ok}
use Rattle.std.specs.Option.{option_map_or}
use native.Mathlib.Numerals.{add-one}
use native.Mathlib.Omega.{arith}
use lib.Dec.{eqb}
use lib.ListN.{length, get_or, drop, length-drop, drop_of_length-le}
use lib.Seq.{drop-cons, drop-drop}
use borrow.Author.Tests.{eq-eqb, ne_eqb}
use Rattle.format.specs.Bytes.{backslash}
use Rattle.format.specs.Fields.{giving, opens, unescaped_from}
use Rattle.laws.proofs.Tests.{by-test}
use Rattle.fields.specs.Fields.{Step, no_escape, byte_before, escaped_at, step_in, text_of, is_good}
use Rattle.fields.specs.declared.FieldByte.{FieldByte}

-- one byte before what the rest gives
abbrev pub on_text : ℕ → Option (List ℕ) → Option (List ℕ)
on_text b o = option_map (λ x. b ∷ x) o

-- a step goes on inside the field
abbrev pub Moves : List ℕ → ℕ → Step → Type 0
Moves f at (Ok None) = Unit
Moves f at (Err e) = Unit
Moves f at (Ok (Some b)) = (at < b.next) × (b.next ≤ length f)

module _ (table : ℕ → Option ℕ) where
  giving-plain : (b : ℕ) (o : Option (List ℕ)) → eqb b backslash ≡ false → giving table false b o ≡ on_text b o
  unfolding giving
  giving-plain b None e = refl
  giving-plain b (Some x) e = rw e refl

  giving-opens : (b : ℕ) (o : Option (List ℕ)) → eqb b backslash ≡ true → giving table false b o ≡ o
  unfolding giving
  giving-opens b None e = refl
  giving-opens b (Some x) e = rw e refl

  none_given : (t : Option ℕ) → Path (Option (List ℕ)) None (option_map_or (λ c. on_text c None) t None)
  none_given None = refl
  none_given (Some c) = refl

  giving-escaped : (b : ℕ) (o : Option (List ℕ)) → giving table true b o ≡ option_map_or (λ c. on_text c o) (table b) None
  unfolding giving
  giving-escaped b (Some x) = refl
  giving-escaped b None = none_given (table b)

  -- the text that a field stands for, by the step that was made in it
  abbrev pub from_step : List ℕ → Step → Option (List ℕ)
  from_step f (Ok None) = Some []
  from_step f (Err e) = None
  from_step f (Ok (Some b)) = on_text b.value (unescaped_from table false (drop b.next f))

  module _ (f : List ℕ) (at : ℕ) where
    one_more_lem : {b : ℕ} {s : List ℕ} → drop at f ≡ b ∷ s → drop (at + 1) f ≡ s
    one_more_lem e = sym (drop-drop 1 at f) ∙ ap (drop 1) e

    two_more : {b c : ℕ} {s : List ℕ} → drop at f ≡ b ∷ (c ∷ s) → drop (at + 2) f ≡ s
    two_more e = sym (drop-drop 2 at f) ∙ ap (drop 2) e

    by_letter_lem :
        (s : List ℕ) (t : Option ℕ)
        → drop (at + 2) f ≡ s
        → option_map_or (λ c. on_text c (unescaped_from table false s)) t None ≡ from_step f (option_map_or (byte_before (at + 2)) t no_escape)
    by_letter_lem s None e = refl
    by_letter_lem s (Some c) e = rw e refl

    after-backslash : (b : ℕ) (s : List ℕ) → drop at f ≡ b ∷ s → unescaped_from table true s ≡ from_step f (escaped_at table at s)
    unfolding unescaped_from opens
    after-backslash b [] e = refl
    after-backslash b (c ∷ s) e = giving-escaped c (unescaped_from table false s) ∙ by_letter_lem s (table c) (two_more e)

    step_in_lem : (s : List ℕ) → drop at f ≡ s → unescaped_from table false s ≡ from_step f (step_in table at s)
    unfolding unescaped_from opens step_in
    step_in_lem [] e = refl
    step_in_lem (b ∷ s) e =
        by-test (eqb b backslash)
        (λ y. giving-opens b (unescaped_from table (eqb b backslash) s) y ∙ rw y (after-backslash b s e))
        (λ n. giving-plain b (unescaped_from table (eqb b backslash) s) n ∙ rw (n, one_more_lem e) refl)

    letter_moves : (t : Option ℕ) → at + 2 ≤ length f → Moves f at (option_map_or (byte_before (at + 2)) t no_escape)
    letter_moves None h = tt
    letter_moves (Some c) h = (omega arith, h)

    moves_in : (s : List ℕ) → drop at f ≡ s → Moves f at (step_in table at s)
    unfolding step_in
    moves_in [] e = tt
    moves_in (b ∷ s) e =
        by-test (eqb b backslash)
        (λ y. rw y (after s e))
        (λ n. rw n (omega arith, omega (arith, ap length e, length-drop at f)))
      where
        after : (s : List ℕ) → drop at f ≡ b ∷ s → Moves f at (escaped_at table at s)
        after [] e = tt
        after (c ∷ s) e = letter_moves (table c) (omega (arith, ap length e, length-drop at f))

    -- a step by what stands at its place
    pub step_end : length f ≤ at → step_in table at (drop at f) ≡ Ok None
    unfolding step_in
    step_end h = rw (drop_of_length-le f h) refl

    pub step_plain :
        at < length f → (get_or f at 0 ≡ backslash → ⊥) → step_in table at (drop at f) ≡ byte_before (at + 1) (get_or f at 0)
    unfolding step_in
    step_plain l n = rw (drop-cons f at 0 l, ne_eqb (get_or f at 0) backslash n) refl

    pub step_cut : at < length f → get_or f at 0 ≡ backslash → length f ≤ at + 1 → step_in table at (drop at f) ≡ no_escape
    unfolding step_in
    step_cut l e h =
        let cut : drop (suc at) f ≡ [] = drop_of_length-le f {i = suc at} (omega arith) in
        rw (drop-cons f at 0 l, eq-eqb (get_or f at 0) backslash e, cut) refl

    pub step_letter :
        at + 1 < length f
        → get_or f at 0 ≡ backslash
        → step_in table at (drop at f) ≡ option_map_or (byte_before (at + 2)) (table (get_or f (at + 1) 0)) no_escape
    unfolding step_in
    step_letter l e =
        rw
        (drop-cons f at 0 (omega arith), eq-eqb (get_or f at 0) backslash e, add-one at, drop-cons f (suc at) 0 (omega arith))
        refl

    -- the step that was made, and what it says
    pub record Made (step : Step) : Type 0 where
      pub moves : Moves f at step
      pub text : unescaped_from table false (drop at f) ≡ from_step f step

    pub made : {r step : Step} → r ≡ step_in table at (drop at f) → r ≡ step → Made step
    made e k =
        record { moves = rw (sym e ∙ k) at (moves_in (drop at f) refl); text = step_in_lem (drop at f) refl ∙ ap (from_step f) (sym e ∙ k) }

-- what a step gave, from what is left of it without its error
pub came : (step : Step) (b : Option FieldByte) → result_ok step ≡ Some b → step ≡ Ok b
came (Ok c) b e = cc
came (Err x) b e = let z : ◌≡◌ {A = ℕ} 0 1 = cc in absurd (omega arith)

no_byte : (table : ℕ → Option ℕ) (f : List ℕ) (step : Step) → result_ok step ≡ None → from_step table f step ≡ None
no_byte table f (Ok c) e = let z : ◌≡◌ {A = ℕ} 0 1 = cc in absurd (omega arith)
no_byte table f (Err x) e = refl

pub failed :
    (table : ℕ → Option ℕ) (f : List ℕ) (at : ℕ) {r : Step}
    → r ≡ step_in table at (drop at f)
    → result_ok r ≡ None
    → unescaped_from table false (drop at f) ≡ None
failed table f at {r} e k = (made table f at e refl).text ∙ no_byte table f r k

-- a length counted after n bytes, and a byte more in it and in the text
abbrev pub length_after : ℕ → Option (List ℕ) → Option ℕ
length_after n o = option_map (λ x. n + length x) o

pub length_from_lem : (o : Option (List ℕ)) → length_after 0 o ≡ option_map length o
length_from_lem None = refl
length_from_lem (Some x) = ap Some (omega arith)

pub length_more : (n b : ℕ) (o : Option (List ℕ)) → length_after n (on_text b o) ≡ length_after (n + 1) o
length_more n b None = refl
length_more n b (Some x) = ap Some (omega arith)

pub good_more : (b : ℕ) (o : Option (List ℕ)) → is_good (on_text b o) ≡ is_good o
good_more b None = refl
good_more b (Some x) = refl

pub text-more : (b : ℕ) (o : Option (List ℕ)) → is_good o ≡ true → text_of (on_text b o) ≡ b ∷ text_of o
text-more b None e = let z : ◌≡◌ {A = ℕ} 0 1 = cc in absurd (omega arith)
text-more b (Some x) e = refl

-- a field with a length is good, and one without it has no text
pub length_good : (o : Option (List ℕ)) → is_some (option_map length o) ≡ true → is_good o ≡ true
length_good None e = e
length_good (Some x) e = refl

pub length_bad : (o : Option (List ℕ)) → is_some (option_map length o) ≡ false → text_of o ≡ []
length_bad None e = refl
length_bad (Some x) e = absurd (false≢true (sym e))

-- a text is no longer than the field that stands for it
module _ (table : ℕ → Option ℕ) where
  letter_length : (t : Option ℕ) (x : List ℕ) → length (text_of (option_map_or (λ c. Some (c ∷ x)) t None)) ≤ suc (length x)
  letter_length None x = omega arith
  letter_length (Some c) x = omega arith

  giving-length : (escaped : Bool) (b : ℕ) (o : Option (List ℕ)) → length (text_of (giving table escaped b o)) ≤ suc (length (text_of o))
  unfolding giving
  giving-length escaped b None = omega arith
  giving-length true b (Some x) = letter_length (table b) x
  giving-length false b (Some x) = by-test (eqb b backslash) (λ y. rw y (omega arith)) (λ n. rw n (omega arith))

  pub text-length : (escaped : Bool) (f : List ℕ) → length (text_of (unescaped_from table escaped f)) ≤ length f
  unfolding unescaped_from
  text-length true [] = omega arith
  text-length false [] = omega arith
  text-length escaped (b ∷ f) =
      let rest = unescaped_from table (opens escaped b) f in
      omega (arith, giving-length escaped b rest, text-length (opens escaped b) f)
