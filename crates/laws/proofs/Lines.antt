-- Lines: a text is its lines joined, and repair works line by line.
use Prim.Native.Nat.{ℕ}
use mathlib.Core.Path.{◌≡◌, refl, sym, ap, ◌∙◌}
use mathlib.Core.Bool.{Bool, true, not, ◌&&◌}
use mathlib.Core.List.{List, [], ◌∷◌, ◌++◌, map, append-nil}
use native.Mathlib.Omega.{arith}
use lib.Dec.{eqb}
use borrow.Author.Tests.{eqb-true, not-true}
use Rattle.format.specs.Bytes.{lf}
use Rattle.format.specs.Plain.{drop_bom, newlines, repair, to_plain, plain_text}
use Rattle.format.specs.Lines.{on_first, before, split_list_at, split, after_line_ends, join}
use Rattle.laws.proofs.Tests.{and_left, and_right, by-test, absent}
use Rattle.laws.proofs.Repair.{repair_line, repair_absent}

-- none of these lines holds LF
unfoldable pub unbroken : List (List ℕ) → Bool
unbroken [] = true
unbroken (l ∷ ls) = absent lf l && unbroken ls

pub split_line : (l t : List ℕ) → absent lf l ≡ true → split (l ++ lf ∷ t) ≡ l ∷ split t
unfolding split_list_at before absent on_first
split_line [] t a = refl
split_line (b ∷ l) t a =
    rw
    (not-true (eqb b lf) (and_left (not (eqb b lf)) (absent lf l) a), split_line l t (and_right (not (eqb b lf)) (absent lf l) a))

pub split-last : (l : List ℕ) → absent lf l ≡ true → split l ≡ l ∷ []
unfolding split_list_at before absent on_first
split-last [] a = refl
split-last (b ∷ l) a =
    rw (not-true (eqb b lf) (and_left (not (eqb b lf)) (absent lf l) a), split-last l (and_right (not (eqb b lf)) (absent lf l) a))

-- lines joined are split into the same lines
pub split-join : (l : List ℕ) (ls : List (List ℕ)) → unbroken (l ∷ ls) ≡ true → split (join (l ∷ ls)) ≡ l ∷ ls
unfolding join after_line_ends unbroken
split-join l [] a = rw (append-nil l) (split-last l (and_left (absent lf l) true a))
split-join l (m ∷ ms) a =
    split_line l (m ++ after_line_ends ms) (and_left (absent lf l) (unbroken (m ∷ ms)) a)
    ∙ ap (λ r. l ∷ r) (split-join m ms (and_right (absent lf l) (unbroken (m ∷ ms)) a))

-- a text's first line and the others
pub record Split (s : List ℕ) : Type 0 where
  pub first : List ℕ
  pub rest : List (List ℕ)
  pub is : split s ≡ first ∷ rest
  pub joined : join (first ∷ rest) ≡ s
  pub whole : unbroken (first ∷ rest) ≡ true

pub splits : (s : List ℕ) → Split s
unfolding split_list_at before join after_line_ends unbroken absent on_first
splits [] = record { first = []; rest = []; is = refl; joined = refl; whole = refl }
splits (b ∷ s) =
    let t = splits s in
    by-test (eqb b lf)
    (λ y. record {
      first = [];
      rest = t.first ∷ t.rest;
      is = rw (y, t.is);
      joined = rw (eqb-true b lf y) (ap (λ r. lf ∷ r) t.joined);
      whole = t.whole;
    })
    (λ n. record {
      first = b ∷ t.first;
      rest = t.rest;
      is = rw (n, t.is);
      joined = ap (λ r. b ∷ r) t.joined;
      whole = rw n t.whole;
    })

repair-lines : (l : List ℕ) (ls : List (List ℕ)) → unbroken (l ∷ ls) ≡ true → split (repair (join (l ∷ ls))) ≡ map repair (l ∷ ls)
unfolding join after_line_ends unbroken
repair-lines l [] a =
    rw (append-nil l) (split-last (repair l) (repair_absent lf 0 l (omega arith) (and_left (absent lf l) true a)))
repair-lines l (m ∷ ms) a =
    ap split (repair_line l (m ++ after_line_ends ms))
    ∙ split_line (repair l) (repair (m ++ after_line_ends ms)) (repair_absent lf 0 l (omega arith) (and_left (absent lf l) (unbroken (m ∷ ms)) a))
    ∙ ap (λ r. repair l ∷ r) (repair-lines m ms (and_right (absent lf l) (unbroken (m ∷ ms)) a))

pub split-repair : (s : List ℕ) → split (repair s) ≡ map repair (split s)
split-repair s =
    let t = splits s in
    ap (λ r. split (repair r)) (sym t.joined) ∙ repair-lines t.first t.rest t.whole ∙ ap (map repair) (sym t.is)

-- the lines of a plain text are the repaired lines of its file
pub split-plain_text : (raw : List ℕ) → split (plain_text raw) ≡ map repair (split (newlines (drop_bom raw)))
unfolding plain_text to_plain
split-plain_text raw = split-repair (newlines (drop_bom raw))
