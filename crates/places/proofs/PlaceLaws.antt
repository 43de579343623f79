-- Where a raw line starts and ends, as a loop goes over the bytes.
use Prim.Native.Nat.{ℕ, zero, suc, ◌+◌, ◌≤◌, ◌<◌}
use mathlib.Core.Path.{◌≡◌, refl, sym, ap}
use mathlib.Core.Bool.{Bool, cond}
use mathlib.Core.List.{List, [], ◌∷◌}
use native.Mathlib.Numerals.{add-one}
use native.Mathlib.Omega.{arith}
use lib.Dec.{eqb}
use lib.ListN.{length, get_or, take, drop, drop_of_length-le}
use lib.Seq.{drop-cons, drop-drop, take-nil}
use borrow.Author.Tests.{ne_eqb}
use Rattle.format.specs.Bytes.{lf, cr}
use Rattle.format.specs.Texts.{starts_with}
use Rattle.format.specs.Replacing.{RawLine, empty_line, on_raw_line, on_ending, before_lines, raw_lines, raw_bytes, raw_start, raw_end}
use Rattle.laws.proofs.Tests.{by-test}
use Rattle.replaced.proofs.RawLines.{lf-first}
use Rattle.places.specs.Places.{ends_line}

-- line n of ls is line m of ms, and starts one byte later
record Later (ls ms : List RawLine) (n m : ℕ) : Type 0 where
  start : length (raw_bytes (take n ls)) ≡ suc (length (raw_bytes (take m ms)))
  line : get_or ls n (empty_line []) ≡ get_or ms m (empty_line [])

later_on : (b : ℕ) (ls : List RawLine) (n : ℕ) → Later (on_raw_line b ls) ls (suc n) (suc n)
unfolding on_raw_line raw_bytes
later_on b [] n = record { start = rw (take-nil n); line = refl }
later_on b (l ∷ ls) n = record { start = refl; line = refl }

-- which line of the bytes s is line n + 1, where b stands before them
abbrev line_in : ℕ → List ℕ → ℕ → ℕ
line_in b s n = cond (ends_line b s) n (suc n)

line_in_add : (b : ℕ) (s : List ℕ) (n k : ℕ) → line_in b s (n + k) ≡ line_in b s n + k
line_in_add b s n k = by-test (ends_line b s) (λ y. rw y) (λ z. rw z (omega arith))

later : (b : ℕ) (s : List ℕ) (n : ℕ) → Later (raw_lines (b ∷ s)) (raw_lines s) (suc n) (line_in b s n)
unfolding raw_lines before_lines on_ending raw_bytes ends_line
later b s n =
    by-test (eqb b lf)
    (λ y. rw y (record { start = refl; line = refl }))
    (λ z. by-test (eqb b cr)
    (λ y. by-test (starts_with (lf ∷ []) s)
    (λ w. rw (z, y, w, lf-first s w) (record { start = refl; line = refl }))
    (λ w. rw (z, y, w) (record { start = refl; line = refl })))
    (λ y. rw (z, y) (later_on b (raw_lines s) n)))

start-later : (b : ℕ) (s : List ℕ) (n : ℕ) → raw_start (b ∷ s) (suc n) ≡ suc (raw_start s (line_in b s n))
unfolding raw_start
start-later b s n = (later b s n).start

end_later : (b : ℕ) (s : List ℕ) (n : ℕ) → raw_end (b ∷ s) (suc n) ≡ suc (raw_end s (line_in b s n))
unfolding raw_end
end_later b s n = rw (start-later b s n, (later b s n).line) (omega arith)

pub start-zero : (s : List ℕ) (n : ℕ) → n ≡ 0 → raw_start s n ≡ 0
unfolding raw_start raw_bytes
start-zero s n e = rw e

start-nothing : (n : ℕ) → raw_start [] n ≡ 0
unfolding raw_start raw_lines raw_bytes
start-nothing zero = refl
start-nothing (suc n) = rw (take-nil n)

end-nothing : (n : ℕ) → raw_end [] n ≡ 0
unfolding raw_end raw_lines
end-nothing zero = omega (arith, start-nothing 0)
end-nothing (suc n) = omega (arith, start-nothing (suc n))

-- the line k lines after line n, sought from where line n starts
pub end_from : (raw : List ℕ) (n k : ℕ) → raw_start raw n + raw_end (drop (raw_start raw n) raw) k ≡ raw_end raw (n + k)
end_from [] n k = rw (start-nothing n, end-nothing (n + k), end-nothing k)
end_from (b ∷ s) zero k = let e : 0 + k ≡ k = omega arith in rw (start-zero (b ∷ s) 0 refl, e) (omega arith)
end_from (b ∷ s) (suc n) k =
    let e : suc n + k ≡ suc (n + k) = omega arith in
    rw (e, start-later b s n, end_later b s (n + k), line_in_add b s n k) (omega (arith, end_from s (line_in b s n) k))

-- the line n lines after the one at a place, from where it starts, is the first line of the rest
pub end_from_start :
    (raw : List ℕ) (from n : ℕ)
    → let i = from + raw_start (drop from raw) n in i + raw_end (drop i raw) 0 ≡ from + raw_end (drop from raw) n
end_from_start raw from n =
    let e : n + 0 ≡ n = omega arith in
    let s = drop from raw in
    rw (sym (drop-drop (raw_start s n) from raw)) (omega (arith, end_from s n 0, ap (raw_end s) e))

-- a byte more in the first line
first_on :
    (b : ℕ) (ls : List RawLine)
    → length (get_or (on_raw_line b ls) 0 (empty_line [])).bytes ≡ suc (length (get_or ls 0 (empty_line [])).bytes)
unfolding on_raw_line
first_on b [] = refl
first_on b (l ∷ ls) = refl

-- at a place of a raw file: where the line n lines ahead starts, and where the line that goes on there ends
module _ (raw : List ℕ) (i : ℕ) where
  module _ (l : i < length raw) where
    pub start-next :
        (n m : ℕ)
        → n ≡ m + 1
        → (t : Bool)
        → ends_line (get_or raw i 0) (drop (i + 1) raw) ≡ t
        → raw_start (drop i raw) n ≡ suc (raw_start (drop (i + 1) raw) (cond t m n))
    start-next n m k t e = rw (k, sym e, add-one i, add-one m, drop-cons raw i 0 l) (start-later (get_or raw i 0) (drop (suc i) raw) m)

    pub end-lf : get_or raw i 0 ≡ lf → raw_end (drop i raw) 0 ≡ 0
    unfolding raw_end raw_start raw_lines before_lines raw_bytes
    end-lf e = rw (drop-cons raw i 0 l, e)

    pub end-cr : get_or raw i 0 ≡ cr → raw_end (drop i raw) 0 ≡ 0
    unfolding raw_end raw_start raw_lines before_lines raw_bytes on_ending
    end-cr e =
        rw (drop-cons raw i 0 l, e)
        (by-test (starts_with (lf ∷ []) (drop (suc i) raw))
        (λ y. rw (y, lf-first (drop (suc i) raw) y))
        (λ n. rw n))

    pub end-next : (get_or raw i 0 ≡ lf → ⊥) → (get_or raw i 0 ≡ cr → ⊥) → raw_end (drop i raw) 0 ≡ suc (raw_end (drop (i + 1) raw) 0)
    unfolding raw_end raw_start raw_lines before_lines raw_bytes
    end-next n z =
        rw (add-one i, drop-cons raw i 0 l, ne_eqb (get_or raw i 0) lf n, ne_eqb (get_or raw i 0) cr z)
        (omega (arith, first_on (get_or raw i 0) (raw_lines (drop (suc i) raw))))

  pub start-end : (n : ℕ) → length raw ≤ i → raw_start (drop i raw) n ≡ 0
  start-end n l = rw (drop_of_length-le raw l) (start-nothing n)

  pub end-end : length raw ≤ i → raw_end (drop i raw) 0 ≡ 0
  end-end l = rw (drop_of_length-le raw l) (end-nothing 0)
