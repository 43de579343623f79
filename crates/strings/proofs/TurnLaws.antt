-- What the two loops keep from byte to byte, and that a turn keeps it.
use Prim.Native.Nat.{ℕ, ◌+◌, ◌≤◌, ◌<◌}
use mathlib.Core.Path.{◌≡◌, sym, ap}
use mathlib.Core.Bool.{Bool, true, false, cond, false≢true}
use mathlib.Core.List.{List, [], ◌∷◌}
use native.Mathlib.Omega.{arith}
use lib.Dec.{eqb, ltb}
use lib.ListN.{length, get_or, get_or-eq_default, drop, drop_of_length-le}
use lib.Seq.{drop-cons}
use borrow.Author.Tests.{lt-ltb, ltb-true, ltb-false}
use Rattle.format.specs.Bytes.{semicolon}
use Rattle.format.specs.Texts.{starts_with, bytes_at}
use Rattle.laws.proofs.Tests.{by-test, and-true}
use Rattle.format.specs.CueText.{escaped, collapsed}
use Rattle.tokenizer.specs.Decoding.{decoded_from, decoded}
use Rattle.strings.specs.Stores.{Stores, separates, one}
use Rattle.strings.specs.Turns.{piece_end, escapes, word, left}
use Rattle.strings.proofs.StoreLaws.{Storing, storing_none, storing_next, storing_same, storing_end}
use Rattle.strings.proofs.TextLaws.{
  part_length,
  escaped-length,
  piece-within,
  piece_escape,
  piece-plain,
  collapse_start,
  collapse_separator,
  collapse_word,
  collapse_end,
  word-length,
}

-- a byte of a text by its place, or as what the text goes on with
pub semicolon_at : (s : List ℕ) (at : ℕ) → starts_with (semicolon ∷ []) (drop at s) ≡ eqb (get_or s at 0) semicolon
unfolding starts_with
semicolon_at s at =
    by-test (ltb at (length s))
    (λ y. rw (drop-cons s at 0 (ltb-true at (length s) y), and-true))
    (λ n. let l = ltb-false at (length s) n in rw (drop_of_length-le s l, get_or-eq_default s 0 {n = at} l))

-- decoding: what was put is no longer than the pieces that were passed
pub record Decoding (s : List ℕ) (at : ℕ) (room₀ room : List ℕ) (i n : ℕ) : Type 0 where
  pub within : i ≤ length s
  pub short : n ≤ at + i
  pub storing : Storing (decoded s) (decoded (drop i s)) at room₀ n room

module _ (s : List ℕ) (at : ℕ) (room₀ : List ℕ) where
  pub decoding_starts : Decoding s at room₀ room₀ 0 at
  decoding_starts = record { within = omega arith; short = omega arith; storing = storing_none (decoded s) at room₀ }

  module _ (room : List ℕ) (i n : ℕ) (f : Decoding s at room₀ room i n) where
    module _ {r : List ℕ} {m end : ℕ} (l : i < length s) (is : end ≡ piece_end s i) where
      pub escape_put : escapes s i end ≡ true → Stores (escaped (bytes_at s i end)) n room m r → Decoding s at room₀ r (end + 1) m
      escape_put e g =
          let in-text = piece-within s i end l is in
          let turn = piece_escape s i end l is e in
          let size = part_length s i end (omega arith) in-text.1 in
          record {
            within = omega arith;
            short = omega (arith, g.place, f.short, escaped-length (bytes_at s i end));
            storing = storing_next f.storing turn.1 g;
          }

      pub plain_put : escapes s i end ≡ false → Stores (bytes_at s i end) n room m r → Decoding s at room₀ r end m
      plain_put e g =
          let in-text = piece-within s i end l is in
          let size = part_length s i end (omega arith) in-text.1 in
          record {
            within = in-text.1;
            short = omega (arith, g.place, f.short);
            storing = storing_next f.storing (piece-plain s i end l is e) g;
          }

    pub decoding_ends : length s ≤ i → Stores (decoded s) at room₀ n room
    unfolding decoded decoded_from
    decoding_ends l = storing_end (storing_same f.storing (ap decoded (drop_of_length-le s l)))

-- collapsing: a gap stands open only after a word, and what was put is no longer than what was passed, an open gap's separator counted
pub record Collapsing (s : List ℕ) (stops : Bool) (at : ℕ) (room₀ room : List ℕ) (i n : ℕ) (gap : Bool) : Type 0 where
  pub within : i ≤ length s
  pub beyond : at ≤ n
  pub short : n + cond gap 1 0 ≤ at + i
  pub opens : gap ≡ true → at < n
  pub storing : Storing (collapsed (separates stops) (one stops) s) (left (separates stops) (one stops) gap (ltb at n) (drop i s)) at room₀ n room

at_most_one : (t : Bool) → cond t 1 0 ≤ 1
at_most_one true = omega arith
at_most_one false = omega arith

module _ (s : List ℕ) (stops : Bool) (at : ℕ) (room₀ : List ℕ) where
  pub collapsing-starts : Collapsing s stops at room₀ room₀ 0 at false
  collapsing-starts =
      record {
        within = omega arith;
        beyond = omega arith;
        short = omega arith;
        opens = λ e. absurd (false≢true e);
        storing = storing_same (storing_none (collapsed (separates stops) (one stops) s) at room₀) (sym (collapse_start (separates stops) (one stops) at s));
      }

  module _ (room : List ℕ) (i n : ℕ) (gap : Bool) (f : Collapsing s stops at room₀ room i n gap) where
    pub separator_passed : i < length s → separates stops (get_or s i 0) ≡ true → Collapsing s stops at room₀ room (i + 1) n (ltb at n)
    separator_passed l e =
        record {
          within = omega arith;
          beyond = f.beyond;
          short = omega (arith, f.short, at_most_one gap, at_most_one (ltb at n));
          opens = ltb-true at n;
          storing = storing_same f.storing (collapse_separator (separates stops) (one stops) s i l gap (ltb at n) e (λ g. lt-ltb at n (f.opens g)));
        }

    pub word_put :
        {r : List ℕ} {m : ℕ}
        → i < length s
        → separates stops (get_or s i 0) ≡ false
        → Stores (word gap (one stops) (get_or s i 0)) n room m r
        → Collapsing s stops at room₀ r (i + 1) m false
    word_put {r} {m} l e g =
        let more : m ≡ n + (cond gap 1 0 + 1) = rw (sym (word-length gap (one stops) (get_or s i 0))) g.place in
        let above : ltb at m ≡ true = lt-ltb at m (omega (arith, f.beyond)) in
        record {
          within = omega arith;
          beyond = omega (arith, f.beyond);
          short = omega (arith, f.short);
          opens = λ t. absurd (false≢true t);
          storing = rw above (storing_next f.storing (collapse_word (separates stops) (one stops) s i l gap (ltb at n) e) g);
        }

    pub collapsing-ends : length s ≤ i → Stores (collapsed (separates stops) (one stops) s) at room₀ n room
    collapsing-ends l = storing_end (storing_same f.storing (collapse_end (separates stops) (one stops) s i gap (ltb at n) l))
