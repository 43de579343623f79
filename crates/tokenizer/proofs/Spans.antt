-- Parts of a text by their places, and the tags and strings that they stand for.
use Prim.Native.Nat.{ℕ, suc, ◌+◌, ◌-◌, ◌≤◌, ◌<◌}
use mathlib.Core.Path.{◌≡◌, refl, sym, ap, ◌∙◌}
use mathlib.Core.Bool.{true, false, not, false≢true}
use mathlib.Core.List.{List, [], ◌∷◌}
use native.Mathlib.Omega.{arith}
use lib.Dec.{eqb}
use lib.ListN.{length, get_or, take, drop}
use lib.Seq.{take-take, length-take-le, get_or-take}
use borrow.Author.Tests.{eq-eqb, ne_eqb, lt-ltb, le-ltb}
use Rattle.std.specs.Prelude.{None}
use Rattle.format.specs.Bytes.{full_stop, solidus, less, digit}
use Rattle.format.specs.Texts.{run, past_run, bytes_at}
use Rattle.format.specs.CueText.{blank, cue_tokens}
use Rattle.laws.proofs.Tests.{by-test}
use Rattle.laws.proofs.Runs.{RunAt, drop-first, run_at, run-first, run-after, run-moves, drop-take}
use Rattle.tokenizer.specs.Tags.{in_name, token_is, start_of, tag_of, PartsIn, StartAt, TagAt, Marked, TokenAt, start_told, tag_is, string_to, tag_to, after_tag, stepped, step_is}
use Rattle.tokenizer.specs.declared.Token.{Token}
use Rattle.tokenizer.proofs.Strings.{not_less, string_token_lem}
use Rattle.tokenizer.proofs.Tags.{not_greater, name-blank, name_other, tag_token}

-- the bytes up to a place of a text, as a text of their own
module _ (s : List ℕ) (to : ℕ) where
  pub tail_part : (from : ℕ) → drop from (take to s) ≡ bytes_at s from to
  unfolding bytes_at
  tail_part from = drop-take from to s

  pub part_in : (from end : ℕ) → end ≤ to → bytes_at (take to s) from end ≡ bytes_at s from end
  unfolding bytes_at
  part_in from end h = rw (drop-take from to s) (take-take (end - from) (to - from) (drop from s) (omega arith))

-- a byte that ends a name and goes on with the classes is a full stop
stop_byte : (c : ℕ) → in_name true c ≡ false → in_name false c ≡ true → eqb c full_stop ≡ true
stop_byte c n y =
    by-test (blank c)
    (λ b. absurd (false≢true (sym (name-blank false c b) ∙ y)))
    (λ b. by-test (eqb c full_stop) (λ z. z) (λ z. absurd (false≢true (sym n ∙ name_other c b z))))

module _ (s : List ℕ) (from to n w : ℕ) (h : from ≤ to) (l : to ≤ length s)
    (en : n ≡ from + length (run (in_name true) (drop from (take to s))))
    (ew : w ≡ n + length (run (in_name false) (drop n (take to s)))) where
  abbrev b : List ℕ
  b = take to s

  long : length b ≡ to
  long = length-take-le to s l

  names : RunAt (in_name true) b from n
  names = run_at (in_name true) b from n (omega (arith, long)) en

  classes : RunAt (in_name false) b n w
  classes = run_at (in_name false) b n w (omega (arith, names.inside)) ew

  x≡ : drop from b ≡ bytes_at s from to
  x≡ = tail_part s to from

  named : run (in_name true) (bytes_at s from to) ≡ bytes_at s from n
  unfolding bytes_at
  named = ap (run (in_name true)) (sym x≡) ∙ names.bytes ∙ part_in s to from n (omega (arith, names.inside, long))

  after-name : past_run (in_name true) (bytes_at s from to) ≡ drop n b
  after-name = ap (past_run (in_name true)) (sym x≡) ∙ names.past

  classed : run (in_name false) (drop n b) ≡ bytes_at s n w
  unfolding bytes_at
  classed = classes.bytes ∙ part_in s to n w (omega (arith, classes.inside, long))

  after-classes : past_run (in_name false) (drop n b) ≡ bytes_at s w to
  after-classes = classes.past ∙ tail_part s to w

  abbrev start : Token
  start = Token.Start (record { from = from; to = n }) (record { from = n; to = w }) (record { from = w; to = to })

  start_is : token_is s start ≡ start_of [] (bytes_at s from to)
  unfolding token_is start_of
  start_is = rw (named, after-name, classed, after-classes)

  stops : n < w → eqb (get_or s n 0) full_stop ≡ true
  stops m =
      let inside : n < length b = omega (arith, classes.inside) in
      let same : get_or b n 0 ≡ get_or s n 0 = get_or-take to s n 0 (omega (arith, long)) in
      stop_byte (get_or s n 0)
      (rw same at (run-after (in_name true) b from n names inside))
      (rw same at (run-first (in_name false) b n w classes m))

  pub start_at : StartAt s from to start
  start_at =
      record {
        is = start_is;
        parts =
            record {
              first = omega arith;
              named = names.from;
              between = refl;
              classed = classes.from;
              beyond = refl;
              annotated = omega (arith, classes.inside, long);
              last = omega arith;
              inside = l;
              stop = stops;
            };
      }

-- what a tag begins with
module _ (s : List ℕ) (from to : ℕ) (h : from < to) (l : to ≤ length s) where
  pub part-first : bytes_at s from to ≡ get_or s from 0 ∷ bytes_at s (from + 1) to
  unfolding bytes_at
  part-first =
      let e : to - from ≡ suc (to - (from + 1)) = omega arith in
      rw (e, drop-first s from (omega arith))

  pub end_at_lem : get_or s from 0 ≡ solidus → TagAt s from to (Token.End (record { from = from + 1; to = to }))
  unfolding token_is tag_of
  end_at_lem e =
      record {
        is = rw (part-first, eq-eqb (get_or s from 0) solidus e);
        parts = record { first = omega arith; ends = omega arith; last = omega arith; inside = l };
      }

  pub timestamp_at : (get_or s from 0 ≡ solidus → ⊥) → digit (get_or s from 0) ≡ true → TagAt s from to (Token.Timestamp (record { from = from; to = to }))
  unfolding token_is tag_of
  timestamp_at n d =
      record {
        is = rw (part-first, ne_eqb (get_or s from 0) solidus n, d);
        parts = record { first = omega arith; ends = omega arith; last = omega arith; inside = l };
      }

  pub other_at : (get_or s from 0 ≡ solidus → ⊥) → digit (get_or s from 0) ≡ false → tag_of (bytes_at s from to) ≡ start_of [] (bytes_at s from to)
  unfolding tag_of
  other_at n d = rw (part-first, ne_eqb (get_or s from 0) solidus n, d)

pub nothing_at : (s : List ℕ) (from to : ℕ) → to ≤ from → tag_of (bytes_at s from to) ≡ start_of [] (bytes_at s from to)
unfolding tag_of bytes_at
nothing_at s from to h = let e : to - from ≡ 0 = omega arith in rw e

-- parts that lie between two places lie between wider ones
pub wider :
    (s : List ℕ) (t : Token) (from' from to to' : ℕ)
    → from' ≤ from
    → to ≤ to'
    → to' ≤ length s
    → PartsIn s from to t
    → PartsIn s from' to' t
wider s (Token.String p) a b c d f g h k = record { first = omega (arith, k.first); ends = k.ends; last = omega (arith, k.last); inside = h }
wider s (Token.Start n q r) a b c d f g h k =
    record {
      first = omega (arith, k.first);
      named = k.named;
      between = k.between;
      classed = k.classed;
      beyond = k.beyond;
      annotated = k.annotated;
      last = omega (arith, k.last);
      inside = h;
      stop = k.stop;
    }
wider s (Token.End p) a b c d f g h k = record { first = omega (arith, k.first); ends = k.ends; last = omega (arith, k.last); inside = h }
wider s (Token.Timestamp p) a b c d f g h k = record { first = omega (arith, k.first); ends = k.ends; last = omega (arith, k.last); inside = h }

marks :
    (s : List ℕ) (t : Token) (at to next : ℕ)
    → (next < length s → to < next)
    → PartsIn s (at + 1) to t
    → Marked s at next t
marks s (Token.String p) at to next h k = tt
marks s (Token.Start n q r) at to next h k = (omega (arith, k.first), λ l. let m = h l in omega (arith, k.last))
marks s (Token.End p) at to next h k = tt
marks s (Token.Timestamp p) at to next h k = tt

-- the token that begins at a place
module _ (s : List ℕ) (at : ℕ) (h : at < length s) where
  pub string_at :
      (to : ℕ)
      → (get_or s at 0 ≡ less → ⊥)
      → to ≡ at + length (run not_less (drop at s))
      → TokenAt s at (Token.String (record { from = at; to = to })) to
  unfolding token_is bytes_at
  string_at to n e =
      let r = run_at not_less s at to (omega arith) e in
      let f = ne_eqb (get_or s at 0) less n in
      let first = rw (← (drop-first s at h)) at (string_token_lem (get_or s at 0) (drop (at + 1) s) f) in
      let moves = run-moves not_less s at to r h (ap not f) in
      record {
        moves = moves;
        inside = r.inside;
        first = first ∙ rw (r.bytes, r.past);
        parts = record { first = omega arith; ends = omega arith; last = omega arith; inside = r.inside };
        marked = tt;
      }

  module _ (to next : ℕ) (y : get_or s at 0 ≡ less) (e : to ≡ at + 1 + length (run not_greater (drop (at + 1) s))) where
    run_to : RunAt not_greater s (at + 1) to
    run_to = run_at not_greater s (at + 1) to (omega arith) e

    tag_first : drop 1 (drop to s) ≡ drop next s → cue_tokens (drop at s) ≡ tag_of (bytes_at s (at + 1) to) ∷ cue_tokens (drop next s)
    unfolding bytes_at
    tag_first d = rw (drop-first s at h, y) (tag_token (drop (at + 1) s) ∙ rw (run_to.bytes, run_to.past, d))

    pub tag_bounds : (at + 1 ≤ to) × (to ≤ length s)
    tag_bounds = (run_to.from, run_to.inside)

    -- the tag, and that its parts lie between the two places
    pub tag_at :
        (t : Token)
        → TagAt s (at + 1) to t
        → to ≤ next
        → next ≤ length s
        → at < next
        → (next < length s → to < next)
        → drop 1 (drop to s) ≡ drop next s
        → TokenAt s at t next
    tag_at t g l i m w d =
        record {
          moves = m;
          inside = i;
          first = tag_first d ∙ ap (λ u. u ∷ cue_tokens (drop next s)) (sym g.is);
          parts = wider s t at (at + 1) to next (omega arith) l i g.parts;
          marked = marks s t at to next w g.parts;
        }

-- what the code finds, by its tests
module _ (s : List ℕ) (from to : ℕ) where
  pub tag_none : to ≤ from → start_told s from to ≡ tag_is s from to
  unfolding tag_is
  tag_none h = rw (le-ltb from to h)

  module _ (h : from < to) where
    pub tag_end_lem : get_or s from 0 ≡ solidus → Token.End (record { from = from + 1; to = to }) ≡ tag_is s from to
    unfolding tag_is
    tag_end_lem e = rw (lt-ltb from to h, eq-eqb (get_or s from 0) solidus e)

    module _ (n : get_or s from 0 ≡ solidus → ⊥) where
      pub tag_time_lem : digit (get_or s from 0) ≡ true → Token.Timestamp (record { from = from; to = to }) ≡ tag_is s from to
      unfolding tag_is
      tag_time_lem d = rw (lt-ltb from to h, ne_eqb (get_or s from 0) solidus n, d)

      pub tag_start : digit (get_or s from 0) ≡ false → start_told s from to ≡ tag_is s from to
      unfolding tag_is
      tag_start d = rw (lt-ltb from to h, ne_eqb (get_or s from 0) solidus n, d)

module _ (s : List ℕ) (at : ℕ) where
  pub step_none : length s ≤ at → None ≡ step_is s at
  unfolding step_is
  step_none h = rw (le-ltb at (length s) h)

  module _ (h : at < length s) where
    pub step_string :
        (get_or s at 0 ≡ less → ⊥) → (to : ℕ) → to ≡ string_to s at → stepped (Token.String (record { from = at; to = to })) to ≡ step_is s at
    unfolding step_is
    step_string n to e = rw (lt-ltb at (length s) h, ne_eqb (get_or s at 0) less n, e)

    pub step_tag :
        get_or s at 0 ≡ less
        → (to : ℕ)
        → to ≡ tag_to s (at + 1)
        → (t : Token)
        → t ≡ tag_is s (at + 1) to
        → stepped t (after_tag s to) ≡ step_is s at
    unfolding step_is
    step_tag y to e t k = rw (lt-ltb at (length s) h, eq-eqb (get_or s at 0) less y, k, e)
