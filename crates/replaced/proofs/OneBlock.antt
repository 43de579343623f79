-- One block among the others: the lines before it, its own and those after it, and another block in its place.
use Prim.Native.Nat.{ℕ, suc, ◌+◌, ◌≤◌}
use mathlib.Core.Path.{◌≡◌, refl, sym, ap, ap₂, ◌∙◌}
use mathlib.Core.Bool.{true, false, not, ◌&&◌, true≢false, false≢true}
use mathlib.Core.List.{List, [], ◌∷◌, ◌++◌, append-nil}
use native.Mathlib.Omega.{arith}
use lib.ListN.{length, get_or, length-append}
use lib.Seq.{append_snoc}
use Rattle.format.specs.Texts.{is_empty}
use Rattle.format.specs.Blocks.{Line, lines_at, holds_arrow, Collecting, between, header, inside, can_time, stops, begin, go_on, collected, ended, next}
use Rattle.format.specs.Blocks.{blocks_from, bytes_of}
use Rattle.format.specs.Contents.{CueContents, RegionContents}
use Rattle.format.specs.Writable.{none_empty}
use Rattle.format.specs.Written.{written_timing, lines_of, cue_lines}
use Rattle.laws.proofs.Tests.{by-test, and_left, and_right, or_true}
use Rattle.laws.proofs.Blocks.{state_after, cut}
use Rattle.roundtrip.proofs.Shape.{not_left, Closed, closed_block, timed}
use Rattle.roundtrip.proofs.Cues.{timing_arrow}

-- the first of these lines, if any, stops collecting
abbrev pub Stop : Collecting → List Line → Type 0
Stop st [] = Unit
Stop st (l ∷ ls) = stops st l ≡ true

-- a file divides there
cut_at : (st : Collecting) (xs ys : List Line) → Stop (state_after st xs) ys → blocks_from st (xs ++ ys) ≡ blocks_from st xs ++ blocks_from between ys
unfolding blocks_from collected
cut_at st xs [] h = rw (append-nil xs, append-nil (blocks_from st xs))
cut_at st xs (l ∷ ys) h = cut st xs l ys h

-- the block of which the lines acc have been collected, its other lines and those after it
pub record Rest (acc ls b : List Line) (after : List (List Line)) : Type 0 where
  pub more : List Line
  pub ys : List Line
  pub lines : ls ≡ more ++ ys
  pub is : b ≡ acc ++ more
  pub ends : Stop (inside b) ys
  pub later : blocks_from between ys ≡ after

rest : (acc ls b : List Line) (after : List (List Line)) → blocks_from (inside acc) ls ≡ b ∷ after → Rest acc ls b after
unfolding blocks_from collected ended next go_on stops
rest acc [] b after e =
    let same : b ≡ acc = cc in
    let none : [] ≡ after = cc in
    record { more = []; ys = []; lines = refl; is = same ∙ sym (append-nil acc); ends = tt; later = none }
rest acc (l ∷ ls) b after e =
    by-test (stops (inside acc) l)
    (λ y. let f : acc ∷ blocks_from (begin l) ls ≡ b ∷ after = rw y at e in
    let same : b ≡ acc = cc in
    let others : blocks_from (begin l) ls ≡ after = cc in
    record { more = []; ys = l ∷ ls; lines = refl; is = same ∙ sym (append-nil acc); ends = rw same y; later = others })
    (λ n. let h = rest (acc ++ l ∷ []) ls b after (rw n at e) in
    record {
      more = l ∷ h.more;
      ys = h.ys;
      lines = ap (λ r. l ∷ r) h.lines;
      is = h.is ∙ append_snoc acc l h.more;
      ends = h.ends;
      later = h.later;
    })

-- a block that begins in these lines, where it does, and the lines and blocks before it
pub record Begun (st : Collecting) (ls : List Line) (before : List (List Line)) (b : List Line) (after : List (List Line)) : Type 0 where
  pub xs : List Line
  pub first : Line
  pub others : List Line
  pub lines : ls ≡ xs ++ first ∷ others
  pub begins : stops (state_after st xs) first ≡ true
  pub full : is_empty first.bytes ≡ false
  pub earlier : blocks_from st xs ≡ before
  pub rest : Rest (first ∷ []) others b after

-- where collecting stands after an empty line, and after a line that begins a block
next_empty : (st : Collecting) (l : Line) → is_empty l.bytes ≡ true → next st l ≡ between
unfolding next stops begin
next_empty between l e = rw e
next_empty header l e = rw e
next_empty (inside ls) l e = rw e

next_full : (st : Collecting) (l : Line) → stops st l ≡ true → is_empty l.bytes ≡ false → next st l ≡ inside (l ∷ [])
unfolding next begin
next_full st l y e = rw (y, e)

ended_few : (st : Collecting) (l : Line) → length (ended st l) ≤ length (collected st)
unfolding ended
ended_few st l = by-test (stops st l) (λ y. rw y (omega arith)) (λ n. rw n (omega arith))

-- a line that goes on opens no block
opens-none : (st : Collecting) (l : Line) → stops st l ≡ false → length (collected (next st l)) ≤ length (collected st)
unfolding next go_on collected stops
opens-none between l n = absurd (true≢false n)
opens-none header l n = rw n (omega arith)
opens-none (inside ls) l n = rw n (omega arith)

one_open : (st : Collecting) → length (collected st) ≤ 1
unfolding collected
one_open between = omega arith
one_open header = omega arith
one_open (inside ls) = omega arith

-- of two ways to divide a list, the one further after
record Front {A : Type 0} (a c p q : List A) : Type 0 where
  more : List A
  is : p ≡ a ++ more
  same : c ≡ more ++ q

front : {A : Type 0} (a c p q : List A) → a ++ c ≡ p ++ q → length a ≤ length p → Front a c p q
front [] c p q e n = record { more = p; is = refl; same = e }
front (x ∷ a) c [] q e n = absurd (omega arith)
front (x ∷ a) c (y ∷ p) q e n =
    let h = front a c p q (cc) (omega arith) in
    record { more = h.more; is = ap₂ (λ u v. u ∷ v) (cc) h.is; same = h.same }

module _ (b : List Line) (after : List (List Line)) where
  -- one more line before the block's first, and the block's first line
  begun-next :
      (st : Collecting) (l : Line) (ls : List Line) (before : List (List Line))
      → Begun (next st l) ls before b after
      → Begun st (l ∷ ls) (ended st l ++ before) b after
  unfolding state_after blocks_from
  begun-next st l ls before h =
      record {
        xs = l ∷ h.xs;
        first = h.first;
        others = h.others;
        lines = ap (λ r. l ∷ r) h.lines;
        begins = h.begins;
        full = h.full;
        earlier = ap (λ r. ended st l ++ r) h.earlier;
        rest = h.rest;
      }

  begun-here :
      (st : Collecting) (l : Line) (ls : List Line)
      → stops st l ≡ true
      → is_empty l.bytes ≡ false
      → blocks_from (inside (l ∷ [])) ls ≡ b ∷ after
      → Begun st (l ∷ ls) (ended st l ++ []) b after
  unfolding state_after blocks_from ended
  begun-here st l ls y f e =
      record {
        xs = [];
        first = l;
        others = ls;
        lines = refl;
        begins = y;
        full = f;
        earlier = rw (y, append-nil (collected st));
        rest = rest (l ∷ []) ls b after e;
      }

  -- the first line, where what it ends stands before the other blocks
  begun_step :
      (st : Collecting) (l : Line) (ls : List Line) (before : List (List Line))
      → blocks_from (next st l) ls ≡ before ++ b ∷ after
      → length (collected st) ≤ length (ended st l ++ before)
      → (length (collected (next st l)) ≤ length before → Begun (next st l) ls before b after)
      → Begun st (l ∷ ls) (ended st l ++ before) b after
  unfolding collected ended
  begun_step st l ls [] e k again =
      by-test (stops st l)
      (λ y. by-test (is_empty l.bytes)
      (λ g. begun-next st l ls [] (again (rw (next_empty st l g) (omega arith))))
      (λ f. begun-here st l ls y f (rw (next_full st l y f) at e)))
      (λ n. let none : length (collected st) ≤ 0 = rw n at k in begun-next st l ls [] (again (omega (arith, opens-none st l n))))
  begun_step st l ls (a ∷ before) e k again = begun-next st l ls (a ∷ before) (again (omega (arith, one_open (next st l))))

  begun_line :
      (st : Collecting) (l : Line) (ls : List Line) (before : List (List Line))
      → ended st l ++ blocks_from (next st l) ls ≡ before ++ b ∷ after
      → length (collected st) ≤ length before
      → ((more : List (List Line))
      → blocks_from (next st l) ls ≡ more ++ b ∷ after
      → length (collected (next st l)) ≤ length more
      → Begun (next st l) ls more b after)
      → Begun st (l ∷ ls) before b after
  begun_line st l ls before e n again =
      let f = front (ended st l) (blocks_from (next st l) ls) before (b ∷ after) e (omega (arith, ended_few st l)) in
      rw f.is (begun_step st l ls f.more f.same (rw f.is at n) (again f.more f.same))

  -- the block that follows these, where a block being collected is among them
  pub begun :
      (st : Collecting) (ls : List Line) (before : List (List Line))
      → blocks_from st ls ≡ before ++ b ∷ after
      → length (collected st) ≤ length before
      → Begun st ls before b after
  unfolding blocks_from
  begun st [] before e n = absurd (omega (arith, ap length e, length-append before (b ∷ after)))
  begun st (l ∷ ls) before e n = begun_line st l ls before e n (begun (next st l) ls)

-- a line that holds `-->` stops what another line that is not empty stops
stops-arrow :
    (st : Collecting) (l w : Line)
    → is_empty l.bytes ≡ false
    → holds_arrow w.bytes ≡ true
    → stops st l ≡ true
    → stops st w ≡ true
unfolding stops
stops-arrow between l w f a e = refl
stops-arrow header l w f a e = rw a (or_true (is_empty w.bytes))
stops-arrow (inside ls) l w f a e =
    let h : holds_arrow l.bytes && not (can_time ls) ≡ true = rw f at e in
    rw (a, and_right (holds_arrow l.bytes) (not (can_time ls)) h) (or_true (is_empty w.bytes))

-- what stops any block stops one whose timing line has been
pub stops_timed : (b w ls : List Line) → can_time w ≡ false → Stop (inside b) ls → Stop (inside w) ls
unfolding stops
stops_timed b w [] t h = tt
stops_timed b w (l ∷ ls) t h =
    rw t
    (by-test (is_empty l.bytes)
    (λ y. rw y)
    (λ n. let k : holds_arrow l.bytes && not (can_time b) ≡ true = rw n at h in rw (n, and_left (holds_arrow l.bytes) (not (can_time b)) k)))

stop-between : (ls : List Line) → Stop between ls
unfolding stops
stop-between [] = tt
stop-between (l ∷ ls) = refl

-- after an empty line collecting stands between two blocks
pub gap_before :
    (st : Collecting) (l : List ℕ) (xs : List Line) (rest : List (List ℕ))
    → (is_empty l ≡ true → st ≡ between)
    → is_empty (get_or (l ∷ (bytes_of xs ++ rest)) (length xs) []) ≡ true
    → state_after st xs ≡ between
unfolding state_after bytes_of
gap_before st l [] rest h e = h e
gap_before st l (x ∷ xs) rest h e = gap_before (next st x) x.bytes xs rest (next_empty st x) e

-- lines with a timing line among them can have no other
pub timed_once : (n p : ℕ) (ks : List (List ℕ)) (t : List ℕ) (ls : List (List ℕ)) → holds_arrow t ≡ true → can_time (lines_at n p (ks ++ t ∷ ls)) ≡ false
unfolding lines_at can_time
timed_once n p [] t [] a = rw a
timed_once n p [] t (l ∷ ls) a = refl
timed_once n p (k ∷ []) t ls a = refl
timed_once n p (k ∷ (m ∷ ks)) t ls a = refl

-- a written cue begins where a block did, and with an identifier where collecting stands between two blocks
pub written-begins :
    (st : Collecting) (l : Line) (n p : ℕ) (rs : List RegionContents) (c : CueContents) (ys : List Line)
    → stops st l ≡ true
    → is_empty l.bytes ≡ false
    → (is_empty c.id ≡ false → st ≡ between)
    → Stop st (lines_at n p (cue_lines rs c) ++ ys)
unfolding cue_lines lines_of lines_at
written-begins st l n p rs c ys e f h =
    by-test (is_empty c.id)
    (λ y. rw y (stops-arrow st l (record { number = n; place = p; bytes = written_timing rs c }) f (timing_arrow rs c) e))
    (λ i. rw (h i) (stop-between (lines_at n p (cue_lines rs c) ++ ys)))

-- whether lines stop collecting is said by their bytes
pub stop_anywhere : (st : Collecting) (n p m q : ℕ) (ls : List (List ℕ)) → Stop st (lines_at n p ls) → Stop st (lines_at m q ls)
unfolding lines_at stops
stop_anywhere st n p m q [] h = tt
stop_anywhere between n p m q (l ∷ ls) h = h
stop_anywhere header n p m q (l ∷ ls) h = h
stop_anywhere (inside b) n p m q (l ∷ ls) h = h

-- where lines are one block, collecting stands inside it after them
inside-whole : (acc ls : List Line) → blocks_from (inside acc) ls ≡ (acc ++ ls) ∷ [] → state_after (inside acc) ls ≡ inside (acc ++ ls)
unfolding blocks_from state_after collected ended next go_on
inside-whole acc [] e = rw (append-nil acc)
inside-whole acc (l ∷ ls) e =
    by-test (stops (inside acc) l)
    (λ y. let f : acc ∷ blocks_from (begin l) ls ≡ (acc ++ l ∷ ls) ∷ [] = rw y at e in
    let same : acc ≡ acc ++ l ∷ ls = cc in
    absurd (omega (arith, ap length same, length-append acc (l ∷ ls))))
    (λ n. let f : blocks_from (inside (acc ++ l ∷ [])) ls ≡ (acc ++ l ∷ ls) ∷ [] = rw n at e in
    rw n (rw (append_snoc acc l ls) at (inside-whole (acc ++ l ∷ []) ls (rw (append_snoc acc l ls) f))))

-- so it is for lines that are one block by themselves
closed_after : (n p : ℕ) (b : List (List ℕ)) → Closed b → state_after between (lines_at n p b) ≡ inside (lines_at n p b)
unfolding lines_at none_empty timed state_after blocks_from ended stops collected
closed_after n p [] c = absurd (false≢true c.once)
closed_after n p (l ∷ ls) c =
    let at : Line = record { number = n; place = p; bytes = l } in
    let rest = lines_at (suc n) (p + suc (length l)) ls in
    let begun = next_full between at refl (not_left (is_empty l) (none_empty ls) c.full) in
    ap (λ st. state_after st rest) begun
    ∙ inside-whole (at ∷ []) rest (sym (ap (λ st. blocks_from st rest) begun) ∙ closed_block n p (l ∷ ls) c)

-- such lines between others
pub blocks_with :
    (st : Collecting) (xs : List Line) (n p : ℕ) (w : List (List ℕ)) (ys : List Line)
    → Closed w
    → Stop (state_after st xs) (lines_at n p w ++ ys)
    → Stop (inside (lines_at n p w)) ys
    → blocks_from st (xs ++ (lines_at n p w ++ ys)) ≡ blocks_from st xs ++ lines_at n p w ∷ blocks_from between ys
blocks_with st xs n p w ys c begins ends =
    cut_at st xs (lines_at n p w ++ ys) begins
    ∙ ap (λ r. blocks_from st xs ++ r)
    (cut_at between (lines_at n p w) ys (rw (closed_after n p w c) ends) ∙ ap (λ r. r ++ blocks_from between ys) (closed_block n p w c))
