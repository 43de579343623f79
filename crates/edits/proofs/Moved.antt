-- Where the cues of a file stand after one of them was replaced: those before it where they were, it where it was, those after it as many lines
-- later or earlier; and the line before each is empty where it was.
use Prim.Native.Nat.{ℕ, zero, suc, ◌+◌, ◌-◌, ◌≤◌, ◌<◌}
use mathlib.Core.Path.{◌≡◌, refl, sym, ap, ◌∙◌}
use mathlib.Core.Bool.{true, false, not}
use mathlib.Core.List.{List, [], ◌∷◌, ◌++◌, map, append_assoc}
use native.Mathlib.Omega.{arith}
use lib.Dec.{ltb}
use lib.ListN.{length, get_or, take, drop, length-drop, length-map, get_or-map}
use lib.Seq.{length-take-le, get_or-append-add, get_or-take, get_or-drop}
use borrow.Author.Tests.{ltb-true, ltb-false, not-true}
use Rattle.format.specs.Texts.{is_empty}
use Rattle.format.specs.Blocks.{Line, between, header, blocks_from, bytes_of}
use Rattle.format.specs.Writable.{none_empty}
use Rattle.format.specs.Lines.{split}
use Rattle.format.specs.Lists.{lists}
use Rattle.format.specs.LineNumbers.{cue_blocks, line_span, line_spans, span_at, later, LinesMoved}
use Rattle.format.specs.Replacing.{first_line, line_up_to}
use Rattle.format.specs.declared.rows.LineSpan.{LineSpan}
use Rattle.laws.proofs.Tests.{and_left, and_right, by-test}
use Rattle.laws.proofs.Standing.{All, length-bytes}
use Rattle.laws.proofs.LineNumbers.{FollowFrom, Sound, spans_length, spans_follow, blocks_sound}
use Rattle.replaced.proofs.CueBlocks.{around, CueBlock, cue-block_at, first_line_lem, block-length, front_lines, own-lines, lines_around}
use Rattle.edits.proofs.Splices.{get_d_front}

-- an element that is there does not depend on what stands for one that is not
pub get_d_any : {A : Type 0} (l : List A) (k : ℕ) (d e : A) → k < length l → get_or l k d ≡ get_or l k e
get_d_any [] k d e h = absurd (omega arith)
get_d_any (x ∷ l) zero d e h = refl
get_d_any (x ∷ l) (suc k) d e h = get_d_any l k d e (omega arith)

-- lines of cues follow each other
follow_first : (n m : ℕ) (ls : List LineSpan) (k : ℕ) (d : LineSpan) → FollowFrom n m ls → k < length ls → n ≤ (get_or ls k d).first
follow_first n m [] k d f h = absurd (omega arith)
follow_first n m (l ∷ ls) zero d f h = f.0
follow_first n m (l ∷ ls) (suc k) d f h = omega (arith, f.0, f.1, follow_first (l.first + l.count) m ls k d f.2 (omega arith))

follow_apart :
    (n m : ℕ) (ls : List LineSpan) (j k : ℕ) (d : LineSpan)
    → FollowFrom n m ls
    → j < k
    → k < length ls
    → (get_or ls j d).first + (get_or ls j d).count ≤ (get_or ls k d).first
follow_apart n m [] j k d f a h = absurd (omega arith)
follow_apart n m (l ∷ ls) j zero d f a h = absurd (omega arith)
follow_apart n m (l ∷ ls) zero (suc k) d f a h = follow_first (l.first + l.count) m ls k d f.2 (omega arith)
follow_apart n m (l ∷ ls) (suc j) (suc k) d f a h = follow_apart (l.first + l.count) m ls j k d f.2 (omega arith) (omega arith)

-- the count of a cue's own lines
abbrev pub own_count : List ℕ → ℕ → ℕ
own_count s k = length (get_or (cue_blocks s) k [])

module _ (s : List ℕ) where
  -- the lines of a cue, as replacing has them
  span_is_lem : (k : ℕ) → k < length (lists s).cues → span_at k (line_spans s) ≡ record { first = suc (first_line s k); count = own_count s k }
  unfolding span_at line_spans line_span first_line
  span_is_lem k h =
      let n : length (line_spans s) ≡ length (cue_blocks s) = length-map (cue_blocks s) line_span in
      get_d_any (line_spans s) k _ (line_span []) (omega (arith, spans_length s))
      ∙ get_or-map line_span (cue_blocks s) k []

  pub own-apart : (j k : ℕ) → j < k → k < length (lists s).cues → first_line s j + own_count s j ≤ first_line s k
  unfolding span_at
  own-apart j k a h =
      let f = follow_apart 2 _ (line_spans s) j k (record { first = 0; count = 0 }) (spans_follow s) a (omega (arith, spans_length s)) in
      let e = span_is_lem j (omega arith) in
      let g = span_is_lem k h in
      omega (arith, f, ap (λ l. l.first) e, ap (λ l. l.count) e, ap (λ l. l.first) g)

-- the lines of the cues before, of the replaced one and of those after it
module _ (number lines : ℕ) (old new : List LineSpan) (m : LinesMoved number lines old new) where
  span_before : (k : ℕ) → k < number → span_at k new ≡ span_at k old
  unfolding span_at
  span_before k h =
      let d : LineSpan = record { first = 0; count = 0 } in
      sym (get_or-take number new k d h) ∙ ap (λ ls. get_or ls k d) m.before ∙ get_or-take number old k d h

  span_after :
      (k : ℕ)
      → number < k
      → k < length old
      → k < length new
      → later (span_at number old).count (span_at k new) ≡ later lines (span_at k old)
  unfolding span_at
  span_after k h o n =
      let d : LineSpan = record { first = 0; count = 0 } in
      let j = k - suc number in
      let e : suc number + j ≡ k = omega arith in
      let at : (c : ℕ) (ls : List LineSpan) → k < length ls → get_or (map (later c) (drop (suc number) ls)) j d ≡ later c (get_or ls k d) =
      λ c ls b.
      get_d_any (map (later c) (drop (suc number) ls)) j d (later c d) (omega (arith, length-map (drop (suc number) ls) (later c), length-drop (suc number) ls))
      ∙ get_or-map (later c) (drop (suc number) ls) j d
      ∙ ap (later c) (get_or-drop (suc number) ls j d ∙ ap (λ i. get_or ls i d) e) in
      sym (at _ new n) ∙ ap (λ ls. get_or ls j d) m.after ∙ at lines old o

-- the same of their first lines and counts in the old text and in the new one, which has as many cues
module _ (s t : List ℕ) (number lines : ℕ) (there : number < length (lists s).cues) (same : length (lists t).cues ≡ length (lists s).cues)
    (m : LinesMoved number lines (line_spans s) (line_spans t)) where
  pub record Placed (k first count : ℕ) : Type 0 where
    pub at : first_line t k ≡ first
    pub size : own_count t k ≡ count

  placed : (k first count : ℕ) → k < length (lists s).cues → span_at k (line_spans t) ≡ record { first = suc first; count = count } → Placed k first count
  placed k first count h e =
      let f = sym (span_is_lem t k (omega arith)) ∙ e in
      record { at = omega (arith, ap (λ l. l.first) f); size = ap (λ l. l.count) f }

  pub placed_before : (k : ℕ) → k < number → Placed k (first_line s k) (own_count s k)
  placed_before k h = placed k _ _ (omega arith) (span_before number lines _ _ m k h ∙ span_is_lem s k (omega arith))

  pub placed_here : Placed number (first_line s number) lines
  placed_here = placed number _ _ there (m.here ∙ ap (λ n. record { first = n; count = lines }) (ap (λ l. l.first) (span_is_lem s number there)))

  pub record Later (k : ℕ) : Type 0 where
    pub at : first_line t k + own_count s number ≡ first_line s k + lines
    pub size : own_count t k ≡ own_count s k

  pub placed_after : (k : ℕ) → number < k → k < length (lists s).cues → Later k
  unfolding later
  placed_after k h b =
      let n = spans_length s in
      let n' = spans_length t in
      let e = span_after number lines (line_spans s) (line_spans t) m k h (omega arith) (omega arith) in
      let o = span_is_lem s k b in
      let c = ap (λ l. l.count) (span_is_lem s number there) in
      let f = span_is_lem t k (omega arith) in
      record {
        at = omega (arith, ap (λ l. l.first) e, ap (λ l. l.first) o, ap (λ l. l.first) f, c);
        size = sym (ap (λ l. l.count) f) ∙ ap (λ l. l.count) e ∙ ap (λ l. l.count) o;
      }

-- no line is empty
full_at : (ls : List (List ℕ)) (k : ℕ) → none_empty ls ≡ true → k < length ls → is_empty (get_or ls k []) ≡ false
unfolding none_empty
full_at [] k e h = absurd (omega arith)
full_at (l ∷ ls) zero e h = not-true (is_empty l) (and_left (not (is_empty l)) (none_empty ls) e)
full_at (l ∷ ls) (suc k) e h = full_at ls k (and_right (not (is_empty l)) (none_empty ls) e) (omega arith)

sound_full : (ls : List Line) → All Sound ls → none_empty (bytes_of ls) ≡ true
unfolding none_empty bytes_of
sound_full [] h = refl
sound_full (l ∷ ls) h = rw h.0.0 (sound_full ls h.1)

-- one of all
all_at : {A : Type 0} (P : A → Type 0) (xs : List A) (x : A) (ys : List A) → All P (xs ++ x ∷ ys) → P x
all_at P [] x ys h = h.0
all_at P (z ∷ xs) x ys h = all_at P xs x ys h.1

-- no line of a cue's own is empty
own_full : (s : List ℕ) (number k : ℕ) → number < length (lists s).cues → k < own_count s number → is_empty (get_or (split s) (first_line s number + k) []) ≡ false
own_full s number k h b =
    let a = around s number h in
    let own = own-lines s number a in
    let front = front_lines s number a in
    let n : first_line s number + k ≡ length front + k = omega (arith, first_line_lem s number a, length-bytes a.xs) in
    let sound : All Sound (a.first ∷ a.others) =
    all_at (All Sound) (blocks_from header a.xs) (a.first ∷ a.others) (blocks_from between a.ys) (rw a.divides at (blocks_sound s)) in
    let full = full_at own k (sound_full (a.first ∷ a.others) sound) (omega (arith, block-length s number a, length-bytes (a.first ∷ a.others))) in
    rw (n, lines_around s number a, get_or-append-add front (own ++ bytes_of a.ys) k [])
    (rw (get_d_front own (bytes_of a.ys) k [] (omega (arith, block-length s number a, length-bytes (a.first ∷ a.others)))) full)

-- a text's lines with others in the place of the c lines at n
module _ (ls form ms : List (List ℕ)) (n c : ℕ) (inside : n + c ≤ length ls) (e : ms ≡ take n ls ++ form ++ drop (n + c) ls) where
  parts : ms ≡ take n ls ++ (form ++ drop (n + c) ls)
  parts = e ∙ append_assoc (take n ls) form (drop (n + c) ls)

  front_size : length (take n ls) ≡ n
  front_size = length-take-le n ls (omega arith)

  line_front : (k : ℕ) → k < n → get_or ms k [] ≡ get_or ls k []
  line_front k h = rw parts (get_d_front (take n ls) (form ++ drop (n + c) ls) k [] (omega (arith, front_size)) ∙ get_or-take n ls k [] h)

  past_front : (k : ℕ) → get_or ms (n + k) [] ≡ get_or (form ++ drop (n + c) ls) k []
  past_front k =
      let j : n + k ≡ length (take n ls) + k = omega (arith, front_size) in
      rw (j, parts) (get_or-append-add (take n ls) (form ++ drop (n + c) ls) k [])

  line_form : (k : ℕ) → k < length form → get_or ms (n + k) [] ≡ get_or form k []
  line_form k h = past_front k ∙ get_d_front form (drop (n + c) ls) k [] h

  line_back : (k : ℕ) → get_or ms (n + (length form + k)) [] ≡ get_or ls (n + c + k) []
  line_back k = past_front (length form + k) ∙ get_or-append-add form (drop (n + c) ls) k [] ∙ get_or-drop (n + c) ls k []

-- the line before a cue is empty in the new text where it was in the old one: it is the same line, or the last line of the replaced cue
module _ (s t : List ℕ) (number : ℕ) (form : List (List ℕ)) (there : number < length (lists s).cues)
    (same : length (lists t).cues ≡ length (lists s).cues) (m : LinesMoved number (length form) (line_spans s) (line_spans t)) (full : none_empty form ≡ true)
    (some : 0 < length form) (e : split t ≡ take (first_line s number) (split s) ++ form ++ drop (first_line s number + own_count s number) (split s)) where
  abbrev n : ℕ
  n = first_line s number

  abbrev c : ℕ
  c = own_count s number

  block : CueBlock s number
  block = cue-block_at s number there

  gap_before : (k : ℕ) → k < length (lists s).cues → first_line t k ≡ first_line s k → first_line s k ≤ n → is_empty (line_up_to t k) ≡ is_empty (line_up_to s k)
  unfolding line_up_to
  gap_before k h f b =
      let p = (cue-block_at s k h).after_first_lem in
      ap is_empty (ap (λ i. get_or (split t) (i - 1) []) f ∙ line_front (split s) form (split t) n c block.inside e (first_line s k - 1) (omega arith))

  gap_after : (k : ℕ) → number < k → k < length (lists s).cues → is_empty (line_up_to t k) ≡ is_empty (line_up_to s k)
  unfolding line_up_to
  gap_after k a h =
      let l = placed_after s t number (length form) there same m k a h in
      let apart = own-apart s number k a h in
      let at = l.at in
      let b = block.some in
      by-test (ltb (n + c) (first_line s k))
      (λ y. let far = ltb-true (n + c) (first_line s k) y in
      let j = first_line s k - 1 - (n + c) in
      let new : first_line t k - 1 ≡ n + (length form + j) = omega arith in
      let old : first_line s k - 1 ≡ n + c + j = omega arith in
      ap (λ i. is_empty (get_or (split t) i [])) new
      ∙ ap is_empty (line_back (split s) form (split t) n c block.inside e j)
      ∙ sym (ap (λ i. is_empty (get_or (split s) i [])) old))
      (λ z. let near = ltb-false (n + c) (first_line s k) z in
      let new : first_line t k - 1 ≡ n + (length form - 1) = omega arith in
      let old : first_line s k - 1 ≡ n + (c - 1) = omega arith in
      rw (new, old)
      (ap is_empty (line_form (split s) form (split t) n c block.inside e (length form - 1) (omega arith))
      ∙ full_at form (length form - 1) full (omega arith)
      ∙ sym (own_full s number (c - 1) there (omega arith))))

  pub gap_same : (k : ℕ) → k < length (lists s).cues → is_empty (line_up_to t k) ≡ is_empty (line_up_to s k)
  gap_same k h =
      by-test (ltb k number)
      (λ y. let a = ltb-true k number y in
      let apart = own-apart s k number a there in
      gap_before k h (placed_before s t number (length form) there same m k a).at (omega arith))
      (λ z. let b = ltb-false k number z in
      by-test (ltb number k)
      (λ y. gap_after k (ltb-true number k y) h)
      (λ x. let q : k ≡ number = omega (arith, ltb-false number k x) in
      rw q (gap_before number there (placed_here s t number (length form) there same m).at (omega arith))))
