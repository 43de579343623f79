-- The states of a tag at once: what stands after `<` gives one tag, up to the next `>` or the end, and the tag is a function of the bytes
-- between.
use Prim.Native.Nat.{ℕ}
use mathlib.Core.Path.{◌≡◌, refl, sym, ap, ◌∙◌}
use mathlib.Core.Bool.{Bool, true, false, not, false≢true}
use mathlib.Core.List.{List, [], ◌∷◌, ◌++◌, append-nil, append_assoc}
use native.Mathlib.Omega.{arith}
use lib.Dec.{eqb, leb}
use lib.ListN.{drop}
use borrow.Author.Tests.{eqb-true, ne_eqb, leb-true, not-true}
use Rattle.format.specs.Bytes.{tab, lf, form_feed, space, full_stop, solidus, less, greater, digit, white}
use Rattle.format.specs.Texts.{all, is_empty, run, past_run}
use Rattle.format.specs.Lines.{on_first, before, split_list_at}
use Rattle.format.specs.CueText.{Token, start_tag, State, in_data, in_escape, in_tag, in_start_tag, in_class, in_annotation, in_end_tag, in_timestamp_tag, Visit, go_on, passing, data_end, escape_end, tag_end, start_tag_end, class_end, annotation_end, end_tag_end, timestamp_tag_end, data_state, tag_state, start_tag_state, class_state, annotation_state, end_tag_state, timestamp_tag_state, blank, new_buffer, collapsing, collapsed_from, collapsed, visit, visit_end, begun, returned, after_visit, after_character, cue_tokens_from, cue_tokens}
use Rattle.laws.proofs.Tests.{by-test, and_left, and_right}
use Rattle.laws.proofs.Runs.{run-all}
use Rattle.tokenizer.specs.Tags.{in_name, split_stops, classes_of, start_of, tag_of}

-- all but `>`
abbrev pub not_greater : ℕ → Bool
not_greater b = not (eqb b greater)

-- the states of a tag, and the token of each where the tag ends
data Tagged : State → Type 0 where
  tag : Tagged in_tag
  start : {r : List ℕ} → Tagged (in_start_tag r)
  class : {r : List ℕ} {cs : List (List ℕ)} {b : List ℕ} → Tagged (in_class r cs b)
  annotation : {r : List ℕ} {cs : List (List ℕ)} {b : List ℕ} → Tagged (in_annotation r cs b)
  end : {r : List ℕ} → Tagged (in_end_tag r)
  timestamp : {r : List ℕ} → Tagged (in_timestamp_tag r)

unfoldable closing : State → Token
closing (in_data r) = data_end r
closing (in_escape r b) = escape_end r b
closing in_tag = tag_end
closing (in_start_tag r) = start_tag_end r
closing (in_class r cs b) = class_end r cs b
closing (in_annotation r cs b) = annotation_end r cs b
closing (in_end_tag r) = end_tag_end r
closing (in_timestamp_tag r) = timestamp_tag_end r

tag_ends : {st : State} → Tagged st → visit_end st ≡ closing st ∷ []
unfolding visit_end closing
tag_ends tag = refl
tag_ends start = refl
tag_ends class = refl
tag_ends annotation = refl
tag_ends end = refl
tag_ends timestamp = refl

tag_closes : {st : State} → Tagged st → visit st greater ≡ passing (closing st)
unfolding visit closing tag_state start_tag_state class_state annotation_state end_tag_state timestamp_tag_state blank digit
tag_closes tag = refl
tag_closes start = refl
tag_closes class = refl
tag_closes annotation = refl
tag_closes end = refl
tag_closes timestamp = refl

-- a visit that leads to another state of a tag
data GoesOn : Visit → Type 0 where
  goes : {st : State} → Tagged st → GoesOn (go_on st)

tag_goes : {st : State} (c : ℕ) → Tagged st → eqb c greater ≡ false → GoesOn (visit st c)
unfolding visit tag_state start_tag_state class_state annotation_state end_tag_state timestamp_tag_state
tag_goes c tag n =
    by-test (blank c) (λ y. rw y (goes annotation))
    (λ b.
    by-test (eqb c full_stop) (λ y. rw (b, y) (goes class))
    (λ f.
    by-test (eqb c solidus) (λ y. rw (b, f, y) (goes end))
    (λ s. by-test (digit c) (λ y. rw (b, f, s, y) (goes timestamp)) (λ d. rw (b, f, s, d, n) (goes start)))))
tag_goes c start n =
    by-test (blank c) (λ y. rw y (goes annotation))
    (λ b. by-test (eqb c full_stop) (λ y. rw (b, y) (goes class)) (λ f. rw (b, f, n) (goes start)))
tag_goes c class n =
    by-test (blank c) (λ y. rw y (goes annotation))
    (λ b. by-test (eqb c full_stop) (λ y. rw (b, y) (goes class)) (λ f. rw (b, f, n) (goes class)))
tag_goes c annotation n = rw n (goes annotation)
tag_goes c end n = rw n (goes end)
tag_goes c timestamp n = rw n (goes timestamp)

-- the state after bytes
unfoldable after : State → List ℕ → State
after st [] = st
after st (c ∷ s) = after (after_character st c) s

returned-none : {v : Visit} → GoesOn v → returned v ≡ []
unfolding returned
returned-none (goes t) = refl

still_tagged : {v : Visit} (again : State) → GoesOn v → Tagged (after_visit v again)
unfolding after_visit
still_tagged again (goes t) = t

tag_tokens :
    {st : State} (s : List ℕ)
    → Tagged st
    → cue_tokens_from st s ≡ closing (after st (run not_greater s)) ∷ cue_tokens (drop 1 (past_run not_greater s))
unfolding cue_tokens_from cue_tokens after run past_run after_character visit_end is_empty returned after_visit
tag_tokens {st} [] t = tag_ends t
tag_tokens {st} (c ∷ s) t =
    by-test (eqb c greater)
    (λ y. let e = eqb-true c greater y in rw (e, tag_closes t) refl)
    (λ n.
    let g = tag_goes c t n in
    rw (n, returned-none g) (tag_tokens {st = after_visit (visit st c) (after_visit (visit begun c) begun)} s (still_tagged (after_visit (visit begun c) begun) g)))

-- bytes that a state only gathers
gathers :
    (f : List ℕ → State)
    → ((r : List ℕ) (c : ℕ) → eqb c greater ≡ false → after_character (f r) c ≡ f (r ++ c ∷ []))
    → (r x : List ℕ)
    → all not_greater x ≡ true
    → after (f r) x ≡ f (r ++ x)
unfolding after all
gathers f step r [] p = rw (append-nil r)
gathers f step r (c ∷ x) p =
    let n = not-true (eqb c greater) (and_left (not (eqb c greater)) (all not_greater x) p) in
    rw (step r c n) (gathers f step (r ++ c ∷ []) x (and_right (not (eqb c greater)) (all not_greater x) p) ∙ rw (append_assoc r (c ∷ []) x))

end_gathers : (r : List ℕ) (c : ℕ) → eqb c greater ≡ false → after_character (in_end_tag r) c ≡ in_end_tag (r ++ c ∷ [])
unfolding after_character after_visit visit end_tag_state
end_gathers r c n = rw n

timestamp_gathers : (r : List ℕ) (c : ℕ) → eqb c greater ≡ false → after_character (in_timestamp_tag r) c ≡ in_timestamp_tag (r ++ c ∷ [])
unfolding after_character after_visit visit timestamp_tag_state
timestamp_gathers r c n = rw n

annotation_gathers :
    (r : List ℕ) (cs : List (List ℕ)) (b : List ℕ) (c : ℕ)
    → eqb c greater ≡ false
    → after_character (in_annotation r cs b) c ≡ in_annotation r cs (b ++ c ∷ [])
unfolding after_character after_visit visit annotation_state
annotation_gathers r cs b c n = rw n

-- whitespace before an annotation is not part of it
blank-white : (c : ℕ) → blank c ≡ true → white c ≡ true
unfolding blank white
blank-white c y =
    by-test (eqb c space) (λ p. rw p)
    (λ p. by-test (eqb c tab) (λ q. rw (p, q))
    (λ q. by-test (eqb c lf) (λ r. rw (p, q, r))
    (λ r. by-test (eqb c form_feed) (λ t. rw (p, q, r, t)) (λ t. absurd (false≢true (rw (q, r, t, p) at y))))))

blank_annotation : (c : ℕ) (s : List ℕ) → blank c ≡ true → collapsed white space (new_buffer c ++ s) ≡ collapsed white space (c ∷ s)
unfolding collapsed collapsed_from collapsing new_buffer
blank_annotation c s y =
    let w = blank-white c y in
    by-test (eqb c lf) (λ l. rw l refl) (λ l. rw (l, w) refl)

annotation_closes :
    (r : List ℕ) (cs : List (List ℕ)) (c : ℕ) (x : List ℕ)
    → blank c ≡ true
    → all not_greater x ≡ true
    → closing (after (in_annotation r cs (new_buffer c)) x) ≡ start_tag r cs (collapsed white space (c ∷ x))
unfolding closing
annotation_closes r cs c x y p =
    rw (gathers (in_annotation r cs) (annotation_gathers r cs) (new_buffer c) x p, blank_annotation c x y)

-- the classes, with what the buffer holds of the first
unfoldable joined_to : List ℕ → List (List ℕ) → List (List ℕ)
joined_to b [] = b ∷ []
joined_to b (c ∷ cs) = (b ++ c) ∷ cs

joined-first : (b : List ℕ) (c : ℕ) (cs : List (List ℕ)) → joined_to b (on_first c cs) ≡ joined_to (b ++ c ∷ []) cs
unfolding joined_to on_first
joined-first b c [] = refl
joined-first b c (d ∷ cs) = rw (append_assoc b (c ∷ []) d)

joined-none : (c : ℕ) (cs : List (List ℕ)) → joined_to [] (on_first c cs) ≡ on_first c cs
unfolding joined_to on_first
joined-none c [] = refl
joined-none c (d ∷ cs) = refl

joined-split : (s : List ℕ) → joined_to [] (split_stops s) ≡ split_stops s
unfolding joined_to split_list_at before
joined-split [] = refl
joined-split (c ∷ s) = by-test (eqb c full_stop) (λ y. rw y) (λ n. rw n (joined-none c (split_stops s)))

-- which bytes a name or a class goes on with
pub name-blank : (stops : Bool) (c : ℕ) → blank c ≡ true → in_name stops c ≡ false
unfolding in_name
name-blank stops c y = rw y

class_other : (c : ℕ) → blank c ≡ false → in_name false c ≡ true
unfolding in_name
class_other c n = rw n

name-stop : (c : ℕ) → blank c ≡ false → eqb c full_stop ≡ true → in_name true c ≡ false
unfolding in_name
name-stop c n y = rw (n, y)

pub name_other : (c : ℕ) → blank c ≡ false → eqb c full_stop ≡ false → in_name true c ≡ true
unfolding in_name
name_other c n m = rw (n, m)

module _ (r : List ℕ) (cs : List (List ℕ)) (b : List ℕ) (c : ℕ) where
  class_ends : blank c ≡ true → after_character (in_class r cs b) c ≡ in_annotation r (cs ++ b ∷ []) (new_buffer c)
  unfolding after_character after_visit visit class_state
  class_ends y = rw y

  class_parts : blank c ≡ false → eqb c full_stop ≡ true → after_character (in_class r cs b) c ≡ in_class r (cs ++ b ∷ []) []
  unfolding after_character after_visit visit class_state
  class_parts n y = rw (n, y)

  class_goes : blank c ≡ false → eqb c full_stop ≡ false → eqb c greater ≡ false → after_character (in_class r cs b) c ≡ in_class r cs (b ++ c ∷ [])
  unfolding after_character after_visit visit class_state
  class_goes n m g = rw (n, m, g)

module _ (r : List ℕ) (c : ℕ) where
  name-ends : blank c ≡ true → after_character (in_start_tag r) c ≡ in_annotation r [] (new_buffer c)
  unfolding after_character after_visit visit start_tag_state
  name-ends y = rw y

  name-parts : blank c ≡ false → eqb c full_stop ≡ true → after_character (in_start_tag r) c ≡ in_class r [] []
  unfolding after_character after_visit visit start_tag_state
  name-parts n y = rw (n, y)

  name_goes : blank c ≡ false → eqb c full_stop ≡ false → eqb c greater ≡ false → after_character (in_start_tag r) c ≡ in_start_tag (r ++ c ∷ [])
  unfolding after_character after_visit visit start_tag_state
  name_goes n m g = rw (n, m, g)

class_closes :
    (r : List ℕ) (cs : List (List ℕ)) (b x : List ℕ)
    → all not_greater x ≡ true
    → closing (after (in_class r cs b) x)
    ≡ start_tag r (cs ++ joined_to b (split_stops (run (in_name false) x))) (collapsed white space (past_run (in_name false) x))
unfolding after all run past_run closing joined_to split_list_at before collapsed collapsed_from
class_closes r cs b [] p = rw (append-nil b)
class_closes r cs b (c ∷ x) p =
    let g = not-true (eqb c greater) (and_left (not (eqb c greater)) (all not_greater x) p) in
    let q = and_right (not (eqb c greater)) (all not_greater x) p in
    by-test (blank c)
    (λ y. rw (class_ends r cs b c y, name-blank false c y, append-nil b) (annotation_closes r (cs ++ b ∷ []) c x y q))
    (λ n.
    by-test (eqb c full_stop)
    (λ y.
    rw (class_parts r cs b c n y, class_other c n, y)
    (class_closes r (cs ++ b ∷ []) [] x q
    ∙ rw (joined-split (run (in_name false) x), append_assoc cs (b ∷ []) (split_stops (run (in_name false) x)), append-nil b)))
    (λ m.
    rw (class_goes r cs b c n m g, class_other c n, m)
    (class_closes r cs (b ++ c ∷ []) x q ∙ rw (joined-first b c (split_stops (run (in_name false) x))))))

start_closes : (r x : List ℕ) → all not_greater x ≡ true → closing (after (in_start_tag r) x) ≡ start_of r x
unfolding after all run past_run closing start_of classes_of collapsed collapsed_from
start_closes r [] p = rw (append-nil r)
start_closes r (c ∷ x) p =
    let g = not-true (eqb c greater) (and_left (not (eqb c greater)) (all not_greater x) p) in
    let q = and_right (not (eqb c greater)) (all not_greater x) p in
    by-test (blank c)
    (λ y. rw (name-ends r c y, name-blank true c y, name-blank false c y, append-nil r) (annotation_closes r [] c x y q))
    (λ n.
    by-test (eqb c full_stop)
    (λ y.
    rw (name-parts r c n y, name-stop c n y, class_other c n, append-nil r)
    (class_closes r [] [] x q ∙ rw (joined-split (run (in_name false) x))))
    (λ m.
    rw (name_goes r c n m g, name_other c n m)
    (start_closes (r ++ c ∷ []) x q ∙ rw (append_assoc r (c ∷ []) (run (in_name true) x)))))

-- neither a digit nor a solidus parts a name
digit-in_name : (c : ℕ) → digit c ≡ true → blank c ≡ false
unfolding digit blank
digit-in_name c y =
    let l = leb-true 0x30 c (and_left (leb 0x30 c) (leb c 0x39) y) in
    let h = leb-true c 0x39 (and_right (leb 0x30 c) (leb c 0x39) y) in
    rw
    (ne_eqb c tab (omega arith), ne_eqb c lf (omega arith), ne_eqb c form_feed (omega arith), ne_eqb c space (omega arith))

blank_no_digit : (c : ℕ) → blank c ≡ true → digit c ≡ false
blank_no_digit c y = by-test (digit c) (λ d. absurd (false≢true (sym (digit-in_name c d) ∙ y))) (λ n. n)

solidus-in_name : (c : ℕ) → eqb c solidus ≡ true → blank c ≡ false
unfolding blank
solidus-in_name c y = rw (eqb-true c solidus y) refl

blank_no_solidus : (c : ℕ) → blank c ≡ true → eqb c solidus ≡ false
blank_no_solidus c y = by-test (eqb c solidus) (λ d. absurd (false≢true (sym (solidus-in_name c d) ∙ y))) (λ n. n)

-- a start tag whose name is empty, and one whose name goes on
start-blank : (c : ℕ) (x : List ℕ) → blank c ≡ true → start_tag [] [] (collapsed white space x) ≡ start_of [] (c ∷ x)
unfolding start_of run past_run classes_of collapsed collapsed_from collapsing
start-blank c x y = rw (name-blank true c y, name-blank false c y, blank-white c y) refl

start-stop :
    (x : List ℕ)
    → start_tag [] (joined_to [] (split_stops (run (in_name false) x))) (collapsed white space (past_run (in_name false) x))
    ≡ start_of [] (full_stop ∷ x)
unfolding start_of run past_run classes_of in_name blank
start-stop x = rw (joined-split (run (in_name false) x)) refl

start_goes : (c : ℕ) (x : List ℕ) → blank c ≡ false → eqb c full_stop ≡ false → start_of (c ∷ []) x ≡ start_of [] (c ∷ x)
unfolding start_of run past_run
start_goes c x n m = rw (name_other c n m) refl

first_closes : (x : List ℕ) → all not_greater x ≡ true → closing (after in_tag x) ≡ tag_of x
unfolding after all closing tag_of after_character after_visit visit tag_state blank digit start_of run past_run classes_of collapsed collapsed_from
first_closes [] p = refl
first_closes (c ∷ x) p =
    let g = not-true (eqb c greater) (and_left (not (eqb c greater)) (all not_greater x) p) in
    let q = and_right (not (eqb c greater)) (all not_greater x) p in
    by-test (blank c)
    (λ y.
    rw (y, blank_no_solidus c y, blank_no_digit c y)
    (ap closing (gathers (in_annotation [] []) (annotation_gathers [] []) [] x q) ∙ start-blank c x y))
    (λ n.
    by-test (eqb c full_stop)
    (λ y.
    let e = eqb-true c full_stop y in
    rw e (class_closes [] [] [] x q ∙ start-stop x))
    (λ m.
    by-test (eqb c solidus)
    (λ y. rw (n, m, y) (ap closing (gathers in_end_tag end_gathers [] x q)))
    (λ k.
    by-test (digit c)
    (λ y. rw (n, m, k, y) (ap closing (gathers in_timestamp_tag timestamp_gathers (c ∷ []) x q)))
    (λ d. rw (n, m, k, d, g) (start_closes (c ∷ []) x q ∙ start_goes c x n m)))))

pub tag_token :
    (s : List ℕ) → cue_tokens (less ∷ s) ≡ tag_of (run not_greater s) ∷ cue_tokens (drop 1 (past_run not_greater s))
unfolding cue_tokens cue_tokens_from returned visit data_state is_empty after_character after_visit
tag_token s = tag_tokens s tag ∙ rw (first_closes (run not_greater s) (run-all not_greater s))
