-- What a text's lists hold does not depend on the numbers and places of its lines.
use Prim.Native.Nat.{ℕ}
use mathlib.Core.Path.{◌≡◌, refl, sym, ap, ◌∙◌}
use mathlib.Core.Bool.{false}
use mathlib.Core.List.{List, [], ◌∷◌, map, map-append}
use Rattle.format.specs.Texts.{is_empty}
use Rattle.format.specs.Lines.{split}
use Rattle.format.specs.Blocks.{Line, lines_at, Collecting, between, header, inside, can_time, stops, begin, go_on, collected, ended, next}
use Rattle.format.specs.Blocks.{blocks_from, after_signature, blocks, bytes_of}
use Rattle.format.specs.Lists.{items_from, items, listed, lists, any_over}
use Rattle.format.specs.Contents.{contents}
use Rattle.laws.proofs.Tests.{by-test}
use Rattle.laws.proofs.Standing.{bytes-lines}
use Rattle.laws.proofs.Contents.{unplaced, contents_unplaced, over_unplaced}

-- lines with other numbers and places
module _ (number place : Line → ℕ) where
  abbrev pub moved_line : Line → Line
  moved_line l = record { number = number l; place = place l; bytes = l.bytes }

  abbrev pub moved_lines : List Line → List Line
  moved_lines ls = map moved_line ls

  -- where collecting stands with them
  moved_state : Collecting → Collecting
  moved_state between = between
  moved_state header = header
  moved_state (inside ls) = inside (moved_lines ls)

  stops_moved : (st : Collecting) (l : Line) → stops (moved_state st) (moved_line l) ≡ stops st l
  unfolding stops moved_state can_time
  stops_moved between l = refl
  stops_moved header l = refl
  stops_moved (inside []) l = refl
  stops_moved (inside (a ∷ [])) l = refl
  stops_moved (inside (a ∷ (b ∷ ls))) l = refl

  begin_moved : (l : Line) → begin (moved_line l) ≡ moved_state (begin l)
  unfolding begin moved_state
  begin_moved l = by-test (is_empty l.bytes) (λ y. rw y) (λ n. rw n)

  on_moved : (st : Collecting) (l : Line) → go_on (moved_state st) (moved_line l) ≡ moved_state (go_on st l)
  unfolding go_on moved_state
  on_moved between l = begin_moved l
  on_moved header l = refl
  on_moved (inside ls) l = rw (map-append moved_line ls (l ∷ []))

  collected_moved : (st : Collecting) → collected (moved_state st) ≡ map moved_lines (collected st)
  unfolding collected moved_state
  collected_moved between = refl
  collected_moved header = refl
  collected_moved (inside ls) = refl

  next_moved : (st : Collecting) (l : Line) → next (moved_state st) (moved_line l) ≡ moved_state (next st l)
  unfolding next
  next_moved st l =
      by-test (stops st l)
      (λ y. rw (stops_moved st l, y) (begin_moved l))
      (λ n. rw (stops_moved st l, n) (on_moved st l))

  ended_moved : (st : Collecting) (l : Line) → ended (moved_state st) (moved_line l) ≡ map moved_lines (ended st l)
  unfolding ended
  ended_moved st l =
      by-test (stops st l)
      (λ y. rw (stops_moved st l, y) (collected_moved st))
      (λ n. rw (stops_moved st l, n))

  state_moved : (st : Collecting) (ls : List Line) → blocks_from (moved_state st) (moved_lines ls) ≡ map moved_lines (blocks_from st ls)
  unfolding blocks_from
  state_moved st [] = collected_moved st
  state_moved st (l ∷ ls) =
      rw (map-append moved_lines (ended st l) (blocks_from (next st l) ls), ended_moved st l, next_moved st l, state_moved (next st l) ls)

  pub blocks_moved : (ls : List Line) → blocks_from between (moved_lines ls) ≡ map moved_lines (blocks_from between ls)
  unfolding moved_state
  blocks_moved ls = state_moved between ls

  signature_moved : (ls : List Line) → after_signature (moved_lines ls) ≡ map moved_lines (after_signature ls)
  unfolding after_signature moved_state
  signature_moved [] = refl
  signature_moved (l ∷ ls) = state_moved header ls

pub unplaced_same : (ks ls : List Line) → bytes_of ks ≡ bytes_of ls → unplaced ks ≡ unplaced ls
unfolding bytes_of
unplaced_same [] [] e = refl
unplaced_same [] (l ∷ ls) e = cc
unplaced_same (k ∷ ks) [] e = cc
unplaced_same (k ∷ ks) (l ∷ ls) e =
    let one : k.bytes ≡ l.bytes = cc in
    let more : bytes_of ks ≡ bytes_of ls = cc in
    rw (one, unplaced_same ks ls more)

-- lines with any numbers and places, in the place of a text's own
module _ (s : List ℕ) (ls : List Line) (e : bytes_of ls ≡ split s) where
  blocks_placed : map unplaced (blocks s) ≡ map unplaced (after_signature ls)
  unfolding blocks
  blocks_placed =
      let own = lines_at 0 0 (split s) in
      sym (signature_moved (λ l. 0) (λ l. 0) own)
      ∙ ap after_signature (unplaced_same own ls (bytes-lines 0 0 (split s) ∙ sym e))
      ∙ signature_moved (λ l. 0) (λ l. 0) ls

  pub contents_placed : contents (lists s) ≡ contents (listed (items_from false (after_signature ls)))
  unfolding lists items
  contents_placed =
      sym (contents_unplaced false (blocks s))
      ∙ ap (λ bs. contents (listed (items_from false bs))) blocks_placed
      ∙ contents_unplaced false (after_signature ls)

  pub over_placed : any_over (items s) ≡ any_over (items_from false (after_signature ls))
  unfolding items
  over_placed =
      sym (over_unplaced false (blocks s))
      ∙ ap (λ bs. any_over (items_from false bs)) blocks_placed
      ∙ over_unplaced false (after_signature ls)
