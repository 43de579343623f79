-- Answers as chains of tests: what an accepting one says of each test, and what then stands at the start of lent memory; what the test
-- whether a text is plain tells.
use Prim.Native.Nat.{ℕ, ◌≤◌}
use mathlib.Core.Path.{◌≡◌, refl, sym}
use mathlib.Core.Bool.{Bool, true, false, cond, ◌||◌}
use mathlib.Core.List.{List, [], ◌∷◌}
use native.Mathlib.Omega.{arith}
use lib.Dec.{ltb}
use lib.ListN.{length, take, drop, length-append}
use lib.Seq.{take-append_seam}
use borrow.Author.Tests.{ltb-false, le-ltb}
use Rattle.std.specs.Prelude.{None, Some}
use Rattle.format.specs.Limits.{max_file, max_text}
use Rattle.format.specs.Texts.{has, all}
use Rattle.format.specs.Plain.{plain_text, first_not_plain}
use Rattle.format.specs.Blocks.{has_signature}
use Rattle.format.specs.Lists.{items, lists, any_over}
use Rattle.format.specs.Answers.{Answer, accepted, refused, refused_only_by, if_accepted, and_then, file_answer, placed}
use Rattle.format.specs.Converting.{converting, converted_room, plainness_is, testing}
use Rattle.format.specs.Reading.{reading_raw, reading, ReadsAgain}
use Rattle.laws.proofs.Tests.{by-test}
use Rattle.laws.proofs.PlainText.{plain_text-length, plain_text-plain}

-- an answer that accepts was refused by no test, and by no answer before it
pub after_test : (t : Bool) (n : ℕ) (us vs : List ℕ) (a : Answer) → cond t (refused n us) a ≡ accepted vs → (t ≡ false) × (a ≡ accepted vs)
after_test true n us vs a e = let z : ◌≡◌ {A = ℕ} 0 1 = cc in absurd (omega arith)
after_test false n us vs a e = (refl, e)

pub after-answer : (a b : Answer) (vs : List ℕ) → and_then a b ≡ accepted vs → b ≡ accepted vs
unfolding and_then if_accepted
after-answer (accepted us) b vs e = e
after-answer (refused n us) b vs e = let z : ◌≡◌ {A = ℕ} 0 1 = cc in absurd (omega arith)

-- what was placed stands at the start
module _ {A : Type 0} (x room exit : List A) (n : ℕ) (e : exit ≡ placed x room) (h : n ≡ length x) where
  pub front : take n exit ≡ x
  unfolding placed
  front = rw (e, h) (take-append_seam x (drop (length x) room))

  pub reaches : n ≤ length exit
  unfolding placed
  reaches = rw e (omega (arith, length-append x (drop (length x) room)))

-- a file that was made is within its limit, and what is handed back is its length
pub record Made (file : List ℕ) (vs : List ℕ) : Type 0 where
  pub fits : length file ≤ max_file
  pub size : (n : ℕ) → vs ≡ n ∷ [] → n ≡ length file

pub file-made : (file : List ℕ) (room : ℕ) (vs : List ℕ) → file_answer file room ≡ accepted vs → Made file vs
unfolding file_answer
file-made file room vs e =
    let within = after_test (ltb max_file (length file)) 1 [] vs _ e in
    let last = after_test (ltb room (length file)) 10 (length file ∷ []) vs _ within.1 in
    record { fits = ltb-false max_file (length file) within.0; size = λ n q. cc (last.1, q) }

-- where a raw file was converted, its plain text stands at the room's start
pub record Converts (raw : List ℕ) (n : ℕ) (room : List ℕ) : Type 0 where
  pub fits : n ≤ length room
  pub text : take n room ≡ plain_text raw

pub converts :
    (raw before : List ℕ) {n : ℕ} {room : List ℕ}
    → accepted (n ∷ []) ≡ converting raw (length before)
    → room ≡ converted_room raw before
    → Converts raw n room
unfolding converting converted_room if_accepted
converts raw before {n} {room} a e =
    let s = plain_text raw in
    let within = after_test (ltb max_file (length raw)) 1 [] (n ∷ []) _ (sym a) in
    let fitting = after_test (ltb (length before) (length s)) 2 (length s ∷ []) (n ∷ []) _ within.1 in
    let h : n ≡ length s = cc fitting.1 in
    let stands : room ≡ placed s before = rw (← a) at e in
    record { fits = reaches s before room n stands h; text = front s before room n stands h }

-- what the test of a text tells
pub not_plain : (s : List ℕ) (i : ℕ) → plainness_is (Some i) ≡ testing s → (ltb (first_not_plain s) (length s) ≡ true) × (first_not_plain s ≡ i)
unfolding plainness_is testing
not_plain s i e =
    by-test (ltb (first_not_plain s) (length s))
    (λ y. let f : refused 3 (i ∷ []) ≡ refused 3 (first_not_plain s ∷ []) = rw y at e in (y, cc))
    (λ n. let f : ◌≡◌ {A = Answer} (refused 3 (i ∷ [])) (accepted []) = rw n at e in let z : ◌≡◌ {A = ℕ} 0 1 = cc in absurd (omega arith))

pub all_plain : (s : List ℕ) → plainness_is None ≡ testing s → ltb (first_not_plain s) (length s) ≡ false
unfolding plainness_is testing
all_plain s e =
    by-test (ltb (first_not_plain s) (length s))
    (λ y. let f : ◌≡◌ {A = Answer} (accepted []) (refused 3 (first_not_plain s ∷ [])) = rw y at e in let z : ◌≡◌ {A = ℕ} 0 1 = cc in absurd (omega arith))
    (λ n. n)

-- converting a file of this length and reading a text with the signature and no number above its limit
pub reads-again :
    (raw : List ℕ) → length raw ≤ max_file → has_signature (plain_text raw) ≡ true → any_over (items (plain_text raw)) ≡ false → ReadsAgain raw
unfolding refused_only_by and_then if_accepted converting reading_raw reading has all
reads-again raw l signed within room cues regions styles =
    let s = plain_text raw in
    let size : ltb max_text (length s) ≡ false = le-ltb max_text (length s) (omega (arith, plain_text-length raw)) in
    let plain : ltb (first_not_plain s) (length s) ≡ false = le-ltb (first_not_plain s) (length s) (omega (arith, plain_text-plain raw)) in
    let short = ltb cues (length (lists s).cues) || ltb regions (length (lists s).regions) || ltb styles (length (lists s).styles) in
    rw (le-ltb max_file (length raw) l, size, plain, signed, within)
    (by-test (ltb room (length s)) (λ y. rw y refl) (λ n. rw n (by-test short (λ y. rw y refl) (λ m. rw m refl))))
