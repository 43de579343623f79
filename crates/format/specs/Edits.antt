-- One cue replaced after another: request Q-11 of document 02, "Two editors, either order". What is quoted without a name is the request's.
use Rattle.std.specs.Prelude.{Ok}
use Rattle.std.specs.Prelude.{ℕ, ◌≤◌, ◌≡◌, true, false, not, cond, ◌≢◌, List, [], ◌∷◌, ◌++◌, leb, ltb, length, take}
use Rattle.format.specs.Limits.{max_file}
use Rattle.format.specs.Texts.{all}
use Rattle.format.specs.Plain.{plain_text}
use Rattle.format.specs.CueSettings.{no_span, span_is}
use Rattle.format.specs.RegionSettings.{RegionValues}
use Rattle.format.specs.Blocks.{has_signature}
use Rattle.format.specs.Lists.{Cue, items, lists, any_over}
use Rattle.format.specs.LineNumbers.{line_spans}
use Rattle.format.specs.Rows.{greatest_word, region_for, entry_is, new_cue_words}
use Rattle.format.specs.Contents.{contents}
use Rattle.format.specs.Answers.{Answer, accepted, refused, and_then, file_answer}
use Rattle.format.specs.Replacing.{is_there, cue_asked, region_names, new_cue_fails, no_gap, unless_test, new_file, with_cue, replacing_is, replacing, replaced_room}
use Rattle.format.specs.declared.settings.Span.{Span}

-- a change: the number of a cue, and the new cue, a row over a text
pub record Change : Type 0 where
  pub number : ℕ
  pub text : List ℕ
  pub row : List ℕ

-- the next answer where a file and a new cue pass the checks 4, 5, 7, 8, 9, in this order; else the refusal by the first that they do not
unfoldable pub after_checks : List ℕ → ℕ → List ℕ → List ℕ → Answer → Answer
after_checks raw number t w next =
    cond (not (has_signature (plain_text raw))) (refused 4 [])
    (cond (any_over (items (plain_text raw))) (refused 5 [])
    (cond (not (ltb number (length (lists (plain_text raw)).cues))) (refused 7 (length (lists (plain_text raw)).cues ∷ []))
    (unless_test (new_cue_fails t w (region_names (plain_text raw))) number
    (cond (no_gap (plain_text raw) number t w) (refused 9 []) next))))

-- what the checks 4, 5, 7, 8, 9 answer a change, "scratch room, output room and file length aside": no values where all pass
unfoldable pub checked : List ℕ → Change → Answer
checked raw c = after_checks raw c.number c.text c.row (accepted [])

-- the file that it makes
unfoldable pub changed : List ℕ → Change → List ℕ
changed raw c = new_file raw c.number c.text c.row

-- what replacing answers a change, where the file and the scratch room are within their limits: these checks, then 1 (output) and 10
abbrev pub Answered : Type 0
Answered =
    (raw : List ℕ) (c : Change) (scratch out : ℕ)
    → length raw ≤ max_file
    → length (plain_text raw) ≤ scratch
    → replacing raw c.number c.text c.row scratch out ≡ and_then (checked raw c) (file_answer (changed raw c) out)

-- a call that was accepted, by the promise of `replace::replace_cue`, and the file that it left at the start of its output room
pub record Leaves (raw : List ℕ) (c : Change) (new : List ℕ) : Type 0 where
  pub scratch : ℕ
  pub room : List ℕ
  pub left : List ℕ
  pub size : ℕ
  pub answer : replacing_is (Ok size) ≡ replacing raw c.number c.text c.row scratch (length room)
  pub holds : left ≡ replaced_room raw c.number c.text c.row scratch room
  pub file : new ≡ take size left

-- "Replacing cue i, then a different cue j, gives the same bytes as j, then i, whenever all four calls are accepted": of the bytes in the
-- output rooms, and of the definitions, where the checks of the first calls suffice
abbrev pub EitherOrder : Type 0
EitherOrder =
    (raw one both two other : List ℕ) (a b : Change)
    → a.number ≢ b.number
    → Leaves raw a one
    → Leaves one b both
    → Leaves raw b two
    → Leaves two a other
    → both ≡ other

abbrev pub SameFile : Type 0
SameFile =
    (raw : List ℕ) (a b : Change)
    → a.number ≢ b.number
    → checked raw a ≡ accepted []
    → checked raw b ≡ accepted []
    → changed (changed raw a) b ≡ changed (changed raw b) a

-- each call's own answer, number and values, is the same whether or not the other came first, be they of one cue or of two
abbrev pub SameAnswer : Type 0
SameAnswer = (raw : List ℕ) (a b : Change) → checked raw a ≡ accepted [] → checked (changed raw a) b ≡ checked raw b

-- so "acceptance doesn't depend on the order"
abbrev pub AnyOrder : Type 0
AnyOrder =
    (raw : List ℕ) (a b : Change)
    → checked raw a ≡ accepted []
    → checked (changed raw a) b ≡ accepted []
    → (checked raw b ≡ accepted []) × (checked (changed raw b) a ≡ accepted [])

-- "Replacing one cue twice gives what the second alone gives, where all three calls are accepted"
abbrev pub Twice : Type 0
Twice =
    (raw one both two : List ℕ) (a b : Change)
    → a.number ≡ b.number
    → Leaves raw a one
    → Leaves one b both
    → Leaves raw b two
    → both ≡ two

-- the cue that a change of a file asks for is the one that stands there
abbrev pub OldCue : List ℕ → Change → Type 0
OldCue raw c =
    with_cue c.number (cue_asked c.text c.row (region_names (plain_text raw))) (contents (lists (plain_text raw)))
    ≡ contents (lists (plain_text raw))

-- two files read as the same lists, each cue in the same lines
pub record SameReading (raw new : List ℕ) : Type 0 where
  pub reads : contents (lists (plain_text new)) ≡ contents (lists (plain_text raw))
  pub lines : line_spans (plain_text new) ≡ line_spans (plain_text raw)

-- "Putting a writable old cue back, both calls accepted, gives the old reading"
abbrev pub PutBack : Type 0
PutBack =
    (raw one both : List ℕ) (a b : Change)
    → a.number ≡ b.number
    → OldCue raw b
    → Leaves raw a one
    → Leaves one b both
    → SameReading raw both

-- the change that puts back a cue of a file: its own fields in the plain text, and the region's name that it asked for, if the file has one
unfoldable pub name_back : List RegionValues → Cue → Span
name_back rs c = cond (is_there (region_for rs c.region)) (span_is c.region) no_span

unfoldable pub putting_back : List ℕ → ℕ → Cue → Change
putting_back raw number c =
    record {
      number = number;
      text = plain_text raw;
      row = new_cue_words (entry_is (lists (plain_text raw)).regions c) (name_back (lists (plain_text raw)).regions c);
    }

-- it is that cue, its words can be lent, and it is refused by neither 9 nor 8, but by test 4 of 8 where its end is not after its start
pub record Restores (raw : List ℕ) (number : ℕ) (c : Cue) : Type 0 where
  pub old : OldCue raw (putting_back raw number c)
  pub lent : all (λ n. leb n greatest_word) (putting_back raw number c).row ≡ true
  pub answer :
      checked raw (putting_back raw number c)
      ≡ cond (ltb c.start c.end) (accepted []) (refused 8 (2 ∷ number ∷ 4 ∷ []))

-- every cue that is read can be put back
abbrev pub CanBePutBack : Type 0
CanBePutBack =
    (raw : List ℕ) (before : List Cue) (c : Cue) (after : List Cue)
    → length raw ≤ max_file
    → has_signature (plain_text raw) ≡ true
    → any_over (items (plain_text raw)) ≡ false
    → (lists (plain_text raw)).cues ≡ before ++ c ∷ after
    → Restores raw (length before) c
