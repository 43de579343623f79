-- The shape of what is written, read again: lines ended by LF, tokens after spaces, and blocks after empty lines are found as they were put
-- down, and each block means what it was written for.
use Prim.Native.Nat.{ℕ, suc, ◌+◌}
use mathlib.Core.Path.{◌≡◌, refl, sym, ap, ◌∙◌}
use mathlib.Core.Bool.{Bool, true, false, cond, not, ◌&&◌, ◌||◌, false≢true, true≢false}
use mathlib.Core.List.{List, [], ◌∷◌, ◌++◌, map, append_assoc, append-nil}
use Rattle.std.specs.Prelude.{None}
use native.Mathlib.Omega.{arith}
use lib.Dec.{eqb}
use lib.ListN.{length, length-append}
use borrow.Author.Tests.{eqb-true, eq-eqb, not-true}
use Rattle.format.specs.Bytes.{ascii, white, lf, space, colon}
use Rattle.format.specs.Texts.{Part, empty_part, starts_with, is_empty, all, run, has, before_first, after_first}
use Rattle.format.specs.Lines.{split_list_at, split, after_line_ends, join}
use Rattle.format.specs.Tokens.{in_token, on_token, before_tokens, tokens, name_of, value_of}
use Rattle.format.specs.Blocks.{Line, has_signature, seventh, lines_at, line_part, holds_arrow, Collecting, between, header, inside, can_time, stops, begin, go_on}
use Rattle.format.specs.Blocks.{collected, ended, next, blocks_from, after_signature, blocks, bytes_of, joined}
use Rattle.format.specs.TimingLines.{timing_line}
use Rattle.format.specs.RegionSettings.{region_settings}
use Rattle.format.specs.Lists.{Item, style, cue_of, region_of, is_word, definition, meaning}
use Rattle.format.specs.Written.{after_spaces, lines_of, style_lines, apart, line_ended}
use Rattle.format.specs.Writable.{unbroken as unbroken_text, none_empty, first_failing}
use Rattle.laws.proofs.Tests.{and_left, and_right, and_both, and-false, or_first, or_second, by-test, absent}
use Rattle.laws.proofs.Tokens.{inside as black}
use Rattle.laws.proofs.Lines.{unbroken, split_line, split-last, splits}
use Rattle.laws.proofs.Blocks.{state_after, blocks-stop, cut}
use Rattle.laws.proofs.Standing.{All, bytes-lines}

-- the first of two tests, where it is a refusal
pub not_left : (a b : Bool) → not a && b ≡ true → a ≡ false
not_left a b e = not-true a (and_left (not a) b e)

-- lines ended by LF, and the empty line after the last of them
pub split-line_ended : (ls : List (List ℕ)) → unbroken ls ≡ true → split (line_ended ls) ≡ ls ++ [] ∷ []
unfolding split_list_at line_ended unbroken
split-line_ended [] a = refl
split-line_ended (l ∷ ls) a =
    split_line l (line_ended ls) (and_left (absent lf l) (unbroken ls) a)
    ∙ ap (λ r. l ∷ r) (split-line_ended ls (and_right (absent lf l) (unbroken ls) a))

-- a token: some bytes, none of them whitespace
unfoldable pub is_token : List ℕ → Bool
is_token t = not (is_empty t) && all black t

-- a byte before a token that goes on
tokens_longer :
    (p b : ℕ) (s : List ℕ) (t : Part) (ts : List Part)
    → white b ≡ false
    → in_token s ≡ true
    → tokens (suc p) s ≡ t ∷ ts
    → tokens p (b ∷ s) ≡ record { place = p; bytes = b ∷ t.bytes } ∷ ts
unfolding tokens before_tokens on_token
tokens_longer p b s t ts n i e = rw (n, i, e)

-- a token at the start, where none goes on after it
module _ (s : List ℕ) (o : in_token s ≡ false) where
  tokens-word :
      (p b : ℕ) (t : List ℕ)
      → all black (b ∷ t) ≡ true
      → tokens p (b ∷ (t ++ s)) ≡ record { place = p; bytes = b ∷ t } ∷ tokens (p + suc (length t)) s
  unfolding tokens before_tokens in_token all
  tokens-word p b [] a =
      let n = not_left (white b) true a in
      let e : p + 1 ≡ suc p = omega arith in
      rw (n, o, e)
  tokens-word p b (c ∷ t) a =
      let rest = and_right (not (white b)) (all black (c ∷ t)) a in
      let n = not_left (white b) (all black (c ∷ t)) a in
      let i = and_left (not (white c)) (all black t) rest in
      let e : p + suc (suc (length t)) ≡ suc p + suc (length t) = omega arith in
      let first : Part = record { place = suc p; bytes = c ∷ t } in
      rw e (tokens_longer p b (c ∷ (t ++ s)) first (tokens (suc p + suc (length t)) s) n i (tokens-word (suc p) c t rest))

  pub tokens-first :
      (p : ℕ) (t : List ℕ) → is_token t ≡ true → tokens p (t ++ s) ≡ record { place = p; bytes = t } ∷ tokens (p + length t) s
  unfolding is_token is_empty
  tokens-first p [] e = absurd (false≢true e)
  tokens-first p (b ∷ t) e = tokens-word p b t e

-- tokens, each after the same byte of whitespace
unfoldable after : ℕ → List (List ℕ) → List ℕ
after c [] = []
after c (t ∷ ts) = c ∷ (t ++ after c ts)

-- texts with their places, the first at p: each ends one byte before the next one begins
unfoldable pub parts_at : ℕ → List (List ℕ) → List Part
parts_at p [] = []
parts_at p (t ∷ ts) = record { place = p; bytes = t } ∷ parts_at (p + suc (length t)) ts

-- the texts of two lists, one after the other
pub parts_append : (p : ℕ) (a b : List (List ℕ)) → parts_at p (a ++ b) ≡ parts_at p a ++ parts_at (p + length (line_ended a)) b
unfolding parts_at line_ended
parts_append p [] b = let e : p + 0 ≡ p = omega arith in rw e
parts_append p (t ∷ a) b =
    let n = length-append t (lf ∷ line_ended a) in
    let e : p + length (t ++ lf ∷ line_ended a) ≡ p + suc (length t) + length (line_ended a) = omega arith in
    rw e (ap (λ r. record { place = p; bytes = t } ∷ r) (parts_append (p + suc (length t)) a b))

module _ (c : ℕ) (w : white c ≡ true) where
  after-ends : (ts : List (List ℕ)) → in_token (after c ts) ≡ false
  unfolding after in_token
  after-ends [] = refl
  after-ends (t ∷ ts) = rw w

  tokens_past : (p : ℕ) (s : List ℕ) → tokens p (c ∷ s) ≡ tokens (suc p) s
  unfolding tokens before_tokens
  tokens_past p s = rw w

  tokens-row :
      (p : ℕ) (t : List ℕ) (ts : List (List ℕ)) → All (λ t. is_token t ≡ true) (t ∷ ts) → tokens p (t ++ after c ts) ≡ parts_at p (t ∷ ts)
  unfolding after parts_at tokens
  tokens-row p t [] h = tokens-first [] (after-ends []) p t h.0
  tokens-row p t (u ∷ us) h =
      let e : p + suc (length t) ≡ suc (p + length t) = omega arith in
      let rest = tokens_past (p + length t) (u ++ after c us) ∙ tokens-row (suc (p + length t)) u us h.1 in
      tokens-first (after c (u ∷ us)) (after-ends (u ∷ us)) p t h.0 ∙ rw e (ap (λ r. record { place = p; bytes = t } ∷ r) rest)

  tokens-after : (p : ℕ) (ts : List (List ℕ)) → All (λ t. is_token t ≡ true) ts → tokens p (after c ts) ≡ parts_at (suc p) ts
  unfolding after parts_at tokens
  tokens-after p [] h = refl
  tokens-after p (t ∷ ts) h = tokens_past p (t ++ after c ts) ∙ tokens-row (suc p) t ts h

after_spaces_lem : (ts : List (List ℕ)) → after_spaces ts ≡ after space ts
unfolding after_spaces after
after_spaces_lem [] = refl
after_spaces_lem (t ∷ ts) = ap (λ r. space ∷ (t ++ r)) (after_spaces_lem ts)

after-lines : (ls : List (List ℕ)) → after_line_ends ls ≡ after lf ls
unfolding after_line_ends after
after-lines [] = refl
after-lines (l ∷ ls) = ap (λ r. lf ∷ (l ++ r)) (after-lines ls)

white-space : white space ≡ true
unfolding white
white-space = refl

white-lf : white lf ≡ true
unfolding white
white-lf = refl

-- the tokens of a timing line's settings, and of a region's lines
pub tokens-after_spaces : (p : ℕ) (ts : List (List ℕ)) → All (λ t. is_token t ≡ true) ts → tokens p (after_spaces ts) ≡ parts_at (suc p) ts
tokens-after_spaces p ts h = rw (after_spaces_lem ts) (tokens-after space white-space p ts h)

pub tokens-join : (p : ℕ) (ls : List (List ℕ)) → All (λ t. is_token t ≡ true) ls → tokens p (join ls) ≡ parts_at p ls
unfolding join tokens parts_at
tokens-join p [] h = refl
tokens-join p (l ∷ ls) h = rw (after-lines ls) (tokens-row lf white-lf p l ls h)

-- a name, a byte that is not in it, and a value
module _ (c : ℕ) (value : List ℕ) where
  pub before_first_lem : (name : List ℕ) → absent c name ≡ true → before_first c (name ++ c ∷ value) ≡ name
  unfolding before_first run absent
  before_first_lem [] a = rw (eq-eqb c c refl)
  before_first_lem (b ∷ name) a =
      rw (not_left (eqb b c) (absent c name) a)
      (ap (λ r. b ∷ r) (before_first_lem name (and_right (not (eqb b c)) (absent c name) a)))

  pub after_first_lem : (name : List ℕ) → absent c name ≡ true → after_first c (name ++ c ∷ value) ≡ value
  unfolding after_first absent
  after_first_lem [] a = rw (eq-eqb c c refl)
  after_first_lem (b ∷ name) a =
      rw (not_left (eqb b c) (absent c name) a) (after_first_lem name (and_right (not (eqb b c)) (absent c name) a))

module _ (t : Part) (name value : List ℕ) (a : absent colon name ≡ true) (e : t.bytes ≡ name ++ colon ∷ value) where
  pub setting-name : name_of t ≡ name
  unfolding name_of
  setting-name = ap (before_first colon) e ∙ before_first_lem colon value name a

  pub setting-value : value_of t ≡ record { place = t.place + suc (length name); bytes = value }
  unfolding value_of
  setting-value = rw (setting-name, e, after_first_lem colon value name a)

-- no line holds `-->`
unfoldable pub no_arrow : List (List ℕ) → Bool
no_arrow [] = true
no_arrow (l ∷ ls) = not (holds_arrow l) && no_arrow ls

-- a line that holds `-->` is line 1, or line 2 where line 1 holds none; first, the lines from line 2 on in the second case
unfoldable pub from_second : List (List ℕ) → Bool
from_second [] = true
from_second (l ∷ ls) = no_arrow ls

unfoldable pub timed : List (List ℕ) → Bool
timed [] = false
timed (l ∷ ls) = cond (holds_arrow l) (no_arrow ls) (from_second ls)

-- lines of which collecting makes one block: there are some, none of them is empty, and it stops before none of them
pub record Closed (b : List (List ℕ)) : Type 0 where
  pub full : none_empty b ≡ true
  pub once : timed b ≡ true

-- a line before which collecting does not stop
goes_on :
    (b : List Line) (l : Line) (ls : List Line)
    → stops (inside b) l ≡ false
    → blocks_from (inside b) (l ∷ ls) ≡ blocks_from (inside (b ++ l ∷ [])) ls
unfolding blocks_from ended next go_on
goes_on b l ls e = rw e

quiet_line : (b : List Line) (l : Line) → is_empty l.bytes ≡ false → holds_arrow l.bytes ≡ false → stops (inside b) l ≡ false
unfolding stops
quiet_line b l e a = rw (e, a)

second_line : (first l : Line) → is_empty l.bytes ≡ false → holds_arrow first.bytes ≡ false → stops (inside (first ∷ [])) l ≡ false
unfolding stops can_time
second_line first l e a = rw (e, a) (and-false (holds_arrow l.bytes) false refl)

-- lines after a block's begin that hold no `-->`
quiet_lines :
    (b : List Line) (k p : ℕ) (ls : List (List ℕ))
    → none_empty ls ≡ true
    → no_arrow ls ≡ true
    → blocks_from (inside b) (lines_at k p ls) ≡ (b ++ lines_at k p ls) ∷ []
unfolding lines_at none_empty no_arrow blocks_from collected
quiet_lines b k p [] f n = rw (append-nil b)
quiet_lines b k p (l ∷ ls) f n =
    let at : Line = record { number = k; place = p; bytes = l } in
    let rest = lines_at (suc k) (p + suc (length l)) ls in
    let e = not_left (is_empty l) (none_empty ls) f in
    let a = not_left (holds_arrow l) (no_arrow ls) n in
    goes_on b at rest (quiet_line b at e a)
    ∙ quiet_lines (b ++ at ∷ []) (suc k) (p + suc (length l)) ls (and_right (not (is_empty l)) (none_empty ls) f)
    (and_right (not (holds_arrow l)) (no_arrow ls) n)
    ∙ ap (λ r. r ∷ []) (append_assoc b (at ∷ []) rest)

begins : (l : Line) (ls : List Line) → is_empty l.bytes ≡ false → blocks_from between (l ∷ ls) ≡ blocks_from (inside (l ∷ [])) ls
unfolding blocks_from ended next stops collected begin
begins l ls e = rw e

-- a closed block alone
closed_rest :
    (first : Line) (k p : ℕ) (ls : List (List ℕ))
    → none_empty ls ≡ true
    → cond (holds_arrow first.bytes) (no_arrow ls) (from_second ls) ≡ true
    → blocks_from (inside (first ∷ [])) (lines_at k p ls) ≡ (first ∷ lines_at k p ls) ∷ []
unfolding lines_at none_empty no_arrow from_second blocks_from collected
closed_rest first k p [] f t = refl
closed_rest first k p (l ∷ ls) f t =
    by-test (holds_arrow first.bytes)
    (λ y. quiet_lines (first ∷ []) k p (l ∷ ls) f (rw y at t))
    (λ n. let at : Line = record { number = k; place = p; bytes = l } in
    let rest = lines_at (suc k) (p + suc (length l)) ls in
    let e = not_left (is_empty l) (none_empty ls) f in
    goes_on (first ∷ []) at rest (second_line first at e n)
    ∙ quiet_lines (first ∷ at ∷ []) (suc k) (p + suc (length l)) ls (and_right (not (is_empty l)) (none_empty ls) f) (rw n at t))

pub closed_block : (k p : ℕ) (b : List (List ℕ)) → Closed b → blocks_from between (lines_at k p b) ≡ lines_at k p b ∷ []
unfolding lines_at none_empty timed
closed_block k p [] c = absurd (false≢true c.once)
closed_block k p (l ∷ ls) c =
    let at : Line = record { number = k; place = p; bytes = l } in
    let e = not_left (is_empty l) (none_empty ls) c.full in
    begins at (lines_at (suc k) (p + suc (length l)) ls) e
    ∙ closed_rest at (suc k) (p + suc (length l)) ls (and_right (not (is_empty l)) (none_empty ls) c.full) c.once

-- an empty line ends what is being collected
stops_empty : (st : Collecting) (l : Line) → is_empty l.bytes ≡ true → stops st l ≡ true
unfolding stops
stops_empty between l e = refl
stops_empty header l e = rw e
stops_empty (inside ls) l e = rw e

gap : (l : Line) (ls : List Line) → is_empty l.bytes ≡ true → blocks_from between (l ∷ ls) ≡ blocks_from between ls
unfolding blocks_from ended next stops collected begin
gap l ls e = rw e

-- the same for lines
pub lines_append :
    (k p : ℕ) (a b : List (List ℕ))
    → lines_at k p (a ++ b) ≡ lines_at k p a ++ lines_at (k + length a) (p + length (line_ended a)) b
unfolding lines_at line_ended
lines_append k p [] b =
    let e : p + 0 ≡ p = omega arith in
    let m : k + 0 ≡ k = omega arith in
    rw (e, m)
lines_append k p (l ∷ a) b =
    let n = length-append l (lf ∷ line_ended a) in
    let e : p + length (l ++ lf ∷ line_ended a) ≡ p + suc (length l) + length (line_ended a) = omega arith in
    let m : k + suc (length a) ≡ suc k + length a = omega arith in
    rw (e, m) (ap (λ r. record { number = k; place = p; bytes = l } ∷ r) (lines_append (suc k) (p + suc (length l)) a b))

-- lines after a block that begin with an empty one
module _ (b : List (List ℕ)) (c : Closed b) (k p : ℕ) where
  closed_before :
      (l : Line) (ls : List Line)
      → is_empty l.bytes ≡ true
      → blocks_from between (lines_at k p b ++ l ∷ ls) ≡ lines_at k p b ∷ blocks_from between (l ∷ ls)
  closed_before l ls e =
      cut between (lines_at k p b) l ls (stops_empty (state_after between (lines_at k p b)) l e)
      ∙ ap (λ r. r ++ blocks_from between (l ∷ ls)) (closed_block k p b c)

  closed_apart :
      (bs : List (List (List ℕ)))
      → blocks_from between (lines_at k p (b ++ (apart bs ++ [] ∷ [])))
      ≡ lines_at k p b ∷ blocks_from between (lines_at (k + length b) (p + length (line_ended b)) (apart bs ++ [] ∷ []))
  unfolding apart lines_at is_empty
  closed_apart [] = ap (blocks_from between) (lines_append k p b ([] ∷ [])) ∙ closed_before _ _ refl
  closed_apart (d ∷ bs) = ap (blocks_from between) (lines_append k p b (apart (d ∷ bs) ++ [] ∷ [])) ∙ closed_before _ _ refl

blocks-apart :
    (k p : ℕ) (bs : List (List (List ℕ))) → All Closed bs → map bytes_of (blocks_from between (lines_at k p (apart bs ++ [] ∷ []))) ≡ bs
unfolding apart lines_at is_empty blocks_from collected
blocks-apart k p [] cs = ap (map bytes_of) (gap (record { number = k; place = p; bytes = [] }) [] refl)
blocks-apart k p (b ∷ bs) cs =
    let empty : Line = record { number = k; place = p; bytes = [] } in
    let past = gap empty (lines_at (suc k) (p + 1) (b ++ (apart bs ++ [] ∷ []))) refl in
    let rest = blocks-apart (suc k + length b) (p + 1 + length (line_ended b)) bs cs.1 in
    rw (append_assoc b (apart bs) ([] ∷ []))
    (ap (map bytes_of) (past ∙ closed_apart b cs.0 (suc k) (p + 1) bs) ∙ rw (bytes-lines (suc k) (p + 1) b, rest))

-- the first empty line ends the header block, which yields nothing
header-ends :
    (k p : ℕ) (bs : List (List (List ℕ)))
    → blocks_from header (lines_at k p (apart bs ++ [] ∷ [])) ≡ blocks_from between (lines_at k p (apart bs ++ [] ∷ []))
unfolding apart lines_at is_empty collected
header-ends k p [] = blocks-stop header _ _ (stops_empty header _ refl)
header-ends k p (b ∷ bs) = blocks-stop header _ _ (stops_empty header _ refl)

pub blocks-header :
    (k p : ℕ) (bs : List (List (List ℕ))) → All Closed bs → map bytes_of (blocks_from header (lines_at k p (apart bs ++ [] ∷ []))) ≡ bs
blocks-header k p bs cs = ap (map bytes_of) (header-ends k p bs) ∙ blocks-apart k p bs cs

-- a closed block of lines without LF
pub record Block (b : List (List ℕ)) : Type 0 where
  pub whole : unbroken b ≡ true
  pub closed : Closed b

all_closed : (bs : List (List (List ℕ))) → All Block bs → All Closed bs
all_closed [] h = h
all_closed (b ∷ bs) h = (h.0.closed, all_closed bs h.1)

pub unbroken_append : (a b : List (List ℕ)) → unbroken a ≡ true → unbroken b ≡ true → unbroken (a ++ b) ≡ true
unfolding unbroken
unbroken_append [] b g h = h
unbroken_append (l ∷ a) b g h =
    and_both (absent lf l) (unbroken (a ++ b)) (and_left (absent lf l) (unbroken a) g)
    (unbroken_append a b (and_right (absent lf l) (unbroken a) g) h)

unbroken-apart : (bs : List (List (List ℕ))) → All Block bs → unbroken (apart bs) ≡ true
unfolding unbroken apart absent
unbroken-apart [] h = refl
unbroken-apart (b ∷ bs) h = unbroken_append b (apart bs) h.0.whole (unbroken-apart bs h.1)

-- a file of such blocks
abbrev pub file_of : List (List (List ℕ)) → List ℕ
file_of bs = line_ended (ascii "WEBVTT" ∷ apart bs)

signature-unbroken : (ls : List (List ℕ)) → unbroken ls ≡ true → unbroken (ascii "WEBVTT" ∷ ls) ≡ true
unfolding unbroken absent
signature-unbroken ls h = h

pub blocks-file : (bs : List (List (List ℕ))) → All Block bs → map bytes_of (blocks (file_of bs)) ≡ bs
unfolding blocks after_signature lines_at
blocks-file bs h =
    let lines = split-line_ended (ascii "WEBVTT" ∷ apart bs) (signature-unbroken (apart bs) (unbroken-apart bs h)) in
    ap (λ ls. map bytes_of (after_signature (lines_at 0 0 ls))) lines
    ∙ blocks-header 1 7 bs (all_closed bs h)

pub signature-file : (bs : List (List (List ℕ))) → has_signature (file_of bs) ≡ true
unfolding has_signature starts_with seventh line_ended
signature-file bs = refl

-- lines that are not empty and hold no LF and no `-->`
pub record Quiet (ls : List (List ℕ)) : Type 0 where
  pub whole : unbroken ls ≡ true
  pub full : none_empty ls ≡ true
  pub plain : no_arrow ls ≡ true

-- a token has no LF
pub black_line : (t : List ℕ) → all black t ≡ true → absent lf t ≡ true
unfolding all absent white
black_line [] e = refl
black_line (b ∷ t) e =
    let rest = black_line t (and_right (black b) (all black t) e) in
    by-test (eqb b lf)
    (λ y. absurd (true≢false (ap white (sym (eqb-true b lf y)) ∙ not_left (white b) (all black t) e)))
    (λ n. rw n rest)

pub quiet_tokens : (ls : List (List ℕ)) → All (λ l. is_token l ≡ true) ls → no_arrow ls ≡ true → Quiet ls
unfolding is_token unbroken none_empty no_arrow
quiet_tokens [] h n = record { whole = refl; full = refl; plain = refl }
quiet_tokens (l ∷ ls) h n =
    let rest = quiet_tokens ls h.1 (and_right (not (holds_arrow l)) (no_arrow ls) n) in
    record {
      whole = and_both (absent lf l) (unbroken ls) (black_line l (and_right (not (is_empty l)) (all black l) h.0)) rest.whole;
      full = and_both (not (is_empty l)) (none_empty ls) (and_left (not (is_empty l)) (all black l) h.0) rest.full;
      plain = n;
    }

-- what holds no `-->` holds none at its start and none at its end
starts_front : (p l s : List ℕ) → starts_with p (l ++ s) ≡ false → starts_with p l ≡ false
unfolding starts_with
starts_front [] l s e = e
starts_front (c ∷ p) [] s e = refl
starts_front (c ∷ p) (b ∷ l) s e =
    by-test (eqb b c) (λ y. let f : starts_with p (l ++ s) ≡ false = rw y at e in rw y (starts_front p l s f)) (λ n. rw n)

arrow_front : (l s : List ℕ) → holds_arrow (l ++ s) ≡ false → holds_arrow l ≡ false
unfolding holds_arrow
arrow_front [] s e = refl
arrow_front (b ∷ l) s e =
    let here = starts_with (ascii "-->") (b ∷ (l ++ s)) in
    rw (starts_front (ascii "-->") (b ∷ l) s (or_first here (holds_arrow (l ++ s)) e))
    (arrow_front l s (or_second here (holds_arrow (l ++ s)) e))

arrow_back : (l s : List ℕ) → holds_arrow (l ++ s) ≡ false → holds_arrow s ≡ false
unfolding holds_arrow
arrow_back [] s e = e
arrow_back (b ∷ l) s e = arrow_back l s (or_second (starts_with (ascii "-->") (b ∷ (l ++ s))) (holds_arrow (l ++ s)) e)

no_arrow-join : (l : List ℕ) (ls : List (List ℕ)) → holds_arrow (join (l ∷ ls)) ≡ false → no_arrow (l ∷ ls) ≡ true
unfolding join after_line_ends no_arrow
no_arrow-join l [] e = rw (arrow_front l [] e)
no_arrow-join l (m ∷ ms) e =
    let rest = m ++ after_line_ends ms in
    rw (arrow_front l (lf ∷ rest) e) (no_arrow-join m ms (arrow_back (lf ∷ []) rest (arrow_back l (lf ∷ rest) e)))

pub quiet_split : (text : List ℕ) → unbroken_text text ≡ true → Quiet (split text)
unfolding unbroken_text
quiet_split text e =
    let t = splits text in
    let a = not-true (holds_arrow text) (and_right (none_empty (split text)) (not (holds_arrow text)) e) in
    record {
      whole = rw t.is t.whole;
      full = and_left (none_empty (split text)) (not (holds_arrow text)) e;
      plain = rw t.is (no_arrow-join t.first t.rest (rw t.joined a));
    }

pub quiet_lines_of : (text : List ℕ) → is_empty text || unbroken_text text ≡ true → Quiet (lines_of text)
unfolding lines_of unbroken none_empty no_arrow
quiet_lines_of text e =
    by-test (is_empty text)
    (λ y. rw y (record { whole = refl; full = refl; plain = refl }))
    (λ n. let f : unbroken_text text ≡ true = rw n at e in rw n (quiet_split text f))

-- an empty identifier gives no line, another gives one
lines_none : (x : List ℕ) → is_empty x ≡ true → lines_of x ≡ []
unfolding lines_of
lines_none x y = rw y

lines-one : (x : List ℕ) → absent lf x ≡ true → is_empty x ≡ false → lines_of x ≡ x ∷ []
unfolding lines_of
lines-one x a n = rw n (split-last x a)

-- a line before quiet ones: a timing line, or any line
arrow_full : (t : List ℕ) → holds_arrow t ≡ true → is_empty t ≡ false
unfolding holds_arrow is_empty
arrow_full [] e = sym e
arrow_full (b ∷ t) e = refl

timing_block : (t : List ℕ) (ls : List (List ℕ)) → absent lf t ≡ true → holds_arrow t ≡ true → Quiet ls → Block (t ∷ ls)
unfolding unbroken none_empty timed
timing_block t ls w a q =
    record {
      whole = and_both (absent lf t) (unbroken ls) w q.whole;
      closed = record { full = rw (arrow_full t a) q.full; once = rw a q.plain };
    }

from_second_lem : (ls : List (List ℕ)) → no_arrow ls ≡ true → from_second ls ≡ true
unfolding from_second no_arrow
from_second_lem [] e = refl
from_second_lem (m ∷ ms) e = and_right (not (holds_arrow m)) (no_arrow ms) e

module _ (l : List ℕ) (w : absent lf l ≡ true) (f : is_empty l ≡ false) (a : holds_arrow l ≡ false) where
  second_block : (t : List ℕ) (ls : List (List ℕ)) → absent lf t ≡ true → holds_arrow t ≡ true → Quiet ls → Block (l ∷ t ∷ ls)
  unfolding unbroken none_empty timed from_second
  second_block t ls v b q =
      record {
        whole = and_both (absent lf l) (unbroken (t ∷ ls)) w (timing_block t ls v b q).whole;
        closed = record { full = rw f (timing_block t ls v b q).closed.full; once = rw a q.plain };
      }

  word-block : (ls : List (List ℕ)) → Quiet ls → Block (l ∷ ls)
  unfolding unbroken none_empty timed
  word-block ls q =
      record {
        whole = and_both (absent lf l) (unbroken ls) w q.whole;
        closed = record { full = rw f q.full; once = rw a (from_second_lem ls q.plain) };
      }

-- an identifier's test says that it has no LF
pub absent_has : (c : ℕ) (s : List ℕ) → not (has c s) ≡ true → absent c s ≡ true
unfolding has all absent
absent_has c [] e = refl
absent_has c (b ∷ s) e = by-test (eqb b c) (λ y. absurd (false≢true (rw y at e))) (λ n. rw n (absent_has c s (rw n at e)))

-- the blocks of a cue, a style and a region
pub cue-block :
    (id t text : List ℕ)
    → absent lf id ≡ true
    → holds_arrow id ≡ false
    → absent lf t ≡ true
    → holds_arrow t ≡ true
    → is_empty text || unbroken_text text ≡ true
    → Block (lines_of id ++ t ∷ lines_of text)
cue-block id t text w a v b e =
    by-test (is_empty id)
    (λ y. rw (lines_none id y) (timing_block t (lines_of text) v b (quiet_lines_of text e)))
    (λ n. rw (lines-one id w n) (second_block id w n a t (lines_of text) v b (quiet_lines_of text e)))

pub style-block : (text : List ℕ) → unbroken_text text ≡ true → Block (style_lines text)
unfolding style_lines absent is_empty holds_arrow starts_with
style-block text e = word-block (ascii "STYLE") refl refl refl (split text) (quiet_split text e)

pub region-block : (ls : List (List ℕ)) → Quiet ls → Block (ascii "REGION" ∷ ls)
unfolding absent is_empty holds_arrow starts_with
region-block ls q = word-block (ascii "REGION") refl refl refl ls q

-- lines that follow each other are one part, and those of a text are the text
joined-lines : (k p : ℕ) (l : List ℕ) (ls : List (List ℕ)) → joined (lines_at k p (l ∷ ls)) ≡ record { place = p; bytes = join (l ∷ ls) }
unfolding joined lines_at bytes_of
joined-lines k p l ls = rw (bytes-lines (suc k) (p + suc (length l)) ls)

joined-split : (k p : ℕ) (text : List ℕ) → joined (lines_at k p (split text)) ≡ record { place = p; bytes = text }
joined-split k p text =
    let t = splits text in
    rw t.is (joined-lines k p t.first t.rest ∙ rw t.joined)

pub empty_is : (x : List ℕ) → is_empty x ≡ true → [] ≡ x
unfolding is_empty
empty_is [] e = refl
empty_is (b ∷ x) e = absurd (false≢true e)

pub joined-lines_of : (k p : ℕ) (text : List ℕ) → (joined (lines_at k p (lines_of text))).bytes ≡ text
unfolding lines_of lines_at joined
joined-lines_of k p text =
    by-test (is_empty text)
    (λ y. rw y (empty_is text y))
    (λ n. rw n (ap (λ q. q.bytes) (joined-split k p text)))

-- a block whose first line is its timing line, one whose second line is, and one that has none
timing_first :
    (seen : Bool) (l : Line) (ls : List Line)
    → holds_arrow l.bytes ≡ true
    → meaning seen (l ∷ ls) ≡ cue_of empty_part ls (timing_line (line_part l))
unfolding meaning
timing_first seen l [] a = rw a
timing_first seen l (m ∷ ms) a = rw a

module _ (seen : Bool) (l m : Line) (ls : List Line) (a : holds_arrow l.bytes ≡ false) where
  timing_second : holds_arrow m.bytes ≡ true → meaning seen (l ∷ m ∷ ls) ≡ cue_of (line_part l) ls (timing_line (line_part m))
  unfolding meaning
  timing_second b = rw (a, b)

  timing_none : holds_arrow m.bytes ≡ false → meaning seen (l ∷ m ∷ ls) ≡ definition seen l (m ∷ ls)
  unfolding meaning
  timing_none b = rw (a, b)

-- the cue of a timing line t with an identifier and a text
pub record CueOf (id t text : List ℕ) (i : Item) : Type 0 where
  pub name : Part
  pub line : Part
  pub rest : List Line
  pub is : i ≡ cue_of name rest (timing_line line)
  pub named : name.bytes ≡ id
  pub timed : line.bytes ≡ t
  pub says : (joined rest).bytes ≡ text

found :
    {id t text : List ℕ} {i : Item} (k q : ℕ) (name line : Part)
    → name.bytes ≡ id
    → line.bytes ≡ t
    → i ≡ cue_of name (lines_at k q (lines_of text)) (timing_line line)
    → CueOf id t text i
found {text = text} k q name line n t e =
    record { name = name; line = line; rest = lines_at k q (lines_of text); is = e; named = n; timed = t; says = joined-lines_of k q text }

pub cue_means :
    (seen : Bool) (k p : ℕ) (id t text : List ℕ)
    → absent lf id ≡ true
    → holds_arrow id ≡ false
    → holds_arrow t ≡ true
    → CueOf id t text (meaning seen (lines_at k p (lines_of id ++ t ∷ lines_of text)))
unfolding lines_at
cue_means seen k p id t text w a b =
    by-test (is_empty id)
    (λ y. let line : Line = record { number = k; place = p; bytes = t } in
    let q = p + suc (length t) in
    rw (lines_none id y)
    (found (suc k) q empty_part (line_part line) (empty_is id y) refl (timing_first seen line (lines_at (suc k) q (lines_of text)) b)))
    (λ n. let name : Line = record { number = k; place = p; bytes = id } in
    let line : Line = record { number = suc k; place = p + suc (length id); bytes = t } in
    let q = p + suc (length id) + suc (length t) in
    let rest = lines_at (suc (suc k)) q (lines_of text) in
    rw (lines-one id w n) (found (suc (suc k)) q (line_part name) (line_part line) refl refl (timing_second seen name line rest a b)))

-- a definition: a word without `-->`, and quiet lines
defines :
    (seen : Bool) (k p : ℕ) (word l : List ℕ) (ls : List (List ℕ))
    → holds_arrow word ≡ false
    → no_arrow (l ∷ ls) ≡ true
    → meaning seen (lines_at k p (word ∷ l ∷ ls))
    ≡ definition seen (record { number = k; place = p; bytes = word }) (lines_at (suc k) (p + suc (length word)) (l ∷ ls))
unfolding lines_at no_arrow
defines seen k p word l ls a n =
    timing_none seen (record { number = k; place = p; bytes = word }) (record { number = suc k; place = p + suc (length word); bytes = l })
    (lines_at (suc (suc k)) (p + suc (length word) + suc (length l)) ls) a (not_left (holds_arrow l) (no_arrow ls) n)

defines_style : (l : Line) (ls : List Line) → l.bytes ≡ ascii "STYLE" → definition false l ls ≡ style (joined ls)
unfolding definition is_word starts_with all
defines_style l ls e = rw e refl

defines_region : (l : Line) (ls : List Line) → l.bytes ≡ ascii "REGION" → definition false l ls ≡ region_of (region_settings (joined ls))
unfolding definition is_word starts_with all
defines_region l ls e = rw e refl

style-arrow : holds_arrow (ascii "STYLE") ≡ false
unfolding holds_arrow starts_with
style-arrow = refl

region-arrow : holds_arrow (ascii "REGION") ≡ false
unfolding holds_arrow starts_with
region-arrow = refl

pub style_means :
    (k p : ℕ) (text : List ℕ)
    → unbroken_text text ≡ true
    → meaning false (lines_at k p (style_lines text)) ≡ style (record { place = p + 6; bytes = text })
unfolding style_lines
style_means k p text e =
    let t = splits text in
    let plain : no_arrow (t.first ∷ t.rest) ≡ true = rw t.is at (quiet_split text e).plain in
    rw t.is (defines false k p (ascii "STYLE") t.first t.rest style-arrow plain)
    ∙ defines_style (record { number = k; place = p; bytes = ascii "STYLE" }) (lines_at (suc k) (p + 6) (t.first ∷ t.rest)) refl
    ∙ ap style (rw t.is at (joined-split (suc k) (p + 6) text))

pub region_means :
    (k p : ℕ) (l : List ℕ) (ls : List (List ℕ))
    → no_arrow (l ∷ ls) ≡ true
    → meaning false (lines_at k p (ascii "REGION" ∷ l ∷ ls)) ≡ region_of (region_settings (record { place = p + 7; bytes = join (l ∷ ls) }))
region_means k p l ls n =
    defines false k p (ascii "REGION") l ls region-arrow n
    ∙ defines_region (record { number = k; place = p; bytes = ascii "REGION" }) (lines_at (suc k) (p + 7) (l ∷ ls)) refl
    ∙ ap (λ q. region_of (region_settings q)) (joined-lines (suc k) (p + 7) l ls)

-- a row that no test refuses passes each of them
pub none-fails : (n : ℕ) (ts : List Bool) → first_failing n ts ≡ None → All (λ t. t ≡ true) ts
unfolding first_failing
none-fails n [] e = tt
none-fails n (true ∷ ts) e = (refl, none-fails (n + 1) ts e)
none-fails n (false ∷ ts) e = let z : ◌≡◌ {A = ℕ} 0 1 = cc in absurd (omega arith)
