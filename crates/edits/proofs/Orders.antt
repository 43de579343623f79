-- Request Q-11: two changes in either order, one cue changed twice, and an old cue put back; of the definitions and of the bytes that are left in
-- the output rooms.
use Prim.Native.Nat.{ℕ, ◌<◌}
use mathlib.Core.Path.{◌≡◌, refl, sym, ap, ◌∙◌}
use mathlib.Core.Bool.{Bool, true, false, cond}
use mathlib.Core.List.{List, [], ◌∷◌, map}
use Rattle.std.specs.Prelude.{Option, None, Some}
use native.Mathlib.Omega.{arith}
use lib.ListN.{length, get_or, length-map, get_or-map}
use lib.Seq.{set-set, get_or-set_same}
use borrow.Author.Tests.{le-ltb}
use Rattle.format.specs.Limits.{max_file}
use Rattle.format.specs.Plain.{plain_text}
use Rattle.format.specs.Lines.{split}
use Rattle.format.specs.Lists.{lists}
use Rattle.format.specs.LineNumbers.{line_spans, span_at}
use Rattle.format.specs.Contents.{CueContents, Contents, contents}
use Rattle.format.specs.Written.{cue_lines}
use Rattle.format.specs.Answers.{Answer, accepted, refused, if_accepted, and_then, file_answer, placed}
use Rattle.format.specs.Converting.{converting}
use Rattle.format.specs.Replacing.{cue_asked, region_names, new_form, new_file, with_cue, unless_test, replacing_is, replacing_text, replacing, replaced_room}
use Rattle.format.specs.Edits.{after_checks, Change, checked, changed, Answered, Leaves, EitherOrder, SameFile, SameAnswer, AnyOrder, Twice, PutBack}
use Rattle.laws.proofs.Answers.{front, file-made}
use Rattle.laws.proofs.LineNumbers.{spans_length, read_lines}
use Rattle.replaced.proofs.Asked.{form_begins}
use Rattle.replaced.proofs.Spans.{put_back as lines-back}
use Rattle.replaced.proofs.Files.{Passes, NewFile, passes, accepts, new_file_lem}
use Rattle.edits.proofs.Moved.{get_d_any}
use Rattle.edits.proofs.Changed.{contents-count, names_same, count_same, form_same, checks_same, either_file, twice_file}

-- a change that passes the checks of a file
abbrev Fits : List ℕ → Change → Type 0
Fits raw c = Passes raw c.number c.text c.row

fits : (raw : List ℕ) (c : Change) → checked raw c ≡ accepted [] → Fits raw c
unfolding checked
fits raw c e = (passes raw c.number c.text c.row (accepted []) [] e).0

-- what comes after the checks comes after their answer
module _ (next : Answer) where
  after-cond : (t : Bool) (n : ℕ) (vs : List ℕ) (a : Answer) → and_then (cond t (refused n vs) a) next ≡ cond t (refused n vs) (and_then a next)
  unfolding and_then if_accepted
  after-cond true n vs a = refl
  after-cond false n vs a = refl

  after_test : (o : Option ℕ) (n : ℕ) (a : Answer) → and_then (unless_test o n a) next ≡ unless_test o n (and_then a next)
  unfolding unless_test and_then if_accepted
  after_test None n a = refl
  after_test (Some test) n a = refl

  checks_then : (raw : List ℕ) (number : ℕ) (t w : List ℕ) → and_then (after_checks raw number t w (accepted [])) next ≡ after_checks raw number t w next
  unfolding after_checks and_then if_accepted
  checks_then raw number t w = simp (after-cond, after_test)

pub answered : Answered
unfolding checked changed replacing replacing_text after_checks converting and_then if_accepted
answered raw c scratch out short room =
    rw (le-ltb max_file (length raw) short, le-ltb scratch (length (plain_text raw)) room)
    (sym (checks_then (file_answer (changed raw c) out) raw c.number c.text c.row))

pub same_answer : SameAnswer
unfolding checked changed
same_answer raw a b e =
    let p = fits raw a e in
    checks_same raw a.number a.text a.row (changed raw a) p (new_file_lem raw a.number a.text a.row p) b.number b.text b.row (accepted [])

pub any_order : AnyOrder
any_order raw a b e f =
    let own : checked raw b ≡ accepted [] = sym (same_answer raw a b e) ∙ f in
    (own, same_answer raw b a own ∙ e)

pub same-file : SameFile
unfolding changed
same-file raw a b other e f =
    either_file raw a.number a.text a.row b.number b.text b.row (fits raw a e) (fits raw b f) other

-- a call that was accepted left the new file, and its checks were passed
record Left (raw : List ℕ) (c : Change) (new : List ℕ) : Type 0 where
  file : new ≡ changed raw c
  passed : Fits raw c
  has : NewFile raw c.number c.text c.row new

left : (raw : List ℕ) (c : Change) (new : List ℕ) → Leaves raw c new → Left raw c new
unfolding changed replacing_is replaced_room if_accepted
left raw c new h =
    let out = h.room in
    let file = new_file raw c.number c.text c.row in
    let is : replacing raw c.number c.text c.row h.scratch (length out) ≡ accepted (h.size ∷ []) = sym h.answer in
    let ok = accepts raw c.number c.text c.row h.scratch (length out) (h.size ∷ []) is in
    let there : h.left ≡ placed file out = rw is at h.holds in
    let made : new ≡ file = h.file ∙ front file out h.left h.size there ((file-made file (length out) (h.size ∷ []) ok.1).size h.size refl) in
    record { file = made; passed = ok.0; has = rw made (new_file_lem raw c.number c.text c.row ok.0) }

pub either_order : EitherOrder
unfolding changed
either_order raw one both two other a b apart first then second after =
    let x = left raw a one first in
    let y = left one b both then in
    let z = left raw b two second in
    let u = left two a other after in
    y.file
    ∙ ap (λ f. changed f b) x.file
    ∙ either_file raw a.number a.text a.row b.number b.text b.row x.passed z.passed apart
    ∙ sym (u.file ∙ ap (λ f. changed f a) z.file)

pub twice : Twice
unfolding changed
twice raw one both two a b same first then second =
    let x = left raw a one first in
    let y = left one b both then in
    let z = left raw b two second in
    let again : changed (changed raw a) b ≡ changed raw b =
    rw (← same) (twice_file raw a.number a.text a.row b.text b.row x.passed (rw (← same) at z.passed)) in
    y.file ∙ ap (λ f. changed f b) x.file ∙ again ∙ sym z.file

-- an old cue put back: in the same place the second cue counts, and that is the old one
module _ (raw : List ℕ) (number : ℕ) (t w u v one both : List ℕ) (p : Passes raw number t w) (h : NewFile raw number t w one) (q : Passes one number u v)
    (k : NewFile one number u v both) (e : with_cue number (cue_asked u v (region_names (plain_text raw))) (contents (lists (plain_text raw))) ≡ contents (lists (plain_text raw))) where
  abbrev s : List ℕ
  s = plain_text raw

  abbrev old : Contents
  old = contents (lists s)

  abbrev asked : CueContents
  asked = cue_asked u v (region_names s)

  names : region_names (plain_text one) ≡ region_names s
  names = names_same raw number t w one p h

  back_reads : contents (lists (plain_text both)) ≡ old
  unfolding with_cue
  back_reads =
      k.reads
      ∙ rw (names, h.reads) (ap (λ cs. record { cues = cs; regions = old.regions; styles = old.styles }) (set-set old.cues number _ asked))
      ∙ e

  -- the old cue has as many lines as its written form
  old-lines : length (cue_lines old.regions asked) ≡ (span_at number (line_spans s)).count
  unfolding with_cue span_at
  old-lines =
      let size : CueContents → ℕ = λ c. length (cue_lines old.regions c) in
      let counts = map (λ l. l.count) (line_spans s) in
      let many : length counts ≡ length (lists s).cues = length-map (line_spans s) _ ∙ spans_length s in
      let cue : get_or old.cues number asked ≡ asked =
      ap (λ c. get_or c.cues number asked) (sym e) ∙ get_or-set_same old.cues number asked asked (omega (arith, p.there, contents-count s)) in
      ap size (sym cue)
      ∙ sym (get_or-map size old.cues number asked)
      ∙ ap (λ ns. get_or ns number (size asked)) (read_lines old.regions s)
      ∙ get_d_any counts number (size asked) 0 (omega (arith, p.there))
      ∙ get_or-map (λ l. l.count) (line_spans s) number (record { first = 0; count = 0 })

  back_lines : line_spans (plain_text both) ≡ line_spans s
  unfolding new_form
  back_lines =
      let form : length (split (new_form (plain_text one) u v)) ≡ (span_at number (line_spans s)).count =
      rw (form_same raw number t w one p h u v) (ap length (form_begins s u v (rw names at q.writable)).lines ∙ old-lines) in
      let few = p.there in
      let more : number < length (line_spans (plain_text both)) =
      omega (arith, q.there, count_same one number u v both q k, spans_length (plain_text both)) in
      lines-back number _ (line_spans s) (line_spans (plain_text one)) (line_spans (plain_text both)) h.lines (rw form at k.lines)
      (omega (arith, spans_length s)) more

pub put_back : PutBack
put_back raw one both a b same old first then =
    let x = left raw a one first in
    let y = left one b both then in
    let n = b.number in
    let p : Passes raw n a.text a.row = rw same at x.passed in
    let h : NewFile raw n a.text a.row one = rw same at x.has in
    record {
      reads = back_reads raw n a.text a.row b.text b.row one both p h y.passed y.has old;
      lines = back_lines raw n a.text a.row b.text b.row one both p h y.passed y.has old;
    }
