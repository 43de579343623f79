-- Demand 3: where replacing is accepted, the new file has the old bytes around the cue's own, reads as the old lists with that one cue
-- replaced, has the lines of the later cues moved, and is refused by no number but 2 and 6.
use Prim.Native.Nat.{ℕ, zero, suc, ◌+◌, ◌≤◌, ◌<◌}
use mathlib.Core.Path.{◌≡◌, refl, sym, ap, ◌∙◌}
use mathlib.Core.Bool.{true, false, not}
use mathlib.Core.List.{List, [], ◌∷◌, ◌++◌, append_assoc}
use Rattle.std.specs.Prelude.{Option, None, Some}
use native.Mathlib.Omega.{arith}
use lib.Dec.{ltb}
use lib.ListN.{length, get_or, take, drop}
use lib.Seq.{get_or-set_same}
use borrow.Author.Tests.{ltb-true, not-false}
use Rattle.std.specs.Prelude.{Result, Ok}
use Rattle.format.specs.Plain.{plain_text}
use Rattle.format.specs.Lines.{split}
use Rattle.format.specs.Blocks.{has_signature}
use Rattle.format.specs.Lists.{items, lists, any_over}
use Rattle.format.specs.Answers.{Answer, accepted, if_accepted, file_answer, placed}
use Rattle.format.specs.Contents.{cue_of_entry, CueContents, contents}
use Rattle.format.specs.LineNumbers.{cue_blocks, line_spans, LinesMoved}
use Rattle.format.specs.Replacing.{raw_lines, first_line, last_line, own_start, own_end, cue_asked, new_cue_fails, with_region, region_names, new_form, new_file, with_cue, no_gap, unless_test, replacing_is, replacing_text, replacing, replaced_room, Replaced}
use Rattle.format.specs.Edits.{after_checks}
use Rattle.format.specs.declared.errors.ReplaceError.{ReplaceError}
use Rattle.laws.proofs.Answers.{after_test, after-answer, front, file-made, reads-again}
use Rattle.replaced.proofs.RawLines.{spliced, lines-replaced, signature-first}
use Rattle.replaced.proofs.CueBlocks.{LinesReplaced, cue-block_at, lines_read}
use Rattle.replaced.proofs.Spans.{lines_moved}
use Rattle.replaced.proofs.Asked.{asked_writable, form_plain, form_begins}

-- a new cue that fails a test is refused
after_option : (o : Option ℕ) (n : ℕ) (vs : List ℕ) (a : Answer) → unless_test o n a ≡ accepted vs → (o ≡ None) × (a ≡ accepted vs)
unfolding unless_test
after_option None n vs a e = (refl, e)
after_option (Some test) n vs a e = let z : ◌≡◌ {A = ℕ} 0 1 = cc in absurd (omega arith)

-- a file and a new cue that pass the checks 4, 5, 7, 8, 9
pub record Passes (raw : List ℕ) (number : ℕ) (t w : List ℕ) : Type 0 where
  pub signature : has_signature (plain_text raw) ≡ true
  pub within : any_over (items (plain_text raw)) ≡ false
  pub there : number < length (lists (plain_text raw)).cues
  pub writable : new_cue_fails t w (region_names (plain_text raw)) ≡ None
  pub gap : no_gap (plain_text raw) number t w ≡ false

-- they do where what is answered after the checks is accepted
pub passes :
    (raw : List ℕ) (number : ℕ) (t w : List ℕ) (next : Answer) (vs : List ℕ)
    → after_checks raw number t w next ≡ accepted vs
    → Passes raw number t w × (next ≡ accepted vs)
unfolding after_checks
passes raw number t w next vs e =
    let s = plain_text raw in
    let signed = after_test (not (has_signature s)) 4 [] vs _ e in
    let within = after_test (any_over (items s)) 5 [] vs _ signed.1 in
    let there = after_test (not (ltb number (length (lists s).cues))) 7 (length (lists s).cues ∷ []) vs _ within.1 in
    let writable = after_option (new_cue_fails t w (region_names s)) number vs _ there.1 in
    let gap = after_test (no_gap s number t w) 9 [] vs _ writable.1 in (
      record {
        signature = not-false (has_signature s) signed.0;
        within = within.0;
        there = ltb-true number (length (lists s).cues) (not-false (ltb number (length (lists s).cues)) there.0);
        writable = writable.0;
        gap = gap.0;
      },
      gap.1,
    )

pub accepts :
    (raw : List ℕ) (number : ℕ) (t w : List ℕ) (scratch out : ℕ) (vs : List ℕ)
    → replacing raw number t w scratch out ≡ accepted vs
    → Passes raw number t w × (file_answer (new_file raw number t w) out ≡ accepted vs)
unfolding replacing replacing_text after_checks
accepts raw number t w scratch out vs e = passes raw number t w _ vs (after-answer _ _ vs e)

-- the first line stays where others are replaced
first-kept : (n : ℕ) (ls ms : List (List ℕ)) → 0 < n → 0 < length ls → get_or (take n ls ++ ms) 0 [] ≡ get_or ls 0 []
first-kept zero ls ms h l = absurd (omega arith)
first-kept (suc n) [] ms h l = absurd (omega arith)
first-kept (suc n) (x ∷ ls) ms h l = refl

-- what is so of the new file, however long it is
pub record NewFile (raw : List ℕ) (number : ℕ) (t w new : List ℕ) : Type 0 where
  pub starts : own_start raw number ≤ own_end raw number
  pub ends : own_end raw number ≤ length raw
  -- its raw lines, and the lines of its text
  pub raw_lines_lem :
      raw_lines new
      ≡ spliced (first_line (plain_text raw) number) (length (get_or (cue_blocks (plain_text raw)) number [])) (new_form (plain_text raw) t w) (raw_lines raw)
  pub plain_lines_lem : LinesReplaced (plain_text raw) (plain_text new) number (cue_asked t w (region_names (plain_text raw)))
  -- what it reads as
  pub reads :
      contents (lists (plain_text new))
      ≡ with_cue number (cue_asked t w (region_names (plain_text raw))) (contents (lists (plain_text raw)))
  pub lines : LinesMoved number (length (split (new_form (plain_text raw) t w))) (line_spans (plain_text raw)) (line_spans (plain_text new))
  pub signature : has_signature (plain_text new) ≡ true
  pub within : any_over (items (plain_text new)) ≡ false

pub new_file_lem : (raw : List ℕ) (number : ℕ) (t w : List ℕ) → Passes raw number t w → NewFile raw number t w (new_file raw number t w)
unfolding new_file new_form own_start own_end last_line no_gap cue_asked with_region cue_of_entry
new_file_lem raw number t w ok =
    let s = plain_text raw in
    let new = new_file raw number t w in
    let n = first_line s number in
    let c = length (get_or (cue_blocks s) number []) in
    let block = cue-block_at s number ok.there in
    let form = form_begins s t w ok.writable in
    let raws = lines-replaced raw (new_form s t w) n c block.after_first_lem block.some block.inside (form_plain s t w ok.writable) form.some form.fresh in
    let lines = raws.lines ∙ ap (λ ls. take n (split s) ++ ls ++ drop (n + c) (split s)) form.lines in
    let read =
    lines_read s (plain_text new) number (cue_asked t w (region_names s)) ok.signature ok.there ok.within (asked_writable s t w ok.writable) ok.gap lines in
    let moved =
    lines_moved s (plain_text new) number (cue_asked t w (region_names s)) ok.signature ok.there (asked_writable s t w ok.writable) ok.gap lines in
    let others = append_assoc (take n (split s)) _ (drop (n + c) (split s)) in
    let first : get_or (split (plain_text new)) 0 [] ≡ get_or (split s) 0 [] =
    ap (λ ls. get_or ls 0 []) (lines ∙ others) ∙ first-kept n (split s) _ block.after_first_lem (omega (arith, block.inside, block.some)) in
    record {
      starts = raws.starts;
      ends = raws.ends;
      raw_lines_lem = raws.raws;
      plain_lines_lem = lines;
      reads = read.same;
      lines = rw form.lines moved;
      signature = signature-first (plain_text new) s first ∙ ok.signature;
      within = read.within;
    }

pub replaced :
    (raw : List ℕ) (number : ℕ) (t w : List ℕ) (scratch out : ℕ) (vs : List ℕ)
    → replacing raw number t w scratch out ≡ accepted vs
    → Replaced raw number t w (new_file raw number t w)
unfolding new_file
replaced raw number t w scratch out vs e =
    let ok = accepts raw number t w scratch out vs e in
    let new = new_file raw number t w in
    let h = new_file_lem raw number t w ok.0 in
    record {
      starts = h.starts;
      ends = h.ends;
      bytes = refl;
      reads = h.reads;
      lines = h.lines;
      again = reads-again new (file-made new out vs ok.1).fits h.signature h.within;
    }

-- the same of the file that a function left in the output room, where it keeps the promise of the answer and of that room
pub room-replaced :
    (raw : List ℕ) (number : ℕ) (t w : List ℕ) (scratch : ℕ) (out left : List ℕ) (r : Result ℕ ReplaceError)
    → replacing_is r ≡ replacing raw number t w scratch (length out)
    → left ≡ replaced_room raw number t w scratch out
    → (n : ℕ)
    → r ≡ Ok n
    → Replaced raw number t w (take n left)
unfolding replacing_is replaced_room if_accepted
room-replaced raw number t w scratch out left r e room n q =
    let new = new_file raw number t w in
    let is : replacing raw number t w scratch (length out) ≡ accepted (n ∷ []) = sym e ∙ ap replacing_is q in
    let placed-there : left ≡ placed new out = rw is at room in
    let ok = accepts raw number t w scratch (length out) (n ∷ []) is in
    rw (front new out left n placed-there ((file-made new (length out) (n ∷ []) ok.1).size n refl))
    (replaced raw number t w scratch (length out) (n ∷ []) is)

-- the old file is no new one, but where the cue asked for stands there already
pub old-file :
    (raw : List ℕ) (number : ℕ) (t w : List ℕ) (d : CueContents)
    → number < length (contents (lists (plain_text raw))).cues
    → Replaced raw number t w raw
    → get_or (contents (lists (plain_text raw))).cues number d ≡ cue_asked t w (region_names (plain_text raw))
unfolding with_cue
old-file raw number t w d h k =
    let cues = (contents (lists (plain_text raw))).cues in
    ap (λ c. get_or c.cues number d) k.reads ∙ get_or-set_same cues number (cue_asked t w (region_names (plain_text raw))) d h
