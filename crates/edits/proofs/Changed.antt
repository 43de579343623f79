-- A file after one change: it has the old regions and as many cues, each call's own checks tell what they told, and the next change makes of it
-- what its raw lines say.
use Prim.Native.Nat.{ℕ, ◌+◌, ◌≤◌, ◌<◌}
use mathlib.Core.Path.{◌≡◌, refl, sym, ap, ◌∙◌}
use mathlib.Core.Logic.{◌≢◌}
use mathlib.Core.List.{List, map}
use native.Mathlib.Omega.{arith}
use lib.Dec.{ltb}
use lib.ListN.{length, length-map, length-set}
use borrow.Author.Tests.{ltb-true, ltb-false}
use Rattle.format.specs.Plain.{plain_text}
use Rattle.format.specs.Lines.{split}
use Rattle.format.specs.Lists.{lists}
use Rattle.format.specs.LineNumbers.{line_spans, LinesMoved}
use Rattle.format.specs.Contents.{contents}
use Rattle.format.specs.Written.{cue_lines}
use Rattle.format.specs.Answers.{Answer}
use Rattle.format.specs.Replacing.{raw_lines, raw_bytes, first_line, cue_asked, region_names, new_form, new_file, with_cue, no_gap}
use Rattle.format.specs.Edits.{after_checks}
use Rattle.laws.proofs.Tests.{by-test}
use Rattle.roundtrip.proofs.Files.{ids-contents, cue_blocks_lem}
use Rattle.replaced.proofs.RawLines.{spliced, raw_bytes-lines, lines-counted}
use Rattle.replaced.proofs.CueBlocks.{cue-block_at}
use Rattle.replaced.proofs.Asked.{asked_writable, form_begins}
use Rattle.replaced.proofs.Files.{Passes, NewFile, new_file_lem}
use Rattle.edits.proofs.Splices.{some_line, either_splice, splice_twice}
use Rattle.edits.proofs.Moved.{own_count, own-apart, placed_before, placed_here, placed_after, gap_same}

-- a file is what its raw lines say
lines_say : (x y : List ℕ) → raw_lines x ≡ raw_lines y → x ≡ y
lines_say x y e = sym (raw_bytes-lines x) ∙ ap raw_bytes e ∙ raw_bytes-lines y

-- as many contents as cues
pub contents-count : (s : List ℕ) → length (contents (lists s)).cues ≡ length (lists s).cues
unfolding contents
contents-count s = length-map (lists s).cues _

-- a file, a change of it, and the file that it makes
module _ (raw : List ℕ) (number : ℕ) (t w new : List ℕ) (ok : Passes raw number t w) (h : NewFile raw number t w new) where
  abbrev s : List ℕ
  s = plain_text raw

  abbrev s' : List ℕ
  s' = plain_text new

  abbrev form : List (List ℕ)
  form = cue_lines (contents (lists s)).regions (cue_asked t w (region_names s))

  regions-same : (contents (lists s')).regions ≡ (contents (lists s)).regions
  unfolding with_cue
  regions-same = ap (λ c. c.regions) h.reads

  pub names_same : region_names s' ≡ region_names s
  unfolding region_names contents
  names_same = ids-contents (lists s').regions ∙ ap (map (λ r. r.id)) regions-same ∙ sym (ids-contents (lists s).regions)

  pub count_same : length (lists s').cues ≡ length (lists s).cues
  unfolding with_cue
  count_same =
      sym (contents-count s')
      ∙ ap (λ c. length c.cues) h.reads
      ∙ length-set (contents (lists s)).cues number (cue_asked t w (region_names s))
      ∙ contents-count s

  pub form_same : (u v : List ℕ) → new_form s' u v ≡ new_form s u v
  unfolding new_form
  form_same u v = rw (regions-same, names_same)

  form_lines_lem : split (new_form s t w) ≡ form
  unfolding new_form
  form_lines_lem = (form_begins s t w ok.writable).lines

  form_moves : LinesMoved number (length form) (line_spans s) (line_spans s')
  form_moves = rw form_lines_lem at h.lines

  -- the line before a cue is empty where it was
  gaps : (k : ℕ) (u v : List ℕ) → k < length (lists s).cues → no_gap s' k u v ≡ no_gap s k u v
  unfolding no_gap
  gaps k u v b =
      let full = (cue_blocks_lem (contents (lists s)).regions (cue_asked t w (region_names s)) (asked_writable s t w ok.writable)).closed.full in
      let some : 0 < length form = omega (arith, some_line (new_form s t w), ap length form_lines_lem) in
      rw (gap_same s s' number form ok.there count_same form_moves full some h.plain_lines_lem k b)

  -- each call's own checks tell what they told
  pub checks_same : (k : ℕ) (u v : List ℕ) (next : Answer) → after_checks new k u v next ≡ after_checks raw k u v next
  unfolding after_checks
  checks_same k u v next =
      rw (h.signature, ok.signature, h.within, ok.within, count_same, names_same)
      (by-test (ltb k (length (lists s).cues))
      (λ y. rw (y, gaps k u v (ltb-true k (length (lists s).cues) y)))
      (λ n. rw n))

  pub passes_still : (k : ℕ) (u v : List ℕ) → Passes raw k u v → Passes new k u v
  passes_still k u v p =
      record {
        signature = h.signature;
        within = h.within;
        there = omega (arith, count_same, p.there);
        writable = rw names_same p.writable;
        gap = gaps k u v p.there ∙ p.gap;
      }

  -- the raw lines of the next change's file
  module _ (k : ℕ) (u v : List ℕ) (p : Passes raw k u v) where
    next-lines : (first count : ℕ) → first_line s' k ≡ first → own_count s' k ≡ count → raw_lines (new_file new k u v) ≡ spliced first count (new_form s u v) (raw_lines new)
    next-lines first count f c = (new_file_lem new k u v (passes_still k u v p)).raw_lines_lem ∙ rw (f, c, form_same u v)

    abbrev here : List ℕ
    here = new_form s t w

    -- a cue before the changed one
    pub lines-before :
        k < number
        → raw_lines (new_file new k u v)
        ≡ spliced (first_line s k) (own_count s k) (new_form s u v) (spliced (first_line s number) (own_count s number) here (raw_lines raw))
    lines-before b =
        let q = placed_before s s' number (length form) ok.there count_same form_moves k b in
        next-lines _ _ q.at q.size ∙ ap (spliced (first_line s k) (own_count s k) (new_form s u v)) h.raw_lines_lem

    -- a cue after it: either order gives the same lines
    pub lines_after :
        number < k
        → raw_lines (new_file new k u v)
        ≡ spliced (first_line s number) (own_count s number) here (spliced (first_line s k) (own_count s k) (new_form s u v) (raw_lines raw))
    lines_after a =
        let q = placed_after s s' number (length form) ok.there count_same form_moves k a p.there in
        let moved : first_line s' k + own_count s number ≡ first_line s k + length (split here) = q.at ∙ rw form_lines_lem in
        let inside : first_line s k + own_count s k ≤ length (raw_lines raw) = omega (arith, (cue-block_at s k p.there).inside, lines-counted raw) in
        next-lines _ _ refl q.size
        ∙ ap (spliced (first_line s' k) (own_count s k) (new_form s u v)) h.raw_lines_lem
        ∙ either_splice (first_line s number) (own_count s number) (first_line s k) (own_count s k) (first_line s' k) here (new_form s u v)
        (cue-block_at s number ok.there).some (cue-block_at s k p.there).some moved (raw_lines raw) (own-apart s number k a p.there) inside

  -- the same cue again: the second change alone
  lines-here : (u v : List ℕ) → Passes raw number u v → raw_lines (new_file new number u v) ≡ raw_lines (new_file raw number u v)
  lines-here u v p =
      let q = placed_here s s' number (length form) ok.there count_same form_moves in
      let block = cue-block_at s number ok.there in
      next-lines number u v p _ _ q.at (q.size ∙ sym (ap length form_lines_lem))
      ∙ ap (spliced (first_line s number) (length (split (new_form s t w))) (new_form s u v)) h.raw_lines_lem
      ∙ splice_twice (first_line s number) (own_count s number) (new_form s t w) (new_form s u v) block.some (raw_lines raw) (omega (arith, block.inside, lines-counted raw))
      ∙ sym (new_file_lem raw number u v p).raw_lines_lem

-- two changes of different cues, in either order
module _ (raw : List ℕ) (i : ℕ) (t w : List ℕ) (j : ℕ) (u v : List ℕ) (p : Passes raw i t w) (q : Passes raw j u v) where
  in_order : i < j → new_file (new_file raw i t w) j u v ≡ new_file (new_file raw j u v) i t w
  in_order h =
      lines_say _ _
      (lines_after raw i t w (new_file raw i t w) p (new_file_lem raw i t w p) j u v q h
      ∙ sym (lines-before raw j u v (new_file raw j u v) q (new_file_lem raw j u v q) i t w p h))

pub either_file :
    (raw : List ℕ) (i : ℕ) (t w : List ℕ) (j : ℕ) (u v : List ℕ)
    → Passes raw i t w
    → Passes raw j u v
    → i ≢ j
    → new_file (new_file raw i t w) j u v ≡ new_file (new_file raw j u v) i t w
either_file raw i t w j u v p q other =
    by-test (ltb i j)
    (λ y. in_order raw i t w j u v p q (ltb-true i j y))
    (λ n. let z = ltb-false i j n in
    by-test (ltb j i)
    (λ y. sym (in_order raw j u v i t w q p (ltb-true j i y)))
    (λ m. absurd (other (omega (arith, ltb-false j i m)))))

-- and of one cue
pub twice_file :
    (raw : List ℕ) (i : ℕ) (t w u v : List ℕ)
    → Passes raw i t w
    → Passes raw i u v
    → new_file (new_file raw i t w) i u v ≡ new_file raw i u v
twice_file raw i t w u v p q = lines_say _ _ (lines-here raw i t w (new_file raw i t w) p (new_file_lem raw i t w p) u v q)
