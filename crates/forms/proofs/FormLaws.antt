-- Laws of the written forms: lines one after another, a setting on a line of its own, a cue among its regions, and a region.
use Prim.Native.Nat.{ℕ}
use mathlib.Core.Path.{◌≡◌, refl, sym, ap, ◌∙◌}
use mathlib.Core.Bool.{cond}
use mathlib.Core.List.{List, [], ◌∷◌, ◌++◌, map, append_assoc, append-nil}
use Rattle.std.specs.Prelude.{Option, None, Some, option_map}
use native.Mathlib.Omega.{arith}
use borrow.Author.Tests.{ne_eqb}
use lib.ListN.{length, get_or}
use Rattle.std.specs.Bool.{◌==◌}
use Rattle.format.specs.Contents.{cue_of_entry, region_of_entry, region_of_row}
use Rattle.format.specs.Bytes.{ascii, lf, colon}
use Rattle.format.specs.Texts.{is_empty, bytes_at}
use Rattle.format.specs.Lines.{split, after_line_ends, join}
use Rattle.format.specs.Writable.{names_of}
use Rattle.format.specs.Written.{setting, written_region_name, written_settings, written_timing, lines_of, cue_lines, written_id, region_lines}
use Rattle.format.specs.declared.regions.Region.{Region}
use Rattle.format.specs.declared.rows.CueEntry.{CueEntry}
use Rattle.laws.proofs.Lines.{splits}
use Rattle.laws.proofs.Standing.{ended_append}
use Rattle.roundtrip.proofs.Cues.{names_of_lem}
use Rattle.setting_forms.specs.Settings.{named_region, settings_form}
use Rattle.forms.specs.Forms.{timing_form, cue_form, number_lines}

-- a text of no bytes is empty
pub no_bytes : (s : List ℕ) → (length s == 0) ≡ is_empty s
unfolding is_empty
no_bytes [] = refl
no_bytes (b ∷ s) = ne_eqb (length (b ∷ s)) 0 (λ e. omega (arith, e))

-- the lines of a text, and lines after them
pub ended-split : (s : List ℕ) → after_line_ends (split s) ≡ lf ∷ s
unfolding after_line_ends join
ended-split s = let t = splits s in ap after_line_ends t.is ∙ ap (λ r. lf ∷ r) t.joined

join-split : (s : List ℕ) (ls : List (List ℕ)) → join (split s ++ ls) ≡ s ++ after_line_ends ls
unfolding join
join-split s ls =
    let t = splits s in
    rw (t.is, ended_append t.rest ls, ← append_assoc t.first (after_line_ends t.rest) (after_line_ends ls), t.joined)

-- a cue's identifier, its timing line and its text
join-id :
    (id l : List ℕ) (ls : List (List ℕ)) → join (lines_of id ++ l ∷ ls) ≡ cond (is_empty id) [] (id ++ lf ∷ []) ++ join (l ∷ ls)
unfolding join after_line_ends lines_of is_empty
join-id [] l ls = refl
join-id (b ∷ id) l ls = join-split (b ∷ id) (l ∷ ls) ∙ sym (append_assoc (b ∷ id) (lf ∷ []) (join (l ∷ ls)))

ended-text : (text : List ℕ) → after_line_ends (lines_of text) ≡ cond (is_empty text) [] (lf ∷ text)
unfolding after_line_ends lines_of is_empty
ended-text [] = refl
ended-text (b ∷ text) = ended-split (b ∷ text)

pub join-cue :
    (id timing text : List ℕ)
    → join (lines_of id ++ timing ∷ lines_of text)
    ≡ (cond (is_empty id) [] (id ++ lf ∷ []) ++ timing) ++ cond (is_empty text) [] (lf ∷ text)
unfolding join
join-cue id timing text = rw (append_assoc, ← ended-text text) (join-id id timing (lines_of text))

-- a cue among regions' rows, by the region that it asks for
module _ (s : List ℕ) (regions : List (List ℕ)) (e : CueEntry) where
  abbrev lines : List ℕ
  lines = join (cue_lines (map (region_of_row s) regions) (cue_of_entry s e))

  pub cue_among : (o : Option ℕ) → e.region ≡ o → lines ≡ cue_form s e (option_map (λ i. get_or (names_of s regions) i []) o)
  unfolding cue_lines cue_of_entry cue_form timing_form settings_form named_region written_timing written_settings written_region_name
  cue_among None k = rw k
  cue_among (Some i) k = rw (k, names_of_lem s regions)

-- a setting on a line of its own
pub ended-setting : (name value : List ℕ) → after_line_ends (setting name value) ≡ (lf ∷ (name ++ colon ∷ [])) ++ value
unfolding after_line_ends setting
ended-setting name value = ap (λ r. lf ∷ r) (append-nil (name ++ colon ∷ value) ∙ sym (append_assoc name (colon ∷ []) value))

-- a region's lines: its identifier's, and those after it
after-id : (a b c d e f : List (List ℕ)) → after_line_ends (a ++ b ++ c ++ d ++ e ++ f) ≡ after_line_ends a ++ after_line_ends (b ++ c ++ d ++ e ++ f)
after-id a b c d e f = simp (ended_append, append_assoc)

pub join-region :
    (s : List ℕ) (r : Region)
    → join (region_lines (region_of_entry s r))
    ≡ (ascii "REGION" ++ after_line_ends (written_id (bytes_at s r.id.from r.id.to))) ++ after_line_ends (number_lines r.settings)
unfolding join region_lines region_of_entry number_lines
join-region s r = ap (λ x. ascii "REGION" ++ x) (after-id _ _ _ _ _ _)
