-- Laws of one answer after another: a refusal to read is the answer, and where lists were read, their rows stand at the tables' starts.
use Prim.Native.Nat.{ℕ, ◌≤◌}
use mathlib.Core.Path.{◌≡◌, refl, sym, ap, ◌∙◌}
use mathlib.Core.List.{List, [], ◌∷◌, ◌++◌}
use native.Mathlib.Omega.{arith}
use lib.Dec.{ltb}
use lib.ListN.{length, take, length-map}
use borrow.Author.Tests.{ltb-false}
use Rattle.std.specs.Prelude.{Err}
use Rattle.laws.proofs.Answers.{after_test, front, reaches}
use Rattle.laws.proofs.Rows.{rows_say, stored-length}
use Rattle.format.specs.Answers.{Answer, accepted, refused, if_accepted, and_then}
use Rattle.format.specs.Limits.{max_file, max_text}
use Rattle.format.specs.Plain.{plain_text}
use Rattle.format.specs.Lists.{lists}
use Rattle.format.specs.Rows.{region_rows, style_rows, stored_cues}
use Rattle.format.specs.Converting.{convert_error, converting}
use Rattle.format.specs.declared.errors.ConvertError.{ConvertError}
use Rattle.format.specs.declared.errors.TextError.{TextError}
use Rattle.format.specs.declared.errors.ListsError.{ListsError}
use Rattle.format.specs.declared.errors.ReadFileError.{ReadFileError}
use Rattle.format.specs.declared.errors.RewriteError.{RewriteError}
use Rattle.format.specs.Reading.{text_error, lists_error, read_file_error, counts, reading, reading_raw, file_reading_is, file_reading, after_reading}
use Rattle.format.specs.Contents.{stored_contents}
use Rattle.format.specs.Written.{written}
use Rattle.format.specs.Writing.{file_of}
use Rattle.format.specs.Rewriting.{rewrite_error, rewriting_is, lengths, reading_in, rewritten_file, rewriting, rewritten_room}
use Rattle.reader.proofs.FileLaws.{counted}

-- a refusal to read the file is one of converting and reading
not_read : (a : Answer) (n : ℕ) (us vs : List ℕ) → refused n us ≡ and_then a (accepted vs) → a ≡ refused n us
unfolding and_then if_accepted
not_read (accepted ws) n us vs e = let z : ◌≡◌ {A = ℕ} 0 1 = cc e in absurd (omega arith)
not_read (refused m ws) n us vs e = sym e

file-refused :
    (raw : List ℕ) (room cues regions styles : ℕ) {n : ℕ} {us : List ℕ}
    → refused n us ≡ file_reading raw room cues regions styles
    → reading_raw raw room cues regions styles ≡ refused n us
unfolding file_reading
file-refused raw room cues regions styles {n} {us} e = not_read (reading_raw raw room cues regions styles) n us _ e

-- rewriting is then refused by the same number, and the output room is as it was
pub rewriting-refused :
    (raw text : List ℕ) (cues regions styles : List (List ℕ)) (out : List ℕ) {n : ℕ} {us : List ℕ}
    → refused n us ≡ file_reading raw (length text) (length cues) (length regions) (length styles)
    → (refused n us ≡ rewriting raw (lengths text cues regions styles out)) × (out ≡ rewritten_room raw (lengths text cues regions styles out) out)
unfolding rewriting rewritten_room reading_in lengths and_then if_accepted
rewriting-refused raw text cues regions styles out e = rw (file-refused raw (length text) (length cues) (length regions) (length styles) e) (refl, refl)

-- so it is with each refusal to read the file
pub not_rewritten :
    (raw text : List ℕ) (cues regions styles : List (List ℕ)) (out : List ℕ) (e : ReadFileError)
    → let lent = lengths text cues regions styles out in
    file_reading_is (Err e) ≡ file_reading raw (length text) (length cues) (length regions) (length styles)
    → (rewriting_is (Err (RewriteError.Read e)) ≡ rewriting raw lent) × (out ≡ rewritten_room raw lent out)
unfolding file_reading_is rewriting_is rewrite_error read_file_error convert_error lists_error text_error
not_rewritten raw text cues regions styles out (ReadFileError.Convert ConvertError.TooLong) h = rewriting-refused raw text cues regions styles out h
not_rewritten raw text cues regions styles out (ReadFileError.Convert (ConvertError.RoomTooShort n)) h = rewriting-refused raw text cues regions styles out h
not_rewritten raw text cues regions styles out (ReadFileError.Lists (ListsError.Text TextError.NoSignature)) h = rewriting-refused raw text cues regions styles out h
not_rewritten raw text cues regions styles out (ReadFileError.Lists (ListsError.Text TextError.OverLimit)) h = rewriting-refused raw text cues regions styles out h
not_rewritten raw text cues regions styles out (ReadFileError.Lists (ListsError.TablesTooShort n)) h = rewriting-refused raw text cues regions styles out h

-- where both accept, both answers
pub record Both (a b : Answer) (vs : List ℕ) : Type 0 where
  pub values : List ℕ
  pub first : a ≡ accepted values
  pub second : b ≡ accepted vs

both : (a b : Answer) (vs : List ℕ) → accepted vs ≡ and_then a b → Both a b vs
unfolding and_then if_accepted
both (accepted ws) b vs e = record { values = ws; first = refl; second = sym e }
both (refused m ws) b vs e = let z : ◌≡◌ {A = ℕ} 0 1 = cc e in absurd (omega arith)

-- converting tells the text's length alone
lengths-told : (raw : List ℕ) (room : ℕ) (vs : List ℕ) → converting raw room ≡ accepted vs → accepted (length (plain_text raw) ∷ []) ≡ converting raw room
unfolding converting
lengths-told raw room vs e =
    let within = after_test (ltb max_file (length raw)) 1 [] vs _ e in
    let fitting = after_test (ltb room (length (plain_text raw))) 2 (length (plain_text raw) ∷ []) vs _ within.1 in
    fitting.1 ∙ sym e

same_values : (vs us : List ℕ) → accepted vs ≡ accepted us → vs ≡ us
same_values vs us e = cc

-- a file that was read: it was converted to a text of this length, and the text was read
pub record FileRead (raw : List ℕ) (room cues regions styles c r t n : ℕ) : Type 0 where
  pub whole : reading_raw raw room cues regions styles ≡ accepted (c ∷ r ∷ t ∷ [])
  pub converted : accepted (n ∷ []) ≡ converting raw room
  pub lists_read : accepted (c ∷ r ∷ t ∷ []) ≡ reading (plain_text raw) cues regions styles

pub file_read :
    (raw : List ℕ) (room cues regions styles c r t n : ℕ)
    → accepted (c ∷ r ∷ t ∷ n ∷ []) ≡ file_reading raw room cues regions styles
    → FileRead raw room cues regions styles c r t n
unfolding file_reading reading_raw counts
file_read raw room cues regions styles c r t n e =
    let s = plain_text raw in
    let outer = both (reading_raw raw room cues regions styles) _ (c ∷ r ∷ t ∷ n ∷ []) e in
    let inner = both (converting raw room) (reading s cues regions styles) outer.values (sym outer.first) in
    let us = counted s cues regions styles outer.values (sym inner.second) in
    let all : counts (lists s) ++ length s ∷ [] ≡ c ∷ r ∷ t ∷ n ∷ [] = same_values _ _ outer.second in
    let three : outer.values ≡ c ∷ r ∷ t ∷ [] = us ∙ cc all in
    let size : length s ≡ n = cc all in
    record {
      whole = rw three at outer.first;
      converted = rw size at (lengths-told raw room inner.values inner.first);
      lists_read = sym (rw three at inner.second);
    }

-- after lists' counts each table starts with its list's rows
pub record Starts (s : List ℕ) (c r t : ℕ) (us ws zs : List (List ℕ)) : Type 0 where
  pub cues : take c us ≡ stored_cues s
  pub regions : take r ws ≡ region_rows (lists s).regions
  pub styles : take t zs ≡ style_rows (lists s).styles
  pub cues_reach : c ≤ length us
  pub regions_reach : r ≤ length ws
  pub styles_reach : t ≤ length zs

pub starts :
    (s : List ℕ) (cues₀ regions₀ styles₀ : List (List ℕ)) {c r t : ℕ} {cues regions styles : List (List ℕ)}
    → accepted (c ∷ r ∷ t ∷ []) ≡ reading s (length cues₀) (length regions₀) (length styles₀)
    → cues ≡ after_reading (accepted (c ∷ r ∷ t ∷ [])) (stored_cues s) cues₀
    → regions ≡ after_reading (accepted (c ∷ r ∷ t ∷ [])) (region_rows (lists s).regions) regions₀
    → styles ≡ after_reading (accepted (c ∷ r ∷ t ∷ [])) (style_rows (lists s).styles) styles₀
    → Starts s c r t cues regions styles
unfolding counts region_rows style_rows after_reading if_accepted
starts s cues₀ regions₀ styles₀ {c} {r} {t} {cues} {regions} {styles} a hc hr ht =
    let l = lists s in
    let n = counted s (length cues₀) (length regions₀) (length styles₀) _ a in
    let nc : c ≡ length l.cues = cc n in
    let nr : r ≡ length l.regions = cc n in
    let nt : t ≡ length l.styles = cc n in
    record {
      cues = front _ cues₀ cues c hc (nc ∙ sym (stored-length s));
      regions = front _ regions₀ regions r hr (nr ∙ sym (length-map l.regions _));
      styles = front _ styles₀ styles t ht (nt ∙ sym (length-map l.styles _));
      cues_reach = reaches _ cues₀ cues c hc (nc ∙ sym (stored-length s));
      regions_reach = reaches _ regions₀ regions r hr (nr ∙ sym (length-map l.regions _));
      styles_reach = reaches _ styles₀ styles t ht (nt ∙ sym (length-map l.styles _));
    }

-- what is written of the rows of a text that was read is the written form of its lists
pub file-is :
    (s : List ℕ) (cues regions styles : ℕ) (vs : List ℕ)
    → accepted vs ≡ reading s cues regions styles
    → rewritten_file s ≡ file_of s (style_rows (lists s).styles) (region_rows (lists s).regions) (stored_cues s)
unfolding reading rewritten_file file_of stored_contents
file-is s cues regions styles vs e =
    let size = after_test (ltb max_text (length s)) 1 [] vs _ (sym e) in
    ap written (sym (rows_say s (ltb-false max_text (length s) size.0)))
