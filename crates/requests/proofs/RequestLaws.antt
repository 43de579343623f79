-- A line is a request by its tests, one after the other; what is asked for, and the bytes that are put for it.
use Prim.Native.Nat.{ℕ, ◌+◌, ◌-◌, ◌≤◌, min}
use mathlib.Core.Path.{◌≡◌, refl, sym, ap, ◌∙◌}
use mathlib.Core.Bool.{true, false, ◌&&◌}
use mathlib.Core.List.{List, [], ◌++◌}
use Rattle.std.specs.Prelude.{Option, None, Some, option_map}
use Rattle.std.specs.Option.{option_map_or}
use native.Mathlib.Omega.{arith}
use lib.Dec.{eqb}
use lib.ListN.{length, get_or, take, drop, length-take, length-drop, length-append}
use lib.Seq.{take-length}
use borrow.Author.Tests.{eq-eqb, ne_eqb}
use Rattle.format.specs.Bytes.{ascii, tab}
use Rattle.format.specs.Texts.{same, bytes_at}
use Rattle.format.specs.Fields.{fields, field_number, escapes, unescaped}
use Rattle.format.specs.Tokens.{Flagged}
use Rattle.format.specs.CueSettings.{CueSettings, cue_settings, span_is}
use Rattle.format.specs.Requests.{Request, settings_field, request_with, request_of, request, lent_text, id_span, text_span, name_span, lent_entry}
use Rattle.laws.proofs.Tests.{by-test, and-false}
use Rattle.laws.proofs.Parted.{parts_fit, part-fits, rest-fits}
use Rattle.laws.proofs.Standing.{stands_cue_settings}
use Rattle.laws.proofs.Rows.{stands_bytes}
use Rattle.values.specs.Tokens.{part_of}
use Rattle.output.specs.Puts.{room_with}
use Rattle.fields.specs.Fields.{text_of}
use Rattle.fields.proofs.EscapeLaws.{text-length}
use Rattle.requests.specs.Asked.{asking_for, numbers_is, lengths_is, numbers_in, lengths_in, name_of, rest_of, asking_is}
use Rattle.requests.specs.declared.Asking.{Asking}
use Rattle.requests.specs.declared.Numbers.{Numbers}
use Rattle.requests.specs.declared.Lengths.{Lengths}

-- where there is no request, none is answered and nothing is put
pub bad_is :
    (o : Option Request) (room : List ℕ) → o ≡ None → (◌≡◌ {A = Option Asking} None (option_map asking_for o)) × (room ≡ room_with 0 (option_map_or lent_text o []) room)
unfolding room_with
bad_is o room e = rw e (refl, refl)

-- how many fields there are, and the word that the first one is
module _ (line : List ℕ) where
  pub count_bad : (length (fields line) ≡ 7 → ⊥) → request line ≡ None
  unfolding request
  count_bad n = rw (ne_eqb (length (fields line)) 7 n) refl

  pub word_bad : same (get_or (fields line) 0 []) (ascii "mend") ≡ false → request line ≡ None
  unfolding request
  word_bad e = rw (and-false (eqb (length (fields line)) 7) _ e) refl

  pub fields_are : length (fields line) ≡ 7 → same (get_or (fields line) 0 []) (ascii "mend") ≡ true → request line ≡ request_of (fields line)
  unfolding request
  fields_are n e = rw (eq-eqb (length (fields line)) 7 n, e) refl

-- numbers that are read or bad, whatever is asked for besides
module _ (i : Option (List ℕ)) (s : Flagged CueSettings) (t : Option (List ℕ)) where
  with_bad :
      (a b c : Option ℕ) → numbers_is a b c ≡ None → request_with a b c i s t ≡ None
  unfolding request_with
  with_bad None b c e = refl
  with_bad (Some n) None c e = refl
  with_bad (Some n) (Some from) None e = refl
  with_bad (Some n) (Some from) (Some to) e = let z : ◌≡◌ {A = ℕ} 0 1 = cc in absurd (omega arith)

  with_numbers :
      (n : Numbers) (a b c : Option ℕ)
      → numbers_is a b c ≡ Some n
      → request_with a b c i s t ≡ request_with (Some n.number) (Some n.start) (Some n.end) i s t
  with_numbers n None b c e = let z : ◌≡◌ {A = ℕ} 0 1 = cc in absurd (omega arith)
  with_numbers n (Some x) None c e = let z : ◌≡◌ {A = ℕ} 0 1 = cc in absurd (omega arith)
  with_numbers n (Some x) (Some y) None e = let z : ◌≡◌ {A = ℕ} 0 1 = cc in absurd (omega arith)
  with_numbers n (Some x) (Some y) (Some z) e =
      let is : ◌≡◌ {A = Numbers} (record { number = x; start = y; end = z }) n = cc in
      ap (λ (m : Numbers). request_with (Some m.number) (Some m.start) (Some m.end) i s t) is

-- texts that are read or bad, and settings with a number over its limit or without one
module _ (n : Numbers) (s : Flagged CueSettings) where
  abbrev given : Option (List ℕ) → Option (List ℕ) → Option Request
  given i t = request_with (Some n.number) (Some n.start) (Some n.end) i s t

  text_bad : (i t : Option (List ℕ)) → lengths_is i t ≡ None → given i t ≡ None
  unfolding request_with
  text_bad None t e = refl
  text_bad (Some x) None e = refl
  text_bad (Some x) (Some y) e = let z : ◌≡◌ {A = ℕ} 0 1 = cc in absurd (omega arith)

  over_bad : (i t : Option (List ℕ)) → s.over ≡ true → given i t ≡ None
  unfolding request_with
  over_bad None t e = refl
  over_bad (Some x) None e = refl
  over_bad (Some x) (Some y) e = rw e refl

  -- what is asked for then, and what is put
  record Given (i t : Option (List ℕ)) (l : Lengths) : Type 0 where
    asked : Some (asking_is n s.value.settings l (length s.value.region.bytes)) ≡ option_map asking_for (given i t)
    text : text_of i ++ text_of t ++ s.value.region.bytes ≡ option_map_or lent_text (given i t) []

  given_is :
      (i t : Option (List ℕ)) (l : Lengths) → lengths_is i t ≡ Some l → s.over ≡ false → Given i t l
  unfolding request_with asking_for asking_is lent_text id_span text_span name_span lent_entry
  given_is None t l e f = let z : ◌≡◌ {A = ℕ} 0 1 = cc in absurd (omega arith)
  given_is (Some x) None l e f = let z : ◌≡◌ {A = ℕ} 0 1 = cc in absurd (omega arith)
  given_is (Some x) (Some y) l e f =
      let is : ◌≡◌ {A = Lengths} l (record { id = length x; text = length y }) = cc in
      record { asked = rw (f, is) refl; text = rw f refl }

-- the same of the fields of a line
module _ (fs : List (List ℕ)) where
  pub numbers_bad : numbers_in fs ≡ None → request_of fs ≡ None
  unfolding request_of
  numbers_bad e = with_bad _ _ _ (field_number (get_or fs 1 [])) (field_number (get_or fs 2 [])) (field_number (get_or fs 3 [])) e

  module _ (n : Numbers) where
    pub numbers_are : numbers_in fs ≡ Some n → request_of fs ≡ rest_of n fs
    unfolding request_of rest_of
    numbers_are e = with_numbers _ _ _ n (field_number (get_or fs 1 [])) (field_number (get_or fs 2 [])) (field_number (get_or fs 3 [])) e

    pub texts_bad : lengths_in fs ≡ None → rest_of n fs ≡ None
    unfolding rest_of
    texts_bad e = text_bad n _ (unescaped (get_or fs 4 [])) (unescaped (get_or fs 6 [])) e

    pub settings-over : (settings_field (get_or fs 5 [])).over ≡ true → rest_of n fs ≡ None
    unfolding rest_of
    settings-over e = over_bad n _ (unescaped (get_or fs 4 [])) (unescaped (get_or fs 6 [])) e

    module _ (l : Lengths) (e : lengths_in fs ≡ Some l) (f : (settings_field (get_or fs 5 [])).over ≡ false) where
      pub asked_is_lem :
          Some (asking_is n (settings_field (get_or fs 5 [])).value.settings l (length (name_of (get_or fs 5 [])))) ≡ option_map asking_for (rest_of n fs)
      unfolding rest_of name_of
      asked_is_lem = (given_is n (settings_field (get_or fs 5 [])) (unescaped (get_or fs 4 [])) (unescaped (get_or fs 6 [])) l e f).asked

      pub text-is :
          text_of (unescaped (get_or fs 4 [])) ++ text_of (unescaped (get_or fs 6 [])) ++ name_of (get_or fs 5 [])
          ≡ option_map_or lent_text (rest_of n fs) []
      unfolding rest_of name_of
      text-is = (given_is n (settings_field (get_or fs 5 [])) (unescaped (get_or fs 4 [])) (unescaped (get_or fs 6 [])) l e f).text

-- the settings of a whole field, and the name that stands in it
pub whole-field : (f : List ℕ) → cue_settings (part_of f 0 (length f)) ≡ settings_field f
unfolding settings_field
whole-field f =
    let start : min 0 (min (length f) (length f)) ≡ 0 = omega arith in
    let end : min (length f) (length f) - 0 ≡ length f = omega arith in
    ap cue_settings (rw (start, end, take-length f) refl)

name_stands : (f : List ℕ) → take (length (name_of f)) (drop (settings_field f).value.region.place f) ≡ name_of f
unfolding name_of settings_field
name_stands f = stands_cue_settings f (record { place = 0; bytes = f }) (take-length f)

pub name-is : (f : List ℕ) → let at = span_is (settings_field f).value.region in bytes_at f at.from at.to ≡ name_of f
unfolding name_of
name-is f = stands_bytes f (settings_field f).value.region (name_stands f)

name-length : (f : List ℕ) → length (name_of f) ≤ length f
name-length f =
    let place = (settings_field f).value.region.place in
    omega (arith, ap length (name_stands f), length-take (length (name_of f)) (drop place f), length-drop place f)

-- the texts that a line's fields stand for, and the name, are together no longer than the line
fields_fit :
    (line : List ℕ)
    → let fs = fields line in
    length (text_of (unescaped (get_or fs 4 []))) + length (text_of (unescaped (get_or fs 6 []))) + length (name_of (get_or fs 5 [])) ≤ length line
fields_fit line =
    let fs = fields line in
    omega (
      arith,
      text-length escapes false (get_or fs 4 []),
      text-length escapes false (get_or fs 6 []),
      name-length (get_or fs 5 []),
      part-fits fs 4,
      part-fits fs 5,
      part-fits fs 6,
      rest-fits fs 4,
      parts_fit tab line,
    )

-- so the places in the room are numbers
lengths_are :
    (i t : Option (List ℕ)) (l : Lengths)
    → lengths_is i t ≡ Some l
    → l.id + l.text ≡ length (text_of i) + length (text_of t)
lengths_are None t l e = let z : ◌≡◌ {A = ℕ} 0 1 = cc in absurd (omega arith)
lengths_are (Some x) None l e = let z : ◌≡◌ {A = ℕ} 0 1 = cc in absurd (omega arith)
lengths_are (Some x) (Some y) l e =
    let is : ◌≡◌ {A = Lengths} l (record { id = length x; text = length y }) = cc in
    rw is refl

pub asked-fits :
    (line : List ℕ) (l : Lengths)
    → lengths_in (fields line) ≡ Some l
    → l.id + l.text + length (name_of (get_or (fields line) 5 [])) ≤ length line
asked-fits line l e =
    let fs = fields line in
    omega (arith, lengths_are (unescaped (get_or fs 4 [])) (unescaped (get_or fs 6 [])) l e, fields_fit line)

-- and so does the text that is lent fit into a room of the line's length
pub lent-size : (q : Request) → length (lent_text q) ≡ length q.id + length q.text + length q.region
unfolding lent_text
lent-size q = length-append (q.id ++ q.text) q.region ∙ ap (λ n. n + length q.region) (length-append q.id q.text)

no_request : {A : Type 0} (q : Request) → ◌≡◌ {A = Option Request} None (Some q) → A
no_request q e = let z : ◌≡◌ {A = ℕ} 0 1 = cc in absurd (omega arith)

same_request : (p q : Request) → ◌≡◌ {A = Option Request} (Some p) (Some q) → p ≡ q
same_request p q e = cc

with_size :
    (a b c : Option ℕ) (i : Option (List ℕ)) (s : Flagged CueSettings) (t : Option (List ℕ)) (q : Request)
    → request_with a b c i s t ≡ Some q
    → length (lent_text q) ≡ length (text_of i) + length (text_of t) + length s.value.region.bytes
unfolding request_with
with_size None b c i s t q e = no_request q e
with_size (Some n) None c i s t q e = no_request q e
with_size (Some n) (Some from) None i s t q e = no_request q e
with_size (Some n) (Some from) (Some to) None s t q e = no_request q e
with_size (Some n) (Some from) (Some to) (Some x) s None q e = no_request q e
with_size (Some n) (Some from) (Some to) (Some x) s (Some y) q e =
    by-test s.over
    (λ over. no_request q (rw over at e))
    (λ under. lent-size q ∙ ap (λ (p : Request). length p.id + length p.text + length p.region) (sym (same_request _ q (rw under at e))))

pub lent_fits : (line : List ℕ) (q : Request) → request line ≡ Some q → length (lent_text q) ≤ length line
unfolding request request_of name_of
lent_fits line q e =
    by-test (eqb (length (fields line)) 7 && same (get_or (fields line) 0 []) (ascii "mend"))
    (λ y. let fs = fields line in
    let size = with_size (field_number (get_or fs 1 [])) (field_number (get_or fs 2 [])) (field_number (get_or fs 3 [])) (unescaped (get_or fs 4 [])) (settings_field (get_or fs 5 [])) (unescaped (get_or fs 6 [])) q (rw y at e) in
    omega (arith, size, fields_fit line))
    (λ n. no_request q (rw n at e))
