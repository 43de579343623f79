-- Mending as its tests find it: where the line ends, what it asks for, and what is promised then.
use Prim.Native.Nat.{ℕ, suc, ◌+◌, ◌≤◌, ◌<◌}
use mathlib.Core.Path.{◌≡◌, refl, sym, ap, ◌∙◌}
use mathlib.Core.Bool.{Bool, true, false, not}
use mathlib.Core.List.{List, []}
use Rattle.std.specs.Prelude.{Option, None, Some}
use Rattle.std.specs.Prelude.{Result, Ok, Err, option_map}
use Rattle.std.specs.Option.{option_map_or}
use native.Mathlib.Omega.{arith}
use lib.Dec.{eqb}
use lib.ListN.{length, take, drop}
use lib.Seq.{take_at}
use borrow.Author.Tests.{lt-ltb, le-ltb}
use Rattle.format.specs.Bytes.{lf}
use Rattle.format.specs.Limits.{max_request}
use Rattle.format.specs.Texts.{run, has, before_first, after_first}
use Rattle.format.specs.Answers.{if_accepted, placed}
use Rattle.format.specs.Converting.{convert_error, converted_room}
use Rattle.format.specs.Replacing.{replace_error, replacing_is, replacing, replaced_room, Replaced}
use Rattle.format.specs.Requests.{Request, request, asked, lent_text, name_span, lent_entry, lent_row, mend_error, mending_is, too_long, mending_with}
use Rattle.format.specs.declared.errors.ConvertError.{ConvertError}
use Rattle.format.specs.declared.errors.ReplaceError.{ReplaceError}
use Rattle.format.specs.declared.errors.MendError.{MendError}
use Rattle.laws.proofs.Tests.{and-false}
use Rattle.laws.proofs.Runs.{run-start}
use Rattle.laws.proofs.Tokens.{first_at, after_at}
use Rattle.output.specs.Puts.{room_with}
use Rattle.output.proofs.PutLaws.{length-room, filled}
use Rattle.requests.specs.Asked.{asking_for}
use Rattle.requests.specs.declared.Asking.{Asking}
use Rattle.requests.proofs.RequestLaws.{lent-size, lent_fits}
use Rattle.mending.specs.Asked.{MendedBy}

-- where the line ends: it has no LF, is too long, or is the request
module _ (input : List ℕ) (end : ℕ) (e : end ≡ 0 + length (run (λ b. not (eqb b lf)) input)) where
  at_end : length (before_first lf input) ≡ end
  unfolding before_first
  at_end = omega arith

  pub line_unended : length input ≤ end → asked input ≡ None
  unfolding asked
  line_unended h = rw (first_at lf input, at_end, le-ltb end (length input) h) refl

  pub line_long : max_request < end → asked input ≡ None
  unfolding asked
  line_long h = rw (at_end, lt-ltb max_request end h, and-false (has lf input) false refl) refl

  pub line_is : end < length input → end ≤ max_request → asked input ≡ request (take end input)
  unfolding asked before_first
  line_is l h =
      let bytes : before_first lf input ≡ take end input = (run-start (λ b. not (eqb b lf)) input end e).bytes in
      rw (first_at lf input, at_end, lt-ltb end (length input) l, le-ltb max_request end h) (ap request bytes)

  -- what stands after it
  pub after_line : after_first lf input ≡ drop (end + 1) input
  after_line =
      let k : suc (length (before_first lf input)) ≡ end + 1 = omega (arith, at_end) in
      after_at lf input ∙ ap (λ n. drop n input) k

-- what was read of the line
pub asked-none : (o : Option Request) → ◌≡◌ {A = Option Asking} None (option_map asking_for o) → o ≡ None
asked-none None e = refl
asked-none (Some q) e = let z : ◌≡◌ {A = ℕ} 0 1 = cc in absurd (omega arith)

pub record AskedFor (o : Option Request) (a : Asking) : Type 0 where
  pub request : Request
  pub is : o ≡ Some request
  pub asking : a ≡ record { number = request.number; cue = lent_entry request; region = name_span request }

pub asked-some : (o : Option Request) (a : Asking) → Some a ≡ option_map asking_for o → AskedFor o a
unfolding asking_for
asked-some None a e = let z : ◌≡◌ {A = ℕ} 0 1 = cc in absurd (omega arith)
asked-some (Some q) a e = record { request = q; is = refl; asking = cc }

-- the text that is lent: the room holds it at its start, and the name ends where it ends
lent_length : (q : Request) → (name_span q).to ≡ length (lent_text q)
unfolding name_span
lent_length q = sym (lent-size q)

pub record Lent (left : List ℕ) (q : Request) : Type 0 where
  pub inside : (name_span q).to ≤ length left
  pub bytes : take (name_span q).to left ≡ lent_text q

pub lent :
    (line room left : List ℕ) (q : Request)
    → request line ≡ Some q
    → length line ≤ max_request
    → length room ≡ max_request
    → left ≡ room_with 0 (option_map_or lent_text (request line) []) room
    → Lent left q
unfolding placed
lent line room left q is short long e =
    let put : left ≡ room_with 0 (lent_text q) room = rw is at e in
    let fits = lent_fits line q is in
    let all : left ≡ placed (lent_text q) room = put ∙ filled (lent_text q) room (omega arith) (omega arith) in
    record {
      inside = omega (arith, lent_length q, ap length put, length-room 0 (lent_text q) room);
      bytes = ap (λ n. take n left) (lent_length q) ∙ ap (take (length (lent_text q))) all ∙ take_at (lent_text q) _ (length (lent_text q)) refl;
    }

-- what replacing answers, as mending hands it on
abbrev pub handed_on : Result ℕ ReplaceError → Result ℕ MendError
handed_on (Ok n) = Ok n
handed_on (Err e) = Err (MendError.Replace e)

handed-is : (a : Result ℕ ReplaceError) → mending_is (handed_on a) ≡ Some (replacing_is a)
unfolding mending_is mend_error replacing_is
handed-is (Ok n) = refl
handed-is (Err e) = refl

handed-back : (a : Result ℕ ReplaceError) (n : ℕ) → handed_on a ≡ Ok n → a ≡ Ok n
handed-back (Ok m) n e = cc
handed-back (Err w) n e = let z : ◌≡◌ {A = ℕ} 0 1 = cc in absurd (omega arith)

-- a bad request, and a file that is too long
module _ {o : Option Request} (raw : List ℕ) (longer : Bool) (scratch out : List ℕ) where
  pub bad_mended : o ≡ None → MendedBy o raw longer scratch out (Err MendError.BadRequest) scratch out
  unfolding mending_is mend_error
  bad_mended e =
      record {
        answer = rw e refl;
        scratched = rw e refl;
        holds = rw e refl;
        replaced = λ n q f. let z : ◌≡◌ {A = ℕ} 0 1 = cc in absurd (omega arith);
      }

  module _ (q : Request) (is : o ≡ Some q) where
    pub long_mended : too_long raw longer ≡ true → MendedBy o raw longer scratch out (Err (MendError.Replace (ReplaceError.Convert ConvertError.TooLong))) scratch out
    unfolding mending_is mend_error replace_error convert_error mending_with if_accepted
    long_mended l =
        record {
          answer = rw (is, l) refl;
          scratched = rw (is, l) refl;
          holds = rw (is, l) refl;
          replaced = λ n q f. let z : ◌≡◌ {A = ℕ} 0 1 = cc in absurd (omega arith);
        }

    -- what replacing answers
    module _ (number : ℕ) (t w : List ℕ) (a : Result ℕ ReplaceError) (text left : List ℕ) where
      pub replaced_mended :
          too_long raw longer ≡ false
          → number ≡ q.number
          → t ≡ lent_text q
          → w ≡ lent_row q
          → replacing_is a ≡ replacing raw number t w (length scratch) (length out)
          → text ≡ converted_room raw scratch
          → left ≡ replaced_room raw number t w (length scratch) out
          → ((n : ℕ) → a ≡ Ok n → Replaced raw number t w (take n left))
          → MendedBy o raw longer scratch out (handed_on a) text left
      unfolding mending_with replaced_room
      replaced_mended l en et ew e s r d =
          record {
            answer = rw (is, l, ← et, ← ew, ← en) (handed-is a ∙ ap Some e);
            scratched = rw (is, l) s;
            holds = rw (is, l, ← et, ← ew, ← en) r;
            replaced =
                λ n p f g.
                let same : q ≡ p = cc in
                let file = handed-back a n f in
                rw (← same, ← et, ← ew, ← en) (d n file);
          }
