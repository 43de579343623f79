use Prim.Native.Nat.{ℕ, ◌≤◌, ◌<◌}
use mathlib.Core.Path.{◌≡◌, sym, ap, ◌∙◌}
use mathlib.Core.List.{List, [], ◌∷◌}
use native.Mathlib.Omega.{arith}
use lib.ListN.{length}
use borrow.Author.Tests.{lt-ltb, le-ltb}
use Rattle.format.specs.Limits.{max_file}
use Rattle.format.specs.Plain.{to_plain, plain_text}
use Rattle.format.specs.Answers.{accepted, refused, if_accepted, placed}
use Rattle.format.specs.Converting.{convert_error, converted_is, converting, converted_room}
use Rattle.laws.proofs.PlainText.{plain_text-length}
use Rattle.plain.proofs.MarkLaws.{drop_bom-length}
use Rattle.plain.proofs.convert.Goals as goal
use Rattle.plain.proofs.convert.Goals.{After-without_mark-bytes, Joined-room-raw, then-room-raw+else-room-need, else-room-raw}

-- `plain::convert` meets its contract: each way out is one case of the chain of tests.
too_long_lem : (raw : List ℕ) (n : ℕ) → max_file < length raw → converting raw n ≡ refused 1 []
unfolding converting
too_long_lem raw n l = rw (lt-ltb max_file (length raw) l)

too_short : (raw : List ℕ) (n : ℕ) → length raw ≤ max_file → n < length (plain_text raw) → converting raw n ≡ refused 2 (length (plain_text raw) ∷ [])
unfolding converting
too_short raw n l s = rw (le-ltb max_file (length raw) l, lt-ltb n (length (plain_text raw)) s)

fits : (raw : List ℕ) (n : ℕ) → length raw ≤ max_file → length (plain_text raw) ≤ n → converting raw n ≡ accepted (length (plain_text raw) ∷ [])
unfolding converting
fits raw n l s = rw (le-ltb max_file (length raw) l, le-ltb n (length (plain_text raw)) s)

refusal : (raw room : List ℕ) (n : ℕ) (vs : List ℕ) → converting raw (length room) ≡ refused n vs → room ≡ converted_room raw room
unfolding converted_room if_accepted
refusal raw room n vs e = rw e

acceptance : (raw room : List ℕ) (vs : List ℕ) → converting raw (length room) ≡ accepted vs → placed (plain_text raw) room ≡ converted_room raw room
unfolding converted_room if_accepted
acceptance raw room vs e = rw e

pub returns-then-raw-gt-MAX_FILE : goal.returns-then-raw-gt-MAX_FILE
unfolding converted_is convert_error
returns-then-raw-gt-MAX_FILE c =
    let args = c.args in
    let long = too_long_lem args.raw.now (length args.room.now) c.if-raw-gt-MAX_FILE.true in
    record {
      answer = sym long;
      room = refusal args.raw.now args.room.now 1 [] long;
    }

-- the bytes after the byte order mark give the whole text
whole : (c : After-without_mark-bytes) → to_plain c.without_mark-bytes.result.now ≡ plain_text c.args.raw.now
unfolding plain_text
whole c = ap to_plain c.without_mark-bytes.ensures

pub measure-need-requires : goal.measure-need-requires
measure-need-requires c = omega (arith, drop_bom-length c.args.raw.now, ap length c.without_mark-bytes.ensures)

pub returns-then-room-need : goal.returns-then-room-need
unfolding converted_is convert_error
returns-then-room-need c =
    let args = c.args in
    let need : c.measure-need.result ≡ length (plain_text args.raw.now) = c.measure-need.ensures ∙ ap length (whole (goal.at.returns-then-room-need c).After-without_mark-bytes) in
    let short = too_short args.raw.now (length args.room.now) (omega arith) (rw need at c.if-room-need.true) in
    record {
      answer = sym (short ∙ rw need);
      room = refusal args.raw.now args.room.now 2 (length (plain_text args.raw.now) ∷ []) short;
    }

-- the room has place for the text, measured or not
enough : (c : Joined-room-raw) → to_plain c.without_mark-bytes.result.now ≡ plain_text c.args.raw.now → length (plain_text c.args.raw.now) ≤ length c.args.room.now
enough c all =
    elim c.if-room-raw.branch [ then-room-raw+else-room-need w ↦ omega (arith, w.measure-need.ensures, ap length all, w.if-room-need.false) | else-room-raw w ↦ omega (arith, plain_text-length c.args.raw.now, w.if-room-raw.false) ]

pub write-requires : goal.write-requires
write-requires c =
    let all = whole (goal.at.write-requires c).After-without_mark-bytes in
    rw all (enough (goal.at.write-requires c).Joined-room-raw all)

pub returns : goal.returns
unfolding converted_is
returns c =
    let raw = c.args.raw.now in
    let room = c.args.room.now in
    let all = whole (goal.at.returns c).After-without_mark-bytes in
    let ok = fits raw (length room) (omega arith) (enough (goal.at.returns c).Joined-room-raw all) in
    record {
      answer = rw (c.write.ensures.0, all) (sym ok);
      room = c.write.ensures.1 ∙ ap (λ s. placed s room) all ∙ acceptance raw room (length (plain_text raw) ∷ []) ok;
    }
