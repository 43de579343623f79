use mathlib.Core.Path.{◌≡◌, refl, sym, ap, ◌∙◌}
use mathlib.Core.Bool.{false}
use lib.ListN.{length, take}
use borrow.Author.Rules.{rules}
use Rattle.std.specs.Prelude.{Err}
use lib.Seq.{length-take-le}
use borrow.Author.Tests.{lt-ltb, le-ltb}
use Rattle.format.specs.Limits.{max_mended}
use Rattle.format.specs.Requests.{request, lent_row, too_long}
use Rattle.format.specs.Rows.{new_cue_words}
use Rattle.format.specs.declared.errors.MendError.TheVariants as MendError
use Rattle.laws.proofs.Tests.{or_true}
use Rattle.requests.specs.declared.Asking.{Asking}
use Rattle.mending.specs.Asked.{MendedBy}
use Rattle.mending.proofs.MendLaws.{AskedFor, asked-none, asked-some, Lent, lent, handed_on, bad_mended, long_mended, replaced_mended}
use Rattle.mending.proofs.mend_line.Goals as goal
use Rattle.mending.proofs.mend_line.Goals.{In-Some, After-replace_cue}

-- `mending::mend_line` meets its contract.
-- what the line asks for
asked-for : (c : In-Some) → AskedFor (request c.args.line.now) c.in-Some.asking
asked-for c =
    asked-some (request c.args.line.now) c.in-Some.asking (sym c.in-Some.is ∙ c.read.ensures.answer)

-- the text that is lent for it
lent-for : (c : In-Some) → Lent c.read.new.room (asked-for c).request
lent-for c =
    lent c.args.line.now _ c.read.new.room (asked-for c).request (asked-for c).is c.requires refl c.read.ensures.room

pub returns-in_default : goal.returns-in_default
returns-in_default c =
    let args = c.args in
    bad_mended args.raw.now args.longer args.scratch.now args.out.now
    (asked-none (request args.line.now) (sym c.in_default.is ∙ c.read.ensures.answer))

pub returns-then-longer : goal.returns-then-longer
unfolding too_long
returns-then-longer c =
    let args = c.args in
    let for = asked-for (goal.at.returns-then-longer c).In-Some in
    long_mended args.raw.now args.longer args.scratch.now args.out.now for.request for.is
    (rw c.if-longer.true refl)

pub returns-then-raw-gt-MAX_RAW : goal.returns-then-raw-gt-MAX_RAW
unfolding too_long
returns-then-raw-gt-MAX_RAW c =
    let args = c.args in
    let for = asked-for (goal.at.returns-then-raw-gt-MAX_RAW c).In-Some in
    long_mended args.raw.now args.longer args.scratch.now args.out.now for.request for.is
    (rw (lt-ltb max_mended (length args.raw.now) c.if-raw-gt-MAX_RAW.true) (or_true args.longer))

pub slice_bounds-text-end : goal.slice_bounds-text-end
slice_bounds-text-end c =
    rw (ap (λ (a : Asking). a.region.to) (asked-for (goal.at.slice_bounds-text-end c).In-Some).asking) (lent-for (goal.at.slice_bounds-text-end c).In-Some).inside

pub slice_bounds-replace_cue-end : goal.slice_bounds-replace_cue-end
slice_bounds-replace_cue-end c =
    sym (length-take-le _ _ (rw (ap (λ (a : Asking). a.region.to) (asked-for (goal.at.slice_bounds-replace_cue-end c).In-Some).asking) (lent-for (goal.at.slice_bounds-replace_cue-end c).In-Some).inside))

-- what replacing answers, as it is handed on
told :
    (c : After-replace_cue) (for : AskedFor (request c.args.line.now) c.in-Some.asking) (text-lent : Lent c.read.new.room for.request)
    → let args = c.args in
    MendedBy (request args.line.now) args.raw.now args.longer args.scratch.now args.out.now (handed_on c.replace_cue.result) c.replace_cue.new.scratch c.replace_cue.new.out
unfolding too_long lent_row
told c for text-lent =
    let args = c.args in
    let text = c.read.new.room in
    let short : too_long args.raw.now args.longer ≡ false = rw (c.if-longer.false, le-ltb max_mended (length args.raw.now) c.if-raw-gt-MAX_RAW.false) refl in
    replaced_mended args.raw.now args.longer args.scratch.now args.out.now for.request for.is
    c.in-Some.asking.number (take c.in-Some.asking.region.to text) c.row.result c.replace_cue.result _ _
    short
    (ap (λ (a : Asking). a.number) for.asking)
    (ap (λ (a : Asking). take a.region.to text) for.asking ∙ text-lent.bytes)
    (c.row.ensures ∙ ap (λ (a : Asking). new_cue_words a.cue a.region) for.asking)
    c.replace_cue.ensures.answer
    c.replace_cue.ensures.scratch
    c.replace_cue.ensures.out
    c.replace_cue.ensures.replaced

pub returns-in_err-replace_cue : goal.returns-in_err-replace_cue
returns-in_err-replace_cue c =
    let is : c.from_residual.result ≡ Err (MendError.Replace c.in_err-replace_cue.field-0.0) = search rules in
    let same : handed_on c.replace_cue.result ≡ c.from_residual.result = ap handed_on c.in_err-replace_cue.was ∙ sym is in
    let here = goal.at.returns-in_err-replace_cue c in
    rw same at (told here.After-replace_cue (asked-for here.In-Some) (lent-for here.In-Some))

pub returns : goal.returns
returns c =
    let here = goal.at.returns c in
    rw (ap handed_on c.in_ok-replace_cue.was) at (told here.After-replace_cue (asked-for here.In-Some) (lent-for here.In-Some))
