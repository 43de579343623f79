use mathlib.Core.Path.{◌≡◌, sym}
use borrow.Author.Rules.{rules}
use Rattle.std.specs.Prelude.{Err}
use Rattle.format.specs.Writing.{file_of}
use Rattle.format.specs.declared.errors.WriteError.TheVariants as WriteError
use Rattle.writer.proofs.WriteLaws.{refused_by, made, not_made}
use Rattle.writer.proofs.write.Goals as goal

pub returns-in_err-check : goal.returns-in_err-check
returns-in_err-check c =
    let args = c.args in
    let is : c.from_residual.result ≡ Err (WriteError.NotWritable c.in_err-check.field-0.0) = search rules in
    let p = refused_by args.text.now args.styles.now args.regions.now args.cues.now args.out.now c.check.ensures c.in_err-check.was in
    let q = rw (sym is) at p in
    record { answer = q.answer; out = q.out; back = q.back }

-- The lists are writable here, so that what is answered is what making the file answers: `not_made` says so of each refusal,
-- and `made` where the file stands.
pub returns-in_err-make_file : goal.returns-in_err-make_file
returns-in_err-make_file c =
    let args = c.args in
    let file = file_of args.text.now args.styles.now args.regions.now args.cues.now in
    let is : c.from_residual-in_err-make_file.result ≡ Err (WriteError.Out c.in_err-make_file.field-0.0) = search rules in
    let m = rw c.in_err-make_file.was at (c.make_file.ensures file (λ a b put. put)) in
    let p = not_made args.text.now args.styles.now args.regions.now args.cues.now args.out.now c.check.ensures c.in_ok-check.was m in
    let q = rw (sym is) at p in
    record { answer = q.answer; out = q.out; back = q.back }

pub returns : goal.returns
returns c =
    let args = c.args in
    let file = file_of args.text.now args.styles.now args.regions.now args.cues.now in
    let m = rw c.in_ok-make_file.was at (c.make_file.ensures file (λ a b put. put)) in
    let p = made args.text.now args.styles.now args.regions.now args.cues.now args.out.now c.check.ensures c.in_ok-check.was m in
    record { answer = p.answer; out = p.out; back = p.back }
