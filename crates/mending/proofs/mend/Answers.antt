use Prim.Native.Nat.{◌+◌, ◌-◌}
use mathlib.Core.Path.{◌≡◌, sym, ◌∙◌}
use native.Mathlib.Omega.{arith}
use lib.ListN.{length, take, drop, length-drop}
use lib.Seq.{length-take-le, take_all}
use Rattle.format.specs.Requests.{mending, mended_room, mended_scratch}
use Rattle.mending.proofs.MendLaws.{line_unended, line_long, line_is, after_line, bad_mended}
use Rattle.mending.proofs.mend.Goals as goal

pub returns-then-end-gt-MAX_LINE : goal.returns-then-end-gt-MAX_LINE
unfolding mending mended_room mended_scratch
returns-then-end-gt-MAX_LINE c =
    let args = c.args in
    let done = bad_mended _ args.longer args.scratch.now args.out.now (line_long args.input.now c.past-end.result c.past-end.ensures (omega arith)) in
    record {
      answer = done.answer;
      scratch = done.scratched;
      out = done.holds;
      replaced = done.replaced;
    }

pub returns-then-input-end : goal.returns-then-input-end
unfolding mending mended_room mended_scratch
returns-then-input-end c =
    let args = c.args in
    let done = bad_mended _ args.longer args.scratch.now args.out.now (line_unended args.input.now c.past-end.result c.past-end.ensures (omega arith)) in
    record {
      answer = done.answer;
      scratch = done.scratched;
      out = done.holds;
      replaced = done.replaced;
    }

pub slice_bounds-mend_line-end : goal.slice_bounds-mend_line-end
slice_bounds-mend_line-end c = sym (length-take-le _ _ (omega arith))

pub mend_line-requires : goal.mend_line-requires
mend_line-requires c =
    let input = c.args.input.now in
    omega (arith, length-take-le c.past-end.result input (omega arith))

pub returns : goal.returns
unfolding mending mended_room mended_scratch
returns c =
    let end = c.past-end.result in
    let args = c.args in
    let input = args.input.now in
    let beyond = end + 1 in
    let all : take (length input - beyond) (drop beyond input) ≡ drop beyond input =
    take_all (length input - beyond) (drop beyond input) (omega (arith, length-drop beyond input)) in
    let line = line_is input end c.past-end.ensures (omega arith) (omega arith) in
    let raw = after_line input end c.past-end.ensures ∙ sym all in
    let done = rw (← line, ← raw) at c.mend_line.ensures in
    record {
      answer = done.answer;
      scratch = done.scratched;
      out = done.holds;
      replaced = done.replaced;
    }
