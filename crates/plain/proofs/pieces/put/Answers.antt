use mathlib.Core.Path.{sym, ap, ◌∙◌}
use native.Mathlib.Numerals.{towards_suc}
use native.Mathlib.Omega.{arith}
use lib.ListN.{drop}
use lib.Seq.{sets}
use Rattle.plain.specs.Pieces.{taken_by, size_of, put_by}
use Rattle.plain.proofs.pieces.put.Goals as goal

pub copy-requires : goal.copy-requires
copy-requires c = omega (arith, ap taken_by c.in-Keep.is, ap size_of c.in-Keep.is)

pub returns-in-Keep : goal.returns-in-Keep
returns-in-Keep c =
    let args = c.args in
    c.copy.ensures ∙ ap (λ q. sets args.room.now args.to (put_by q (drop args.at args.s.now))) (sym c.in-Keep.is)

pub returns-in-Replace : goal.returns-in-Replace
returns-in-Replace c = rw c.in-Replace.is (simp towards_suc)
