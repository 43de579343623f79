use mathlib.Core.Path.{sym, ap, ◌∙◌}
use Rattle.format.specs.Fields.{unescaped}
use Rattle.output.proofs.PutLaws.{◌then◌, puts_as}
use Rattle.fields.specs.Fields.{text_of}
use Rattle.requests.proofs.put_parts.Goals as goal

pub returns : goal.returns
returns c =
    let id = puts_as (ap (λ f. text_of (unescaped f)) c.nth.ensures) c.put.ensures in
    let text = puts_as (ap (λ f. text_of (unescaped f)) c.nth-2.ensures) c.put-2.ensures in
    let name = puts_as c.name_of.ensures c.bytes.ensures in
    let all = id then text then name in
    c.room-1.given.1.1 (sym all.lent) ∙ all.holds
