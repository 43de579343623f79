use Prim.Native.Nat.{ℕ}
use mathlib.Core.Path.{◌≡◌, sym, ap, ◌∙◌}
use mathlib.Core.List.{List, []}
use borrow.Author.Rules.{rules}
use lib.ListN.{get_or}
use denote.Bor.{Bor}
use Rattle.std.specs.Prelude.{Option, None, Some, option_map, option_copied, MatchOption, IsSomeAnd}
use Rattle.format.specs.Rows.{cue_entry}
use Rattle.format.specs.Writable.{names_of}
use Rattle.output.proofs.PutLaws.{puts_as}
use Rattle.forms.specs.Forms.{cue_form}
use Rattle.forms.proofs.FormLaws.{cue_among}
use Rattle.forms.proofs.cue.Goals as goal

-- the name of the region that is asked for
named :
    (form : ℕ → List ℕ) (region : Option ℕ) (name : Option (Bor (List ℕ))) {Q : ℕ → Bor (List ℕ) → Type 0}
    → MatchOption region (name ≡ None) (λ i. IsSomeAnd name (Q i))
    → ((i : ℕ) (x : Bor (List ℕ)) → Q i x → x.now ≡ form i)
    → option_copied name ≡ option_map form region
named form None name e q = ap option_copied e
named form (Some i) (Some x) e q = ap Some (q i x e)
named form (Some i) None e q = absurd e

pub returns : goal.returns
returns c =
    let args = c.args in
    let form = λ (i : ℕ). get_or (names_of args.text.now args.regions.now) i [] in
    let name = named form c.region.result c.map-name.result c.map-name.ensures.cases (λ i x q. search rules) in
    puts_as (ap (cue_form args.text.now (cue_entry args.row)) name ∙ sym (cue_among args.text.now args.regions.now (cue_entry args.row) c.region.result (sym c.region.ensures))) c.cue_named.ensures
