-- A kind's word names it, and kinds are the same exactly where their words are.
use mathlib.Core.Path.{◌≡◌, refl, sym, ap, ◌∙◌}
use denote.Enum.Bare.{sameb, true_same, false_same}
use Rattle.std.proofs.Common.{rules}
use lib.Dec.{eqb}
use borrow.Author.Tests.{eqb-true, eqb-false}
use Rattle.format.specs.Trees.{kind_word, kind_numbered}
use Rattle.format.specs.declared.kinds.NodeKind.{NodeKind}
use Rattle.format.specs.contracts.kinds.NodeKind.{the_type}
use Rattle.laws.proofs.Tests.{by-test}

pub kind_numbered_lem : (k : NodeKind) → kind_numbered (kind_word k) ≡ k
unfolding kind_numbered
kind_numbered_lem NodeKind.Class = refl
kind_numbered_lem NodeKind.Italic = refl
kind_numbered_lem NodeKind.Bold = refl
kind_numbered_lem NodeKind.Underline = refl
kind_numbered_lem NodeKind.Ruby = refl
kind_numbered_lem NodeKind.RubyText = refl
kind_numbered_lem NodeKind.Voice = refl
kind_numbered_lem NodeKind.Language = refl
kind_numbered_lem NodeKind.String = refl
kind_numbered_lem NodeKind.Timestamp = refl

-- so `==` compares the words
pub same_words : (j k : NodeKind) → sameb the_type j k ≡ eqb (kind_word j) (kind_word k)
same_words j k =
    by-test (eqb (kind_word j) (kind_word k))
    (λ y.
    let e : j ≡ k = sym (kind_numbered_lem j) ∙ ap kind_numbered (eqb-true (kind_word j) (kind_word k) y) ∙ kind_numbered_lem k in
    true_same the_type j k e ∙ sym y)
    (λ n. false_same the_type (search rules) j k (λ e. eqb-false (kind_word j) (kind_word k) n (ap kind_word e)) ∙ sym n)
