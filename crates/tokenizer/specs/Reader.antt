-- Document 01, Cue text: "a reader that stands over one cue's text and a place in it". Where it stands after a token, and the tokens that it hands
-- out one after the other; that these are the text's tokens by document 000, section 6.4, is `handed_out_lem` of `proofs/HandedOut.antt`.
use Rattle.std.specs.Prelude.{ℕ, zero, suc, List, [], ◌∷◌, Option, None, Some}
use Rattle.format.specs.CueText as CueText
use Rattle.tokenizer.specs.Tags.{token_is, step_is}
use Rattle.tokenizer.specs.declared.Stepped.{Stepped}

-- the place after a token; where there is none, the same place
abbrev pub moved_to : Option Stepped → ℕ → ℕ
moved_to None at = at
moved_to (Some step) at = step.next

-- what a step hands out, before what the later ones do
unfoldable pub handed : List ℕ → Option Stepped → List CueText.Token → List CueText.Token
handed s None later = []
handed s (Some step) later = token_is s step.token ∷ later

-- the tokens that at most n steps hand out, from a place on
unfoldable pub handed_out : ℕ → List ℕ → ℕ → List CueText.Token
handed_out zero s at = []
handed_out (suc n) s at = handed s (step_is s at) (handed_out n s (moved_to (step_is s at) at))

-- where the reader stands after n steps from a place on
unfoldable pub stands_at : ℕ → List ℕ → ℕ → ℕ
stands_at zero s at = at
stands_at (suc n) s at = stands_at n s (moved_to (step_is s at) at)
