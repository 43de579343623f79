-- A new cue's row lent as words, and the part of a text that is told by its places.
use Rattle.std.specs.Prelude.{ℕ, cond, List, [], ◌∷◌, eqb, length, get_or}
use Rattle.format.specs.Answers.{Answer, if_accepted, returned}
use Rattle.format.specs.Rows.{cue_entry}
use Rattle.format.specs.declared.rows.CueEntry.{CueEntry}
use Rattle.format.specs.declared.settings.Span.{Span}

-- a word that is no code, and no place of a text
abbrev pub most : ℕ
most = 18_446_744_073_709_551_615

-- a row of a new cue in which nothing is named, so that it fails test 1
abbrev pub unnamed : List ℕ
unnamed =
    most ∷ most ∷ most ∷ most ∷ most ∷ most ∷ most ∷ most ∷ most ∷ most ∷ most ∷ most ∷ most ∷ most ∷ most ∷ most ∷ most ∷ most ∷ most ∷ most ∷ []

-- the row that is lent: one of another count of words is taken for a row that fails test 1
unfoldable pub lent_words : List ℕ → List ℕ
lent_words w = cond (eqb (length w) 20) w unnamed

-- the values told with a part that stands at a place: from and to, or what is returned with the refusal
unfoldable pub place_told : Answer → Span → List ℕ
place_told answer p = if_accepted answer (p.from ∷ p.to ∷ []) (returned answer)

-- the entry of the cue with a number
abbrev pub entry_at : List (List ℕ) → ℕ → CueEntry
entry_at cues number = cue_entry (get_or cues number [])
