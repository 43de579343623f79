-- The timestamp tags of a cue text begin with a digit, so that a tag's time never fails for want of one (request Q-5 of document 02).
use Prim.Native.Nat.{ℕ}
use mathlib.Core.Path.{◌≡◌}
use mathlib.Core.Bool.{true}
use mathlib.Core.List.{List, [], ◌∷◌, ◌++◌}
use lib.Dec.{eqb}
use Rattle.format.specs.Bytes.{full_stop, solidus, greater, less, ampersand, semicolon, digit, alphanumeric}
use Rattle.format.specs.Texts.{is_empty}
use Rattle.format.specs.Times.{failed, only_time}
use Rattle.format.specs.CueText.{Token, string_token, start_tag, end_tag, timestamp_tag, State, in_data, in_escape, in_tag, in_start_tag, in_class, in_annotation, in_end_tag, in_timestamp_tag}
use Rattle.format.specs.CueText.{Visit, go_on, passing, before, blank, data_state, escape_state, tag_state, start_tag_state, class_state, annotation_state, end_tag_state, timestamp_tag_state}
use Rattle.format.specs.CueText.{visit, visit_end, begun, returned, after_visit, after_character, cue_tokens_from, cue_tokens}
use Rattle.format.specs.declared.times.TimeFault.{TimeFault}
use Rattle.laws.proofs.Tests.{by-test}
use Rattle.laws.proofs.TimeSteps.{FailedAt, tag_fails}
use Rattle.laws.proofs.Standing.{All, all_append, either}

-- begins with a digit
abbrev Digit : List ℕ → Type 0
Digit [] = ⊥
Digit (b ∷ s) = digit b ≡ true

-- what the timestamp tag has gathered, or has as its text, does
abbrev InState : State → Type 0
InState (in_data r) = Unit
InState (in_escape r b) = Unit
InState in_tag = Unit
InState (in_start_tag r) = Unit
InState (in_class r cs b) = Unit
InState (in_annotation r cs b) = Unit
InState (in_end_tag r) = Unit
InState (in_timestamp_tag r) = Digit r

abbrev InToken : Token → Type 0
InToken (string_token v) = Unit
InToken (start_tag n cs a) = Unit
InToken (end_tag n) = Unit
InToken (timestamp_tag v) = Digit v

abbrev InVisit : Visit → Type 0
InVisit (go_on st) = InState st
InVisit (passing t) = InToken t
InVisit (before t) = InToken t

digit-more : (r : List ℕ) (c : ℕ) → Digit r → Digit (r ++ c ∷ [])
digit-more [] c d = absurd d
digit-more (b ∷ r) c d = d

in_visit : (st : State) (c : ℕ) → InState st → InVisit (visit st c)
unfolding visit data_state escape_state tag_state start_tag_state class_state annotation_state end_tag_state timestamp_tag_state
in_visit (in_data r) c h =
    either InVisit (eqb c ampersand) tt (either InVisit (eqb c less) (either InVisit (is_empty r) tt tt) tt)
in_visit (in_escape r b) c h =
    either InVisit (eqb c ampersand) tt
    (either InVisit (alphanumeric c) tt (either InVisit (eqb c semicolon) tt (either InVisit (eqb c less) tt tt)))
in_visit in_tag c h =
    either InVisit (blank c) tt
    (either InVisit (eqb c full_stop) tt
    (either InVisit (eqb c solidus) tt
    (by-test (digit c) (λ y. rw y y) (λ n. rw n (either InVisit (eqb c greater) tt tt)))))
in_visit (in_start_tag r) c h =
    either InVisit (blank c) tt (either InVisit (eqb c full_stop) tt (either InVisit (eqb c greater) tt tt))
in_visit (in_class r cs b) c h =
    either InVisit (blank c) tt (either InVisit (eqb c full_stop) tt (either InVisit (eqb c greater) tt tt))
in_visit (in_annotation r cs b) c h = either InVisit (eqb c greater) tt tt
in_visit (in_end_tag r) c h = either InVisit (eqb c greater) tt tt
in_visit (in_timestamp_tag r) c h = either InVisit (eqb c greater) h (digit-more r c h)

in_returned : (v : Visit) → InVisit v → All InToken (returned v)
unfolding returned
in_returned (go_on st) h = tt
in_returned (passing t) h = (h, tt)
in_returned (before t) h = (h, tt)

in_after : (v : Visit) (again : State) → InVisit v → InState again → InState (after_visit v again)
unfolding after_visit
in_after (go_on st) again h k = h
in_after (passing t) again h k = tt
in_after (before t) again h k = k

in_end : (st : State) → InState st → All InToken (visit_end st)
unfolding visit_end
in_end (in_data r) h = either (All InToken) (is_empty r) tt (tt, tt)
in_end (in_escape r b) h = (tt, tt)
in_end in_tag h = (tt, tt)
in_end (in_start_tag r) h = (tt, tt)
in_end (in_class r cs b) h = (tt, tt)
in_end (in_annotation r cs b) h = (tt, tt)
in_end (in_end_tag r) h = (tt, tt)
in_end (in_timestamp_tag r) h = (h, tt)

in_tokens : (st : State) (s : List ℕ) → InState st → All InToken (cue_tokens_from st s)
unfolding cue_tokens_from after_character
in_tokens st [] h = in_end st h
in_tokens st (c ∷ s) h =
    all_append InToken (returned (visit st c)) _ (in_returned (visit st c) (in_visit st c h))
    (in_tokens (after_character st c) s (in_after (visit st c) _ (in_visit st c h) (in_after (visit begun c) begun (in_visit begun c tt) tt)))

-- where the time of a timestamp tag fails: a digit is not missing
abbrev pub TagFails : Token → Type 0
TagFails (string_token v) = Unit
TagFails (start_tag n cs a) = Unit
TagFails (end_tag n) = Unit
TagFails (timestamp_tag v) = (f : TimeFault) (rest : List ℕ) → only_time v ≡ failed f rest → FailedAt (2 ∷ 3 ∷ 4 ∷ 5 ∷ 7 ∷ []) v f rest

token_fails : (t : Token) → InToken t → TagFails t
token_fails (string_token v) h = tt
token_fails (start_tag n cs a) h = tt
token_fails (end_tag n) h = tt
token_fails (timestamp_tag []) h = absurd h
token_fails (timestamp_tag (b ∷ v)) h = λ f rest e. tag_fails b v f rest h e

all_fail : (ts : List Token) → All InToken ts → All TagFails ts
all_fail [] h = tt
all_fail (t ∷ ts) h = (token_fails t h.0, all_fail ts h.1)

pub tags_fail : (s : List ℕ) → All TagFails (cue_tokens s)
unfolding cue_tokens
tags_fail s = all_fail (cue_tokens s) (in_tokens begun s tt)
