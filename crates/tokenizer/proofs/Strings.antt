-- The data and escape states at once: a text that does not begin with `<` gives one string, up to the next `<`.
use Prim.Native.Nat.{ℕ, ◌+◌, ◌<◌}
use mathlib.Core.Path.{◌≡◌, refl, ◌∙◌}
use mathlib.Core.Bool.{Bool, false, not}
use mathlib.Core.List.{List, [], ◌∷◌, ◌++◌, append-nil, append_assoc}
use native.Mathlib.Omega.{arith}
use lib.Dec.{eqb}
use lib.ListN.{length, length-append}
use borrow.Author.Tests.{eqb-true}
use Rattle.format.specs.Bytes.{ascii, ampersand, semicolon, less, alphanumeric, digit}
use Rattle.format.specs.Texts.{same, is_empty, run, past_run}
use Rattle.format.specs.CueText.{string_token, State, in_data, in_escape, data_state, escape_state, escaped, visit, visit_end, returned, after_visit, after_character, cue_tokens_from, cue_tokens}
use Rattle.laws.proofs.Tests.{by-test}
use Rattle.tokenizer.specs.Decoding.{added, holding, decoded_from, decoded}

-- all but `<`
abbrev pub not_less : ℕ → Bool
not_less b = not (eqb b less)

-- the data state, or the escape state where something is held
unfoldable pub standing : List ℕ → List ℕ → State
standing r [] = in_data r
standing r (b ∷ h) = in_escape r (b ∷ h)

next_data :
    (r : List ℕ) (c : ℕ) (s : List ℕ)
    → eqb c less ≡ false
    → cue_tokens_from (in_data r) (c ∷ s) ≡ cue_tokens_from (standing (r ++ added [] c) (holding [] c)) s
unfolding cue_tokens_from after_character after_visit visit data_state returned standing added holding
next_data r c s n = by-test (eqb c ampersand) (λ y. rw (y, append-nil r)) (λ m. rw (m, n))

next_escape :
    (r : List ℕ) (b : ℕ) (h : List ℕ) (c : ℕ) (s : List ℕ)
    → eqb c less ≡ false
    → cue_tokens_from (in_escape r (b ∷ h)) (c ∷ s) ≡ cue_tokens_from (standing (r ++ added (b ∷ h) c) (holding (b ∷ h) c)) s
unfolding cue_tokens_from after_character after_visit visit escape_state returned standing added holding
next_escape r b h c s n =
    by-test (eqb c ampersand)
    (λ y. rw y)
    (λ m.
    by-test (alphanumeric c)
    (λ y. rw (m, y, append-nil r))
    (λ k. by-test (eqb c semicolon) (λ y. rw (m, k, y)) (λ l. rw (m, k, l, n, append_assoc r (b ∷ h) (c ∷ [])))))

next_byte :
    (r h : List ℕ) (c : ℕ) (s : List ℕ)
    → eqb c less ≡ false
    → cue_tokens_from (standing r h) (c ∷ s) ≡ cue_tokens_from (standing (r ++ added h c) (holding h c)) s
unfolding standing
next_byte r [] c s n = next_data r c s n
next_byte r (b ∷ h) c s n = next_escape r b h c s n

-- something has been read of the string
abbrev Started : List ℕ → List ℕ → Type 0
Started r h = 0 < length r + length h

escaped-some : (b : ℕ) (h : List ℕ) → 0 < length (escaped (b ∷ h))
unfolding escaped
escaped-some b h =
    by-test (same (b ∷ h) (ascii "&amp")) (λ y. rw y (omega arith))
    (λ n1.
    by-test (same (b ∷ h) (ascii "&lt")) (λ y. rw (n1, y) (omega arith))
    (λ n2.
    by-test (same (b ∷ h) (ascii "&gt")) (λ y. rw (n1, n2, y) (omega arith))
    (λ n3.
    by-test (same (b ∷ h) (ascii "&lrm")) (λ y. rw (n1, n2, n3, y) (omega arith))
    (λ n4.
    by-test (same (b ∷ h) (ascii "&rlm")) (λ y. rw (n1, n2, n3, n4, y) (omega arith))
    (λ n5.
    by-test (same (b ∷ h) (ascii "&nbsp")) (λ y. rw (n1, n2, n3, n4, n5, y) (omega arith))
    (λ n6. rw (n1, n2, n3, n4, n5, n6) (omega arith)))))))

still_started : (r h : List ℕ) (c : ℕ) → Started r h → Started (r ++ added h c) (holding h c)
unfolding added holding
still_started r [] c p = by-test (eqb c ampersand) (λ y. rw y (omega arith)) (λ n. rw n (omega (arith, length-append r (c ∷ []))))
still_started r (b ∷ h) c p =
    by-test (eqb c ampersand)
    (λ y. rw y (omega arith))
    (λ n.
    by-test (alphanumeric c)
    (λ y. rw (n, y) (omega (arith, length-append (b ∷ h) (c ∷ []))))
    (λ m.
    by-test (eqb c semicolon)
    (λ y. rw (n, m, y) (omega (arith, length-append r (escaped (b ∷ h)), escaped-some b h)))
    (λ l. rw (n, m, l) (omega (arith, length-append r (b ∷ h ++ c ∷ []))))))

-- at `<`, and at the end
not_empty : (r : List ℕ) → 0 < length r → is_empty r ≡ false
unfolding is_empty
not_empty [] h = absurd (omega arith)
not_empty (b ∷ r) h = refl

at_less : (r h : List ℕ) (s : List ℕ) → Started r h → cue_tokens_from (standing r h) (less ∷ s) ≡ string_token (r ++ h) ∷ cue_tokens (less ∷ s)
unfolding standing cue_tokens cue_tokens_from after_character after_visit visit data_state escape_state returned is_empty alphanumeric digit
at_less r [] s p = rw (not_empty r (omega arith), append-nil r)
at_less r (b ∷ h) s p = refl

at_end : (r h : List ℕ) → Started r h → cue_tokens_from (standing r h) [] ≡ string_token (r ++ h) ∷ cue_tokens []
unfolding standing cue_tokens cue_tokens_from visit_end is_empty
at_end r [] p = rw (not_empty r (omega arith), append-nil r)
at_end r (b ∷ h) p = refl

string_goes :
    (r h s : List ℕ)
    → Started r h
    → cue_tokens_from (standing r h) s ≡ string_token (r ++ decoded_from h (run not_less s)) ∷ cue_tokens (past_run not_less s)
unfolding run past_run decoded_from
string_goes r h [] p = at_end r h p
string_goes r h (c ∷ s) p =
    by-test (eqb c less)
    (λ y. let e = eqb-true c less y in rw e (at_less r h s p))
    (λ n.
    rw n
    (next_byte r h c s n
    ∙ string_goes (r ++ added h c) (holding h c) s (still_started r h c p)
    ∙ rw (append_assoc r (added h c) (decoded_from (holding h c) (run not_less s)))))

-- the string that a text begins with
pub string_token_lem :
    (c : ℕ) (s : List ℕ)
    → eqb c less ≡ false
    → cue_tokens (c ∷ s) ≡ string_token (decoded (run not_less (c ∷ s))) ∷ cue_tokens (past_run not_less (c ∷ s))
unfolding cue_tokens decoded decoded_from standing run past_run added holding
string_token_lem c s n =
    let first : Started (added [] c) (holding [] c) = by-test (eqb c ampersand) (λ y. rw y (omega arith)) (λ m. rw m (omega arith)) in
    rw n (next_byte [] [] c s n ∙ string_goes (added [] c) (holding [] c) s first)
