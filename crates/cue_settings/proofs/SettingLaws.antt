-- Settings by the code's answers: a setting by its name, its numbers by what reading them told, and the fold over tokens.
use Prim.Native.Nat.{ℕ, ◌+◌, ◌-◌}
use lib.ListN.{take, drop}
use mathlib.Core.Path.{◌≡◌, refl, sym, ap}
use mathlib.Core.Bool.{true, false, ◌||◌}
use mathlib.Core.List.{List}
use Rattle.std.specs.Prelude.{Option, None, Some, Result, Ok, Err}
use Rattle.format.specs.Bytes.{ascii}
use Rattle.format.specs.Texts.{Part, is_empty, same}
use Rattle.format.specs.Numbers.{LineNumber, over_line}
use Rattle.format.specs.Tokens.{name_of, value_of, Flagged, folded}
use Rattle.format.specs.CueSettings.{CueSettings, settings_after, is_over, line_counted}
use Rattle.format.specs.CueSettings.{named, cue_change, changed, cue_setting, span_is}
use Rattle.format.specs.declared.settings.Settings.{Settings}
use Rattle.format.specs.declared.settings.Change.{Change}
use Rattle.format.specs.declared.settings.LineAlign.{LineAlign}
use Rattle.format.specs.declared.settings.Line.TheVariants as Line
use Rattle.laws.proofs.Tests.{by-test, or_false}
use Rattle.laws.proofs.Changes.{name_after_lem, stepped, folds_as}
use Rattle.values.specs.Tokens.{token_from, Named}
use Rattle.values.specs.Numbers.{line_number_is}
use Rattle.values.specs.declared.numbers.LineNumber.{LineNumber as Told}
use Rattle.values.specs.declared.numbers.NumberError.{NumberError}
use Rattle.cue_settings.specs.Steps.{step_with, step_is, taken_is}
use Rattle.cue_settings.specs.declared.steps.CueTaken.{CueTaken}

-- a change by what the code was told
abbrev pub number_told : Result Told NumberError → LineAlign → Change
number_told (Err NumberError.Bad) a = Change.Nothing
number_told (Err NumberError.Over) a = Change.Over
number_told (Ok n) a = Change.Line (record { line = Line.At n.negative n.millionths; snap = true; align = a })

pub number-told : (o : Option LineNumber) (a : LineAlign) → line_counted o a ≡ number_told (line_number_is o) a
unfolding line_counted
number-told None a = refl
number-told (Some n) a = by-test (over_line n) (λ y. rw y refl) (λ z. rw z refl)

-- a name that is none of a setting's
pub named_none :
    (name x : List ℕ) (s : Settings)
    → same name (ascii "region") ≡ false
    → same name (ascii "vertical") ≡ false
    → same name (ascii "line") ≡ false
    → same name (ascii "position") ≡ false
    → same name (ascii "size") ≡ false
    → same name (ascii "align") ≡ false
    → Change.Nothing ≡ named name x s
unfolding named
named_none name x s region vertical line position size align = rw (region, vertical, line, position, size, align)

-- one token: of each part that may become the name the code has the span
step_is_lem :
    (t : Part) (v : Flagged CueSettings)
    → step_is t (taken_is v) ≡ taken_is (record { value = (cue_setting t v.value).value; over = v.over || (cue_setting t v.value).over })
unfolding cue_setting changed span_is is_empty
step_is_lem t v =
    let h = cue_change t v.value.settings in
    ap (λ n. record { settings = settings_after h v.value.settings; region = n; over = v.over || is_over h })
    (sym (name_after_lem (λ p n. span_is p ≡ n) refl h {x = value_of t} {n = v.value.region} refl refl))

-- a token without a name or a value changes nothing; one with both is the setting of that name
pub unnamed_step : (t : Part) (v : CueTaken) → is_empty (name_of t) || is_empty (value_of t).bytes ≡ true → step_is t v ≡ v
unfolding cue_change
unnamed_step t v e = rw e (ap (λ o. record { settings = v.settings; region = v.region; over = o }) (or_false v.over))

pub named-step_is :
    (s : List ℕ) (from c : ℕ) (v : CueTaken)
    → Named s from c
    → step_with (named (take (c - from) (drop from s)) (drop (c + 1) s) v.settings) (span_is (token_from s (c + 1))) v ≡ step_is (token_from s from) v
unfolding cue_change
named-step_is s from c v n = rw (n.both, n.name, n.value)

-- token after token
pub fold_is : (v : Flagged CueSettings) (ts : List Part) → stepped step_is (taken_is v) ts ≡ taken_is (folded cue_setting v ts)
fold_is v ts = folds_as cue_setting taken_is step_is step_is_lem v ts
