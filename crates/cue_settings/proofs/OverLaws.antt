-- A number above its limit is one whatever the settings read so far are, and only a line number can be.
use Prim.Native.Nat.{ℕ}
use mathlib.Core.Path.{◌≡◌, refl, sym, ap, ◌∙◌}
use mathlib.Core.Bool.{Bool, false, true, not, ◌||◌}
use mathlib.Core.List.{List, [], ◌∷◌}
use Rattle.std.specs.Prelude.{Option, None, Some}
use Rattle.std.specs.Option.{option_map_or}
use Rattle.format.specs.Bytes.{ascii, comma, percent}
use Rattle.format.specs.Texts.{Part, is_empty, same, ends_with, before_first, has}
use Rattle.format.specs.Numbers.{percentage, LineNumber, line_number, over_line}
use Rattle.format.specs.Tokens.{tokens, name_of, value_of, Flagged, folded}
use Rattle.format.specs.CueSettings.{CueSettings, opening_settings, is_over, line_align, line_at_percentage, line_counted, line_aligned, line_change}
use Rattle.format.specs.CueSettings.{position_align, position_aligned, position_change, named, cue_change, changed, cue_setting, cue_settings}
use Rattle.format.specs.declared.settings.Settings.{Settings}
use Rattle.format.specs.declared.settings.Change.{Change}
use Rattle.format.specs.declared.settings.LineAlign.{LineAlign}
use Rattle.format.specs.declared.settings.PositionAlign.{PositionAlign}
use Rattle.laws.proofs.Runs.{same-is}
use Rattle.laws.proofs.Tests.{by-test, or_false}
use Rattle.cue_settings.specs.Overs.{token_over, any_token_over}

-- a percentage is no change that is above a limit
line_percentage : (o : Option ℕ) (a : LineAlign) → is_over (option_map_or (line_at_percentage a) o Change.Nothing) ≡ false
unfolding line_at_percentage
line_percentage None a = refl
line_percentage (Some n) a = refl

size_never : (o : Option ℕ) → is_over (option_map_or Change.Size o Change.Nothing) ≡ false
size_never None = refl
size_never (Some n) = refl

position_never : (o : Option ℕ) (a : Option PositionAlign) → is_over (position_aligned o a) ≡ false
unfolding position_aligned
position_never None a = refl
position_never (Some n) None = refl
position_never (Some n) (Some a) = refl

-- a line number is above its limit with any alignment
counted_alike : (o : Option LineNumber) (a b : LineAlign) → is_over (line_counted o a) ≡ is_over (line_counted o b)
unfolding line_counted
counted_alike None a b = refl
counted_alike (Some n) a b = by-test (over_line n) (λ y. rw y refl) (λ z. rw z refl)

aligned_alike : (place : List ℕ) (a b : LineAlign) → is_over (line_aligned place (Some a)) ≡ is_over (line_aligned place (Some b))
unfolding line_aligned
aligned_alike place a b =
    by-test (ends_with percent place)
    (λ y. rw y (line_percentage (percentage place) a ∙ sym (line_percentage (percentage place) b)))
    (λ n. rw n (counted_alike (line_number place) a b))

line_alike : (x : List ℕ) (a b : LineAlign) → is_over (line_change x a) ≡ is_over (line_change x b)
unfolding line_change line_align
line_alike x a b =
    by-test (not (has comma x)) (λ y. rw y (aligned_alike (before_first comma x) a b)) (λ n. rw n refl)

-- a setting by its name
pub named_alike : (name x : List ℕ) (s t : Settings) → is_over (named name x s) ≡ is_over (named name x t)
unfolding named position_change
named_alike name x s t =
    by-test (same name (ascii "region")) (λ y. rw y refl)
    (λ n₁. by-test (same name (ascii "vertical")) (λ y. rw (n₁, y) refl)
    (λ n₂. by-test (same name (ascii "line")) (λ y. rw (n₁, n₂, y) (line_alike x s.line.align t.line.align))
    (λ n₃. by-test (same name (ascii "position")) (λ y. rw (n₁, n₂, n₃, y) (position_never (percentage (before_first comma x)) (position_align x s.position.align) ∙ sym (position_never (percentage (before_first comma x)) (position_align x t.position.align))))
    (λ n₄. by-test (same name (ascii "size")) (λ y. rw (n₁, n₂, n₃, n₄, y) refl)
    (λ n₅. by-test (same name (ascii "align")) (λ y. rw (n₁, n₂, n₃, n₄, n₅, y) refl) (λ n₆. rw (n₁, n₂, n₃, n₄, n₅, n₆) refl))))))

pub only_line : (name x : List ℕ) (s : Settings) → same name (ascii "line") ≡ false → is_over (named name x s) ≡ false
unfolding named position_change
only_line name x s n₃ =
    by-test (same name (ascii "region")) (λ y. rw y refl)
    (λ n₁. by-test (same name (ascii "vertical")) (λ y. rw (n₁, y) refl)
    (λ n₂. by-test (same name (ascii "position")) (λ y. rw (n₁, n₂, n₃, y) (position_never (percentage (before_first comma x)) (position_align x s.position.align)))
    (λ n₄. by-test (same name (ascii "size")) (λ y. rw (n₁, n₂, n₃, n₄, y) (size_never (percentage x)))
    (λ n₅. by-test (same name (ascii "align")) (λ y. rw (n₁, n₂, n₃, n₄, n₅, y) refl) (λ n₆. rw (n₁, n₂, n₃, n₄, n₅, n₆) refl)))))

pub is_line : (name x : List ℕ) (s : Settings) → same name (ascii "line") ≡ true → named name x s ≡ line_change x s.line.align
unfolding named same
is_line name x s y = rw (same-is name (ascii "line") y) refl

pub token_alike : (t : Part) (s : Settings) → is_over (cue_change t s) ≡ token_over t
unfolding cue_change
token_alike t s =
    by-test (is_empty (name_of t) || is_empty (value_of t).bytes) (λ y. rw y refl) (λ n. rw n (named_alike (name_of t) (value_of t).bytes s opening_settings))

-- token after token
or_assoc : (a b c : Bool) → (a || b) || c ≡ a || (b || c)
or_assoc true b c = refl
or_assoc false b c = refl

pub overs_are : (v : Flagged CueSettings) (ts : List Part) → (folded cue_setting v ts).over ≡ (v.over || any_token_over ts)
unfolding folded any_token_over cue_setting changed
overs_are v [] = sym (or_false v.over)
overs_are v (t ∷ ts) =
    overs_are (record { value = (cue_setting t v.value).value; over = v.over || (cue_setting t v.value).over }) ts
    ∙ ap (λ o. (v.over || o) || any_token_over ts) (token_alike t v.value.settings)
    ∙ or_assoc v.over (token_over t) (any_token_over ts)

-- the settings of a part
pub part_overs : (p : Part) → (cue_settings p).over ≡ any_token_over (tokens p.place p.bytes)
unfolding cue_settings
part_overs p = overs_are _ (tokens p.place p.bytes)
