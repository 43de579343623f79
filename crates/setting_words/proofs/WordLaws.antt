-- Words that are none of those of a setting.
use Prim.Native.Nat.{ℕ}
use mathlib.Core.Path.{◌≡◌}
use mathlib.Core.Bool.{false}
use mathlib.Core.List.{List}
use Rattle.std.specs.Prelude.{None}
use Rattle.format.specs.Bytes.{ascii}
use Rattle.format.specs.Texts.{same}
use Rattle.format.specs.CueSettings.{direction, alignment}
use Rattle.format.specs.declared.settings.Direction.{Direction}
use Rattle.format.specs.declared.settings.Align.{Align}
use Rattle.setting_words.specs.Words.{cue_name_is, line_word, position_word}
use Rattle.setting_words.specs.declared.CueName.{CueName}

pub name_other :
    (x : List ℕ)
    → same x (ascii "region") ≡ false
    → same x (ascii "vertical") ≡ false
    → same x (ascii "line") ≡ false
    → same x (ascii "position") ≡ false
    → same x (ascii "size") ≡ false
    → same x (ascii "align") ≡ false
    → CueName.Other ≡ cue_name_is x
name_other x region vertical line position size align = rw (region, vertical, line, position, size, align)

pub direction_none : (x : List ℕ) (d : Direction) → same x (ascii "rl") ≡ false → same x (ascii "lr") ≡ false → d ≡ direction x d
unfolding direction
direction_none x d rl lr = rw (rl, lr)

pub alignment_none :
    (x : List ℕ) (a : Align)
    → same x (ascii "start") ≡ false
    → same x (ascii "center") ≡ false
    → same x (ascii "end") ≡ false
    → same x (ascii "left") ≡ false
    → same x (ascii "right") ≡ false
    → a ≡ alignment x a
unfolding alignment
alignment_none x a start center end left right = rw (start, center, end, left, right)

pub line_none :
    (x : List ℕ) → same x (ascii "start") ≡ false → same x (ascii "center") ≡ false → same x (ascii "end") ≡ false → None ≡ line_word x
line_none x start center end = rw (start, center, end)

pub position_none :
    (x : List ℕ)
    → same x (ascii "line-left") ≡ false
    → same x (ascii "center") ≡ false
    → same x (ascii "line-right") ≡ false
    → None ≡ position_word x
position_none x left center right = rw (left, center, right)
