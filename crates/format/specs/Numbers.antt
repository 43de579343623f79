-- Numbers as document 01, "Settings", reads them: unbounded, and exact until they are cut to millionths.
use Rattle.std.specs.Prelude.{ℕ, ◌+◌, ◌-◌, ◌*◌, Bool, true, false, cond, not, ◌&&◌, ◌||◌, List, [], ◌∷◌, ◌++◌, ltb, eqb, take}
use Rattle.std.specs.Prelude.{Option, None, Some}
use Rattle.format.specs.Bytes.{ascii, digit, hyphen, full_stop, percent}
use Rattle.format.specs.Limits.{max_line}
use Rattle.format.specs.Texts.{ends_with, without_last, is_empty, all, run, past_run}

-- digits as a base-ten integer, n being the value of those before them
unfoldable pub number_from : ℕ → List ℕ → ℕ
number_from n [] = n
number_from n (d ∷ ds) = number_from (n * 10 + (d - 0x30)) ds

abbrev pub number : List ℕ → ℕ
number ds = number_from 0 ds

-- one digit or more, and nothing else
unfoldable pub some_digits : List ℕ → Bool
some_digits s = not (is_empty s) && all digit s

-- a decimal: its digits before the full stop and after it
pub record Decimal : Type 0 where
  pub whole : List ℕ
  pub fraction : List ℕ

-- "digits", or "digits.digits"
unfoldable pub decimal_of : List ℕ → List ℕ → Option Decimal
decimal_of whole [] = cond (is_empty whole) None (Some (record { whole = whole; fraction = [] }))
decimal_of whole (b ∷ s) =
    cond (not (is_empty whole) && eqb b full_stop && some_digits s) (Some (record { whole = whole; fraction = s })) None

unfoldable pub decimal : List ℕ → Option Decimal
decimal s = decimal_of (run digit s) (past_run digit s)

-- is the exact decimal above a limit
unfoldable pub above : ℕ → Decimal → Bool
above limit d = ltb limit (number d.whole) || (eqb (number d.whole) limit && not (all (λ b. eqb b 0x30) d.fraction))

-- "held in millionths, further digits cut toward zero"
unfoldable pub millionths : Decimal → ℕ
millionths d = number d.whole * 1_000_000 + number (take 6 (d.fraction ++ ascii "000000"))

-- "The test against 100 is made on the exact decimal before the cut."
unfoldable pub up_to100 : Option Decimal → Option ℕ
up_to100 None = None
up_to100 (Some d) = cond (above 100 d) None (Some (millionths d))

-- a WebVTT percentage, in millionths: a decimal and then `%`
unfoldable pub percentage : List ℕ → Option ℕ
percentage s = cond (ends_with percent s) (up_to100 (decimal (without_last s))) None

-- a line number: an optional `-` and then a decimal
pub record LineNumber : Type 0 where
  pub minus : Bool
  pub size : Decimal

unfoldable pub signed : Bool → Option Decimal → Option LineNumber
signed minus None = None
signed minus (Some d) = Some (record { minus = minus; size = d })

unfoldable pub line_number : List ℕ → Option LineNumber
line_number [] = None
line_number (b ∷ s) = cond (eqb b hyphen) (signed true (decimal s)) (signed false (decimal (b ∷ s)))

-- "beyond 999,999 either way"
unfoldable pub over_line : LineNumber → Bool
over_line n = above max_line n.size

-- "Minus zero is 0."
unfoldable pub is_negative : LineNumber → Bool
is_negative n = n.minus && ltb 0 (millionths n.size)

-- a region's count of lines: digits only
unfoldable pub line_count : List ℕ → Option ℕ
line_count s = cond (some_digits s) (Some (number s)) None
