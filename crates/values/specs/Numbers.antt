-- Numbers as the code holds them.
use Rattle.std.specs.Prelude.{ℕ, ◌+◌, ◌*◌, min, Bool, cond, not, ◌&&◌, ◌||◌, [], ◌∷◌, ◌++◌, eqb, ltb, take}
use Rattle.std.specs.Prelude.{Option, None, Some, Result, Ok, Err}
use Rattle.format.specs.Bytes.{ascii}
use Rattle.format.specs.Texts.{all}
use Rattle.format.specs.Answers.{Answer, accepted, refused, limited}
use Rattle.format.specs.Limits.{max_line}
use Rattle.format.specs.Numbers as Format
use Rattle.values.specs.declared.numbers.Decimal.{Decimal}
use Rattle.values.specs.declared.numbers.LineNumber.{LineNumber}
use Rattle.values.specs.declared.numbers.NumberError.{NumberError}

-- a number above every limit, at which greater ones are held
abbrev pub cap : ℕ
cap = 1_000_000

abbrev pub held : Format.Decimal → Decimal
held d =
    record {
      whole = min (Format.number d.whole) cap;
      fraction = Format.number (take 6 (d.fraction ++ ascii "000000"));
      more = not (all (λ b. eqb b 0x30) d.fraction);
    }

abbrev pub decimal_is : Option Format.Decimal → Option Decimal
decimal_is None = None
decimal_is (Some d) = Some (held d)

-- is a held decimal above a limit below the cap
abbrev pub above_held : ℕ → ℕ → Bool → Bool
above_held limit whole more = ltb limit whole || (eqb whole limit && more)

-- a held decimal in millionths, where it is not
abbrev pub up_to : ℕ → Decimal → Option ℕ
up_to limit d = cond (above_held limit d.whole d.more) None (Some (d.whole * 1_000_000 + d.fraction))

abbrev pub line_number_is : Option Format.LineNumber → Result LineNumber NumberError
line_number_is None = Err NumberError.Bad
line_number_is (Some n) =
    cond (Format.over_line n) (Err NumberError.Over)
    (Ok (record { negative = Format.is_negative n; millionths = Format.millionths n.size }))

abbrev pub line_count_is : Option ℕ → Result ℕ NumberError
line_count_is None = Err NumberError.Bad
line_count_is (Some n) = cond (ltb 999_999 n) (Err NumberError.Over) (Ok n)

-- the number and the values of each case, sign (1 for minus) and millionths of a line number; none where there is no such number
abbrev pub line_number_answer : Result LineNumber NumberError → Option Answer
line_number_answer (Err NumberError.Bad) = None
line_number_answer (Err NumberError.Over) = Some (refused 5 [])
line_number_answer (Ok n) = Some (accepted (cond n.negative 1 0 ∷ n.millionths ∷ []))

abbrev pub line_count_answer : Result ℕ NumberError → Option Answer
line_count_answer (Err NumberError.Bad) = None
line_count_answer (Err NumberError.Over) = Some (refused 5 [])
line_count_answer (Ok n) = Some (accepted (n ∷ []))

-- what reading a line number and a count of lines answers
abbrev pub number_answer : Option Format.LineNumber → Option Answer
number_answer None = None
number_answer (Some n) = Some (limited (Format.over_line n) (cond (Format.is_negative n) 1 0 ∷ Format.millionths n.size ∷ []))

abbrev pub count_answer : Option ℕ → Option Answer
count_answer None = None
count_answer (Some n) = Some (limited (ltb max_line n) (n ∷ []))
