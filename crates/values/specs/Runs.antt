-- The kinds of runs of bytes, as tests of a byte.
use Rattle.std.specs.Prelude.{ℕ, Bool, not, eqb}
use Rattle.format.specs.Bytes.{digit, alphanumeric, white}
use Rattle.values.specs.declared.bytes.ByteKind.{ByteKind}
use Rattle.values.specs.declared.bytes.ByteKind.TheVariants.{White, Token, Digits, Alphanumeric, Until, Only}

abbrev pub passes : ByteKind → ℕ → Bool
passes White b = white b
passes Token b = not (white b)
passes Digits b = digit b
passes Alphanumeric b = alphanumeric b
passes (Until c) b = not (eqb b c)
passes (Only c) b = eqb b c
