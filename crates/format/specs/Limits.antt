-- The limits of document 01, each named once. A number above its limit is refused, the limit itself is not.
use Rattle.std.specs.Prelude.{ℕ}

-- refusal 1: bytes of a raw file or a sheet, read or made
abbrev pub max_file : ℕ
max_file = 16_777_216

-- refusal 1: bytes of a plain text or a cue text to be read
abbrev pub max_text : ℕ
max_text = 50_331_648

-- refusal 5: hours of a time
abbrev pub max_hours : ℕ
max_hours = 99_999

-- refusal 5: a line number, either way from 0, and a region's count of lines
abbrev pub max_line : ℕ
max_line = 999_999

-- bytes of a request line, without its LF, and of the raw file after it
abbrev pub max_request : ℕ
max_request = 4_096

abbrev pub max_mended : ℕ
max_mended = 16_384
