-- Bytes and characters by their names. A text is a list of bytes, each a number; nothing here asks that it be below 256.
use Rattle.std.specs.Prelude.{ℕ, Bool, ◌&&◌, ◌||◌, List, [], ◌∷◌, leb, eqb}
use Prim.Native.Char.{code}
use Prim.Native.String as Str

-- the bytes of a text of ASCII characters
abbrev pub ascii : Str.String → List ℕ
ascii Str.[] = []
ascii (Str.◌∷◌ c s) = code c ∷ ascii s

abbrev pub nul : ℕ
nul = 0x00

abbrev pub tab : ℕ
tab = 0x09

abbrev pub lf : ℕ
lf = 0x0A

abbrev pub form_feed : ℕ
form_feed = 0x0C

abbrev pub cr : ℕ
cr = 0x0D

abbrev pub space : ℕ
space = 0x20

abbrev pub percent : ℕ
percent = 0x25

abbrev pub ampersand : ℕ
ampersand = 0x26

abbrev pub comma : ℕ
comma = 0x2C

abbrev pub hyphen : ℕ
hyphen = 0x2D

abbrev pub full_stop : ℕ
full_stop = 0x2E

abbrev pub solidus : ℕ
solidus = 0x2F

abbrev pub colon : ℕ
colon = 0x3A

abbrev pub semicolon : ℕ
semicolon = 0x3B

abbrev pub less : ℕ
less = 0x3C

abbrev pub greater : ℕ
greater = 0x3E

abbrev pub backslash : ℕ
backslash = 0x5C

-- U+FEFF at a file's start, in UTF-8
abbrev pub byte_order_mark : List ℕ
byte_order_mark = 0xEF ∷ 0xBB ∷ 0xBF ∷ []

-- U+FFFD, the replacement character, in UTF-8
abbrev pub replacement : List ℕ
replacement = 0xEF ∷ 0xBF ∷ 0xBD ∷ []

-- ASCII digits
unfoldable pub digit : ℕ → Bool
digit b = leb 0x30 b && leb b 0x39

-- alphanumeric ASCII characters
unfoldable pub alphanumeric : ℕ → Bool
alphanumeric b = digit b || (leb 0x41 b && leb b 0x5A) || (leb 0x61 b && leb b 0x7A)

-- ASCII whitespace
unfoldable pub white : ℕ → Bool
white b = eqb b space || eqb b tab || eqb b lf || eqb b form_feed || eqb b cr
