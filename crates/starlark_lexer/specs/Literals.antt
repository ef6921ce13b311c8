-- Literals: what a prefix and quotes say, and what the items of a body denote.
use Rattle.std.specs.Prelude.{ℕ, zero, suc, ◌+◌, ◌-◌, Bool, true, false, not, ◌&&◌, ◌||◌, if◌then◌else◌, ◌==◌, nat_le, nat_lt, List, [], ◌∷◌, ◌++◌, take, drop, Option, Some, None}
use Rattle.std.specs.Char.{encode_utf8, is_digit}
use Rattle.std.specs.List.{prefix_len}
use Rattle.std.specs.Str.Parse.{digits_value}
use Rattle.starlark_lexer.specs.declared.literal.Ending.{Ending}
use Rattle.starlark_lexer.specs.declared.literal.Ending.TheVariants as ending
use Rattle.starlark_lexer.specs.declared.literal.Form.{Form}
use Rattle.starlark_lexer.specs.declared.literal.Piece.{Piece}
use Rattle.starlark_lexer.specs.declared.literal.Piece.TheVariants.{Closing, Field, Stop, Wrong, Nothing, Char, Byte, Same}
use Rattle.starlark_lexer.specs.declared.literal.Sort.{Sort}
use Rattle.starlark_lexer.specs.declared.literal.Sort.TheVariants.{Text, Bytes, Format}
use Rattle.starlark_lexer.specs.declared.token.FStringQuote.{FStringQuote}
use Rattle.starlark_lexer.specs.declared.token.FStringQuote.TheVariants.{Single, Double, TripleSingle, TripleDouble}

-- ---- prefix and quotes

-- ' or "
abbrev pub is_mark : ℕ → Bool
is_mark b = b == 39 || b == 34

-- Of how many marks quotes consist.
abbrev pub quotes : FStringQuote → ℕ
quotes Single = 1
quotes Double = 1
quotes TripleSingle = 3
quotes TripleDouble = 3

-- Which mark that is.
abbrev pub mark : FStringQuote → ℕ
mark Single = 39
mark TripleSingle = 39
mark Double = 34
mark TripleDouble = 34

-- A literal in such quotes may hold line ends.
abbrev pub is_triple : FStringQuote → Bool
is_triple q = nat_lt 1 (quotes q)

-- A body may hold fields.
abbrev pub is_format : Sort → Bool
is_format Format = true
is_format _ = false

-- A body denotes bytes, and not text.
abbrev pub is_bytes : Sort → Bool
is_bytes Bytes = true
is_bytes _ = false

-- The prefixes: none and r are of text, b rb br of bytes, f fr rf of f-strings. Those with r are raw.
abbrev pub prefix_of : List ℕ → Option (Sort × Bool)
prefix_of [] = Some (Text, false)
prefix_of (a ∷ []) =
    if a == 114 then Some (Text, true)
    else (if a == 98 then Some (Bytes, false)
    else (if a == 102 then Some (Format, false) else None))
prefix_of (a ∷ b ∷ []) =
    if (a == 114 && b == 98) || (a == 98 && b == 114) then Some (Bytes, true)
    else (if (a == 102 && b == 114) || (a == 114 && b == 102) then Some (Format, true) else None)
prefix_of (a ∷ b ∷ c ∷ w) = None

-- The quotes: one mark, or three of one kind.
abbrev pub quote_of : List ℕ → Option FStringQuote
quote_of [] = None
quote_of (a ∷ []) = if a == 39 then Some Single else (if a == 34 then Some Double else None)
quote_of (a ∷ b ∷ []) = None
quote_of (a ∷ b ∷ c ∷ []) =
    if a == 39 && b == 39 && c == 39 then Some TripleSingle
    else (if a == 34 && b == 34 && c == 34 then Some TripleDouble else None)
quote_of (a ∷ b ∷ c ∷ d ∷ w) = None

-- How many bytes stand before the first mark.
abbrev pub letters : List ℕ → ℕ
letters = prefix_len (λ b. not (is_mark b))

-- A prefix and quotes together.
abbrev pub opened : Option (Sort × Bool) → Option FStringQuote → Option Form
opened (Some p) (Some q) = Some (record { sort = p.0; raw = p.1; quote = q })
opened (Some p) None = None
opened None q = None

-- The whole text is a prefix and quotes behind it.
unfoldable pub opening_of : List ℕ → Option Form
opening_of w = opened (prefix_of (take (letters w) w)) (quote_of (drop (letters w) w))

-- ---- escapes

-- A byte that goes on with the character before it.
abbrev pub continues : ℕ → Bool
continues b = nat_le 128 b && nat_lt b 192

-- How many bytes the first character has: an ASCII byte, or another byte and those that go on with it.
abbrev pub character : List ℕ → ℕ
character [] = 0
character (b ∷ bs) = if nat_lt b 128 then 1 else 1 + prefix_len continues bs

-- A value that is a character.
abbrev pub is_scalar : ℕ → Bool
is_scalar c = nat_lt c 0xD800 || (nat_lt 0xDFFF c && nat_lt c 0x11_0000)

-- No escape: the fault spans the backslash and the one character behind it.
abbrev pub no_escape : List ℕ → Piece
no_escape rest = Wrong (1 + character rest)

-- An escape of n bytes with that value, which must be a character, and in bytes at most 255.
abbrev pub escaped : Sort → ℕ → ℕ → List ℕ → Piece
escaped s v n rest =
    if is_bytes s then (if nat_lt v 256 then Byte v n else no_escape rest)
    else (if is_scalar v then Char v n else no_escape rest)

-- What the letters a b f n r t v, the backslash and the marks stand for.
abbrev pub simple : ℕ → Option ℕ
simple c =
    if c == 97 then Some 7
    else (if c == 98 then Some 8
    else (if c == 102 then Some 12
    else (if c == 110 then Some 10
    else (if c == 114 then Some 13
    else (if c == 116 then Some 9
    else (if c == 118 then Some 11
    else (if c == 92 || c == 39 || c == 34 then Some c else None)))))))

-- How many hexadecimal digits an x, a u or a U has behind it.
abbrev pub hex_digits : ℕ → ℕ
hex_digits c = if c == 120 then 2 else (if c == 117 then 4 else (if c == 85 then 8 else 0))

-- How many digits of the base stand at the front, of so many bytes at most.
abbrev pub digits : ℕ → ℕ → List ℕ → ℕ
digits base most bs = prefix_len (λ d. is_digit d base) (take most bs)

-- The value of the first n bytes, which are digits of the base.
abbrev pub digits_of : ℕ → ℕ → List ℕ → ℕ
digits_of base n bs = digits_value base (take n bs)

-- The first byte is that one.
abbrev pub begins : ℕ → List ℕ → Bool
begins c [] = false
begins c (b ∷ bs) = b == c

-- The whole number of hexadecimal digits behind the letter, and the value that they stand for.
abbrev pub hex_escape : Sort → ℕ → List ℕ → Piece
hex_escape s n rest =
    if digits 16 n (drop 1 rest) == n then escaped s (digits_of 16 n (drop 1 rest)) (2 + n) rest else no_escape rest

-- One octal digit to three, as many as stand there.
abbrev pub octal_escape : Sort → List ℕ → Piece
octal_escape s rest = escaped s (digits_of 8 (digits 8 3 rest) rest) (1 + digits 8 3 rest) rest

-- An escape that is no letter: digits, or an escaped line end, which denotes nothing.
abbrev pub other_escape : Sort → ℕ → List ℕ → Piece
other_escape s c rest =
    if is_digit c 8 then octal_escape s rest
    else (if nat_lt 0 (hex_digits c) then hex_escape s (hex_digits c) rest
    else (if c == 10 then Nothing 2
    else (if c == 13 && begins 10 (drop 1 rest) then Nothing 3 else no_escape rest)))

abbrev pub by_simple : Option ℕ → Sort → ℕ → List ℕ → Piece
by_simple (Some v) s c rest = escaped s v 2 rest
by_simple None s c rest = other_escape s c rest

-- What a backslash begins, by what stands behind it. At the text's end it denotes nothing, and the body is unfinished there.
unfoldable pub escape : Sort → List ℕ → Piece
escape s [] = Nothing 1
escape s (c ∷ cs) = by_simple (simple c) s c (c ∷ cs)

-- The same in a raw literal: the backslash and the character behind it denote themselves. A CR behind it is an item by itself,
-- and so is a brace in an f-string.
unfoldable pub raw_escape : Sort → List ℕ → Piece
raw_escape s [] = Same 1
raw_escape s (c ∷ cs) =
    if c == 13 || (is_format s && (c == 123 || c == 125)) then Same 1
    else Same (1 + character (c ∷ cs))

-- ---- bodies

-- Behind a mark stand the others of the quotes.
abbrev pub goes_on : FStringQuote → List ℕ → Bool
goes_on q rest = not (is_triple q) || (begins (mark q) rest && begins (mark q) (drop 1 rest))

-- In an f-string two braces denote one, a closing one denotes itself, and another opening one opens a field.
abbrev pub brace : ℕ → List ℕ → Piece
brace b bs = if begins b bs then Char b 2 else (if b == 123 then Field else Same 1)

-- What stands at the front of the rest of a body: its closing quotes, its end without them, a field, a fault or an item.
-- A CR denotes nothing. A line end ends a literal in one pair of marks. Any other byte denotes itself.
unfoldable pub piece : Form → List ℕ → Piece
piece f [] = Stop
piece f (b ∷ bs) =
    if b == mark f.quote && goes_on f.quote bs then Closing
    else (if b == 13 then Nothing 1
    else (if b == 10 then (if is_triple f.quote then Same 1 else Stop)
    else (if b == 92 then (if f.raw then raw_escape f.sort bs else escape f.sort bs)
    else (if is_format f.sort && (b == 123 || b == 125) then brace b bs
    else Same 1))))

-- What the items of a body denote, and how it ends behind them.
pub record Read : Type 0 where
  pub value : List ℕ
  pub ending : Ending

-- An ending that stands k bytes on.
abbrev pub later : ℕ → Ending → Ending
later k (ending.Closed n) = ending.Closed (k + n)
later k (ending.Field n) = ending.Field (k + n)
later k (ending.Unfinished n) = ending.Unfinished (k + n)
later k (ending.Escape n m) = ending.Escape (k + n) m

-- What is read behind an item of k bytes that denotes v.
abbrev pub behind : List ℕ → ℕ → Read → Read
behind v k r = record { value = v ++ r.value; ending = later k r.ending }

-- The body ends here.
abbrev pub ends : Ending → Read
ends e = record { value = []; ending = e }

abbrev pub by_piece : Piece → List ℕ → (ℕ → Read) → Read
by_piece Closing rest go = ends (ending.Closed 0)
by_piece Field rest go = ends (ending.Field 0)
by_piece Stop rest go = ends (ending.Unfinished 0)
by_piece (Wrong m) rest go = ends (ending.Escape 0 m)
by_piece (Nothing n) rest go = behind [] n (go n)
by_piece (Char c n) rest go = behind (encode_utf8 c) n (go n)
by_piece (Byte b n) rest go = behind (b ∷ []) n (go n)
by_piece (Same n) rest go = behind (take n rest) n (go n)

-- A body, n bytes on: item by item up to its first closing quotes that are no item's part, a field, its end or a fault.
unfoldable pub read : Form → ℕ → List ℕ → Read
read f n [] = ends (ending.Unfinished 0)
read f (suc n) (b ∷ bs) = read f n bs
read f zero (b ∷ bs) = by_piece (piece f (b ∷ bs)) (b ∷ bs) (λ k. read f (k - 1) bs)

-- How a body ends, and after how many bytes.
abbrev pub body : Form → ℕ → List ℕ → Ending
body f n rest = (read f n rest).ending

-- What its items denote.
abbrev pub value : Form → List ℕ → List ℕ
value f rest = (read f 0 rest).value
