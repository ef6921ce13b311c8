-- The classes of lexemes, and the lexeme at the front of a text.
use Rattle.std.specs.Prelude.{◌≡◌, ◌<◌, ◌≤◌, ℕ, suc, ◌+◌, Bool, true, false, not, ◌&&◌, ◌||◌, if◌then◌else◌, ◌==◌, nat_le, nat_lt, List, [], ◌∷◌, take, drop, length, map, Option, Some, None, count_by}
use Rattle.std.specs.Char.{is_digit, is_ascii_digit, is_ascii_alphabetic, is_ascii_alphanumeric}
use Rattle.std.specs.List.{list_all, list_any, prefix_len}
use Rattle.std.specs.Str.{bytes_eq}
use Rattle.std.specs.Borrow.{Bor}
use Rattle.starlark_lexer.specs.declared.words.Keyword.{Keyword}
use Rattle.starlark_lexer.specs.declared.words.Operator.{Operator}
use Rattle.starlark_lexer.specs.declared.words.TheConstants.{KEYWORDS, RESERVED, OPERATORS}
use Rattle.starlark_lexer.specs.declared.literal.Form.{Form}
use Rattle.starlark_lexer.specs.declared.token.LexemeError.{LexemeError}
use Rattle.starlark_lexer.specs.declared.token.LexemeError.TheVariants.{InvalidInput, ReservedKeyword, StartsZero}
use Rattle.starlark_lexer.specs.Items.{Lexeme, identifier, integer, float, keyword_lexeme, operator_lexeme}
use Rattle.starlark_lexer.specs.Number.{number}
use Rattle.starlark_lexer.specs.Literals.{opening_of}
use Rattle.starlark_lexer.specs.Widths.{has}

-- a space, a tab or a CR
abbrev pub is_blank : ℕ → Bool
is_blank b = b == 32 || b == 9 || b == 13

-- [A-Za-z0-9_]
abbrev pub is_word_byte : ℕ → Bool
is_word_byte b = is_ascii_alphanumeric b || b == 95

-- [A-Za-z_]
abbrev pub begins_word : ℕ → Bool
begins_word b = is_ascii_alphabetic b || b == 95

-- what the text of a lexeme stands for; a literal is a lexeme with its prefix and quotes alone
pub data Meaning : Type 0 where
  token : Lexeme → Meaning
  refused : LexemeError → Meaning
  opens : Form → Meaning

-- the first where there is one
abbrev pub or_else : Option Meaning → Option Meaning → Option Meaning
or_else None o = o
or_else (Some m) o = Some m

-- the meaning where the test holds
abbrev pub when : Bool → Meaning → Option Meaning
when true m = Some m
when false m = None

-- no bytes
abbrev pub is_nil : List ℕ → Bool
is_nil [] = true
is_nil (b ∷ bs) = false

-- ---- words

-- [A-Za-z_][A-Za-z0-9_]*
abbrev pub is_word : List ℕ → Bool
is_word [] = false
is_word (b ∷ bs) = begins_word b && list_all is_word_byte bs

-- the rows of a table in memory
abbrev pub texts_of : {T : Type 0} → List (Bor (List ℕ) × T) → List (List ℕ × T)
texts_of table = map (λ r. (r.0.now, r.1)) table

-- what the table has for a text
abbrev pub lookup : {T : Type 0} → List (List ℕ × T) → List ℕ → Option T
lookup [] w = None
lookup (r ∷ rs) w = if bytes_eq r.0 w then Some r.1 else lookup rs w

-- the keyword that a text is
unfoldable pub keyword_of : List ℕ → Option Keyword
keyword_of w = lookup (map (λ r. (r.0.now, r.1)) KEYWORDS) w

-- a word of the table of reserved words
unfoldable pub is_reserved : List ℕ → Bool
is_reserved w = list_any (λ k. bytes_eq k.now w) RESERVED

-- a word that is no keyword
abbrev pub plain_word : List ℕ → Meaning
plain_word w = if is_reserved w then refused ReservedKeyword else token (identifier w)

abbrev pub by_keyword : Option Keyword → List ℕ → Meaning
by_keyword None w = plain_word w
by_keyword (Some k) w = token (keyword_lexeme k)

-- keywords go before reserved words, and these before identifiers
abbrev pub word_meaning : List ℕ → Meaning
word_meaning w = by_keyword (keyword_of w) w

-- ---- numbers

-- [0-9]+
abbrev pub is_digits : List ℕ → Bool
is_digits [] = false
is_digits (b ∷ bs) = is_ascii_digit b && list_all is_ascii_digit bs

-- more digits than one, the first of them 0
abbrev pub is_zeros : List ℕ → Bool
is_zeros [] = false
is_zeros (b ∷ bs) = b == 48 && is_digits bs

-- 0 or [1-9][0-9]*
abbrev pub is_decimal : List ℕ → Bool
is_decimal w = is_digits w && not (is_zeros w)

-- the radix that a letter behind 0 stands for, or 0: x X o O b B
abbrev pub radix_of : ℕ → ℕ
radix_of b = if b == 120 || b == 88 then 16 else (if b == 111 || b == 79 then 8 else (if b == 98 || b == 66 then 2 else 0))

-- some digits of a radix
abbrev pub is_digits_of : ℕ → List ℕ → Bool
is_digits_of radix [] = false
is_digits_of radix (b ∷ bs) = is_digit b radix && list_all (λ c. is_digit c radix) bs

-- the letter of a radix, and digits of it
abbrev pub is_radix_digits : List ℕ → Bool
is_radix_digits [] = false
is_radix_digits (b ∷ bs) = nat_lt 0 (radix_of b) && is_digits_of (radix_of b) bs

-- 0[xX][0-9A-Fa-f]+, 0[oO][0-7]+, 0[bB][01]+
abbrev pub is_based : List ℕ → Bool
is_based [] = false
is_based (b ∷ bs) = b == 48 && is_radix_digits bs

-- the radix of such a text
abbrev pub base_of : List ℕ → ℕ
base_of [] = 0
base_of (b ∷ []) = 0
base_of (b ∷ c ∷ bs) = radix_of c

-- how many digits stand at the front
abbrev pub digits_len : List ℕ → ℕ
digits_len = prefix_len is_ascii_digit

-- [+-][0-9]+
abbrev pub is_signed : List ℕ → Bool
is_signed [] = false
is_signed (b ∷ bs) = (b == 43 || b == 45) && is_digits bs

-- [eE][+-]?[0-9]+
abbrev pub is_exponent : List ℕ → Bool
is_exponent [] = false
is_exponent (b ∷ bs) = (b == 101 || b == 69) && (is_digits bs || is_signed bs)

-- nothing or an exponent
abbrev pub ends_float : List ℕ → Bool
ends_float xs = is_nil xs || is_exponent xs

-- \.[0-9]* and nothing or an exponent
abbrev pub is_fraction : List ℕ → Bool
is_fraction [] = false
is_fraction (b ∷ bs) = b == 46 && ends_float (drop (digits_len bs) bs)

abbrev pub begins_digit : List ℕ → Bool
begins_digit [] = false
begins_digit (b ∷ bs) = is_ascii_digit b

-- a digit, or a point with a digit behind it
abbrev pub begins_number : List ℕ → Bool
begins_number [] = false
begins_number (b ∷ bs) = is_ascii_digit b || (b == 46 && begins_digit bs)

-- what stands behind the digits at the front
abbrev pub behind_digits : List ℕ → List ℕ
behind_digits w = drop (digits_len w) w

-- digits with a point among them, before or behind them, and then an exponent or nothing; or digits and an exponent
abbrev pub is_float : List ℕ → Bool
is_float w = begins_number w && (is_fraction (behind_digits w) || is_exponent (behind_digits w))

-- ---- operators and the rest

abbrev pub by_operator : Option Operator → Option Meaning
by_operator None = None
by_operator (Some o) = Some (token (operator_lexeme o))

-- the rows of the table of operators
abbrev pub operators : List (List ℕ × Operator)
operators = map (λ r. (r.0.now, r.1)) OPERATORS

-- the operator or bracket that a text is
unfoldable pub operator_of : List ℕ → Option Operator
operator_of w = lookup operators w

abbrev pub by_opening : Option Form → Option Meaning
by_opening None = None
by_opening (Some f) = Some (opens f)

-- a byte that goes on with the character before it
abbrev pub is_continuation : ℕ → Bool
is_continuation b = nat_le 128 b && nat_lt b 192

-- One character that is neither passed over nor begins a comment: an ASCII byte, or another byte and the continuation bytes behind it.
abbrev pub is_other : List ℕ → Bool
is_other [] = false
is_other (b ∷ bs) = if nat_lt b 128 then is_nil bs && not (is_blank b || (b == 10 || b == 35)) else list_all is_continuation bs

-- What a text is as a whole. The first class that has it counts.
unfoldable pub meaning : List ℕ → Option Meaning
meaning w =
    or_else (when (is_word w) (word_meaning w))
    (or_else (when (is_decimal w) (token (integer (number false 10 w))))
    (or_else (when (is_based w) (token (integer (number false (base_of w) (drop 2 w)))))
    (or_else (when (is_zeros w) (refused StartsZero))
    (or_else (when (is_float w) (token (float w)))
    (or_else (by_opening (opening_of w))
    (or_else (by_operator (operator_of w))
    (when (is_other w) (refused InvalidInput))))))))

-- the longest front of the text that is in any class has n bytes, more than none, and stands for m
pub record IsLexeme (rest : List ℕ) (n : ℕ) (m : Meaning) : Type 0 where
  pub nonempty : 0 < n
  pub within : n ≤ length rest
  pub means : meaning (take n rest) ≡ Some m
  pub longest : (k : ℕ) → n < k → k ≤ length rest → meaning (take k rest) ≡ None

-- ---- lines

-- LF stands first
abbrev pub begins_line : List ℕ → Bool
begins_line [] = false
begins_line (b ∷ bs) = b == 10

-- how long the line end at the front is, LF or CRLF, and 0 where none stands there
unfoldable pub line_end : List ℕ → ℕ
line_end [] = 0
line_end (b ∷ bs) = if b == 10 then 1 else (if b == 13 && begins_line bs then 2 else 0)

-- how long the escaped line end at the front is, a backslash and a line end, and 0 where none stands there
unfoldable pub escaped : List ℕ → ℕ
escaped [] = 0
escaped (b ∷ bs) = if b == 92 && nat_lt 0 (line_end bs) then line_end bs + 1 else 0

-- how many bytes stand before the first line end, or in all
unfoldable pub line_len : List ℕ → ℕ
line_len [] = 0
line_len (b ∷ bs) = if line_end (b ∷ bs) == 0 then suc (line_len bs) else 0

-- how many blanks stand at the front
abbrev pub leading : List ℕ → ℕ
leading = prefix_len is_blank

abbrev pub has_tab : List ℕ → Bool
has_tab = list_any (λ b. b == 9)

-- how many of the bytes are spaces
abbrev pub spaces : List ℕ → ℕ
spaces = count_by (λ b. b == 32)

-- the blanks that a line begins with
abbrev pub blanks : List ℕ → List ℕ
blanks rest = take (leading rest) rest

-- the width of a line: the number of its leading spaces
abbrev pub width : List ℕ → ℕ
width rest = spaces (blanks rest)

abbrev pub is_open : List ℕ → ℕ → Bool
is_open ws w = w == 0 || has ws w

-- ---- fields of f-strings

-- the text begins with the byte
abbrev pub begins : ℕ → List ℕ → Bool
begins c [] = false
begins c (b ∷ bs) = b == c

-- what ends a field, or its expression, where no bracket is open in it: a closing brace, or an exclamation mark without an equals sign behind it
abbrev pub closes_field : List ℕ → Bool
closes_field [] = false
closes_field (b ∷ bs) = b == 125 || (b == 33 && not (begins 61 bs))
