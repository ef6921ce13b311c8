-- What a text is cut into. A text is the list of its bytes, and a place is a number of bytes.
use Rattle.std.specs.Prelude.{◌≡◌, ◌<◌, ℕ, zero, suc, ◌+◌, ℤ, Bool, true, false, if◌then◌else◌, length, List, [], ◌∷◌, ◌++◌, Option, Some, None}
use Rattle.std.specs.String.{string_bytes}
use Rattle.starlark_lexer.specs.declared.token.Token.{Token}
use Rattle.starlark_lexer.specs.declared.token.Token.TheVariants as token
use Rattle.starlark_lexer.specs.declared.token.TokenInt.{TokenInt}
use Rattle.starlark_lexer.specs.declared.token.TokenInt.TheVariants as number
use Rattle.starlark_lexer.specs.declared.token.LexemeError.{LexemeError}
use Rattle.starlark_lexer.specs.declared.token.FStringQuote.{FStringQuote}
use Rattle.starlark_lexer.specs.declared.words.Keyword.{Keyword}
use Rattle.starlark_lexer.specs.declared.words.Keyword.TheVariants as keyword
use Rattle.starlark_lexer.specs.declared.words.Operator.{Operator}
use Rattle.starlark_lexer.specs.declared.words.Operator.TheVariants as operator

-- the value of an integer
pub data Number : Type 0 where
  small : ℤ → Number
  -- digits, whether it is negative, and the radix
  big : List ℕ → Bool → ℕ → Number

-- a token without where its text lies in memory
pub data Lexeme : Type 0 where
  newline : Lexeme
  indent : Lexeme
  dedent : Lexeme
  comment : List ℕ → Lexeme
  identifier : List ℕ → Lexeme
  integer : Number → Lexeme
  float : List ℕ → Lexeme
  string : List ℕ → Lexeme
  bytes : List ℕ → Lexeme
  fstring_start : FStringQuote → Lexeme
  fstring_text : List ℕ → Lexeme
  fstring_expr_start : Lexeme
  fstring_bang : Lexeme
  fstring_expr_end : Lexeme
  fstring_end : Lexeme
  keyword_and : Lexeme
  keyword_break : Lexeme
  keyword_continue : Lexeme
  keyword_def : Lexeme
  keyword_elif : Lexeme
  keyword_else : Lexeme
  keyword_for : Lexeme
  keyword_if : Lexeme
  keyword_in : Lexeme
  keyword_lambda : Lexeme
  keyword_load : Lexeme
  keyword_not : Lexeme
  keyword_or : Lexeme
  keyword_pass : Lexeme
  keyword_return : Lexeme
  comma : Lexeme
  semicolon : Lexeme
  colon : Lexeme
  equal : Lexeme
  plus_equal : Lexeme
  minus_equal : Lexeme
  star_equal : Lexeme
  slash_equal : Lexeme
  slash_slash_equal : Lexeme
  percent_equal : Lexeme
  ampersand_equal : Lexeme
  pipe_equal : Lexeme
  caret_equal : Lexeme
  less_less_equal : Lexeme
  greater_greater_equal : Lexeme
  equal_equal : Lexeme
  bang_equal : Lexeme
  less_than : Lexeme
  greater_than : Lexeme
  less_equal : Lexeme
  greater_equal : Lexeme
  plus : Lexeme
  minus : Lexeme
  star : Lexeme
  star_star : Lexeme
  slash : Lexeme
  slash_slash : Lexeme
  percent : Lexeme
  ampersand : Lexeme
  pipe : Lexeme
  caret : Lexeme
  less_less : Lexeme
  greater_greater : Lexeme
  tilde : Lexeme
  dot : Lexeme
  ellipsis : Lexeme
  minus_greater : Lexeme
  opening_round : Lexeme
  closing_round : Lexeme
  opening_square : Lexeme
  closing_square : Lexeme
  opening_curly : Lexeme
  closing_curly : Lexeme

-- a lexeme and where it stands
pub record Item : Type 0 where
  pub begin : ℕ
  pub lexeme : Lexeme
  pub end : ℕ

-- a fault and where it stands
pub record Stop : Type 0 where
  pub begin : ℕ
  pub error : LexemeError
  pub end : ℕ

-- the items of a text, and the fault behind them where there is one
pub record Lexed : Type 0 where
  pub items : List Item
  pub fault : Option Stop

abbrev pub nothing : Lexed
nothing = record { items = []; fault = None }

abbrev pub with_items : List Item → Lexed → Lexed
with_items xs l = record { items = xs ++ l.items; fault = l.fault }

abbrev pub item : ℕ → Lexeme → ℕ → Item
item i x j = record { begin = i; lexeme = x; end = j }

abbrev pub with_item : ℕ → Lexeme → ℕ → Lexed → Lexed
with_item i x j l = record { items = (record { begin = i; lexeme = x; end = j }) ∷ l.items; fault = l.fault }

abbrev pub with_fault : ℕ → LexemeError → ℕ → Lexed
with_fault i e j = record { items = []; fault = Some (record { begin = i; error = e; end = j }) }

abbrev pub number_of : TokenInt → Number
number_of (number.I32 n) = small n
number_of (number.BigInt digits negative radix) = big (string_bytes digits) negative radix

-- the lexeme of a keyword
abbrev pub keyword_lexeme : Keyword → Lexeme
keyword_lexeme keyword.And = keyword_and
keyword_lexeme keyword.Break = keyword_break
keyword_lexeme keyword.Continue = keyword_continue
keyword_lexeme keyword.Def = keyword_def
keyword_lexeme keyword.Elif = keyword_elif
keyword_lexeme keyword.Else = keyword_else
keyword_lexeme keyword.For = keyword_for
keyword_lexeme keyword.If = keyword_if
keyword_lexeme keyword.In = keyword_in
keyword_lexeme keyword.Lambda = keyword_lambda
keyword_lexeme keyword.Load = keyword_load
keyword_lexeme keyword.Not = keyword_not
keyword_lexeme keyword.Or = keyword_or
keyword_lexeme keyword.Pass = keyword_pass
keyword_lexeme keyword.Return = keyword_return

-- the lexeme of an operator or bracket
abbrev pub operator_lexeme : Operator → Lexeme
operator_lexeme operator.Comma = comma
operator_lexeme operator.Semicolon = semicolon
operator_lexeme operator.Colon = colon
operator_lexeme operator.Equal = equal
operator_lexeme operator.PlusEqual = plus_equal
operator_lexeme operator.MinusEqual = minus_equal
operator_lexeme operator.StarEqual = star_equal
operator_lexeme operator.SlashEqual = slash_equal
operator_lexeme operator.SlashSlashEqual = slash_slash_equal
operator_lexeme operator.PercentEqual = percent_equal
operator_lexeme operator.AmpersandEqual = ampersand_equal
operator_lexeme operator.PipeEqual = pipe_equal
operator_lexeme operator.CaretEqual = caret_equal
operator_lexeme operator.LessLessEqual = less_less_equal
operator_lexeme operator.GreaterGreaterEqual = greater_greater_equal
operator_lexeme operator.EqualEqual = equal_equal
operator_lexeme operator.BangEqual = bang_equal
operator_lexeme operator.LessThan = less_than
operator_lexeme operator.GreaterThan = greater_than
operator_lexeme operator.LessEqual = less_equal
operator_lexeme operator.GreaterEqual = greater_equal
operator_lexeme operator.Plus = plus
operator_lexeme operator.Minus = minus
operator_lexeme operator.Star = star
operator_lexeme operator.StarStar = star_star
operator_lexeme operator.Slash = slash
operator_lexeme operator.SlashSlash = slash_slash
operator_lexeme operator.Percent = percent
operator_lexeme operator.Ampersand = ampersand
operator_lexeme operator.Pipe = pipe
operator_lexeme operator.Caret = caret
operator_lexeme operator.LessLess = less_less
operator_lexeme operator.GreaterGreater = greater_greater
operator_lexeme operator.Tilde = tilde
operator_lexeme operator.Dot = dot
operator_lexeme operator.Ellipsis = ellipsis
operator_lexeme operator.MinusGreater = minus_greater
operator_lexeme operator.OpeningRound = opening_round
operator_lexeme operator.ClosingRound = closing_round
operator_lexeme operator.OpeningSquare = opening_square
operator_lexeme operator.ClosingSquare = closing_square
operator_lexeme operator.OpeningCurly = opening_curly
operator_lexeme operator.ClosingCurly = closing_curly

-- an operator that assigns
abbrev pub is_assigning : Operator → Bool
is_assigning operator.Equal = true
is_assigning operator.PlusEqual = true
is_assigning operator.MinusEqual = true
is_assigning operator.StarEqual = true
is_assigning operator.SlashEqual = true
is_assigning operator.SlashSlashEqual = true
is_assigning operator.PercentEqual = true
is_assigning operator.AmpersandEqual = true
is_assigning operator.PipeEqual = true
is_assigning operator.CaretEqual = true
is_assigning operator.LessLessEqual = true
is_assigning operator.GreaterGreaterEqual = true
is_assigning _ = false

abbrev pub lexeme_of : Token → Lexeme
lexeme_of token.Newline = newline
lexeme_of token.Indent = indent
lexeme_of token.Dedent = dedent
lexeme_of (token.Comment text) = comment (string_bytes text)
lexeme_of (token.Identifier text) = identifier (string_bytes text)
lexeme_of (token.Int n) = integer (number_of n)
lexeme_of (token.Float text) = float (string_bytes text)
lexeme_of (token.String text) = string (string_bytes text)
lexeme_of (token.Bytes text) = bytes text.items
lexeme_of (token.FStringStart quote) = fstring_start quote
lexeme_of (token.FStringText text) = fstring_text (string_bytes text)
lexeme_of token.FStringExprStart = fstring_expr_start
lexeme_of token.FStringBang = fstring_bang
lexeme_of token.FStringExprEnd = fstring_expr_end
lexeme_of token.FStringEnd = fstring_end
lexeme_of token.And = keyword_and
lexeme_of token.Break = keyword_break
lexeme_of token.Continue = keyword_continue
lexeme_of token.Def = keyword_def
lexeme_of token.Elif = keyword_elif
lexeme_of token.Else = keyword_else
lexeme_of token.For = keyword_for
lexeme_of token.If = keyword_if
lexeme_of token.In = keyword_in
lexeme_of token.Lambda = keyword_lambda
lexeme_of token.Load = keyword_load
lexeme_of token.Not = keyword_not
lexeme_of token.Or = keyword_or
lexeme_of token.Pass = keyword_pass
lexeme_of token.Return = keyword_return
lexeme_of token.Comma = comma
lexeme_of token.Semicolon = semicolon
lexeme_of token.Colon = colon
lexeme_of token.Equal = equal
lexeme_of token.PlusEqual = plus_equal
lexeme_of token.MinusEqual = minus_equal
lexeme_of token.StarEqual = star_equal
lexeme_of token.SlashEqual = slash_equal
lexeme_of token.SlashSlashEqual = slash_slash_equal
lexeme_of token.PercentEqual = percent_equal
lexeme_of token.AmpersandEqual = ampersand_equal
lexeme_of token.PipeEqual = pipe_equal
lexeme_of token.CaretEqual = caret_equal
lexeme_of token.LessLessEqual = less_less_equal
lexeme_of token.GreaterGreaterEqual = greater_greater_equal
lexeme_of token.EqualEqual = equal_equal
lexeme_of token.BangEqual = bang_equal
lexeme_of token.LessThan = less_than
lexeme_of token.GreaterThan = greater_than
lexeme_of token.LessEqual = less_equal
lexeme_of token.GreaterEqual = greater_equal
lexeme_of token.Plus = plus
lexeme_of token.Minus = minus
lexeme_of token.Star = star
lexeme_of token.StarStar = star_star
lexeme_of token.Slash = slash
lexeme_of token.SlashSlash = slash_slash
lexeme_of token.Percent = percent
lexeme_of token.Ampersand = ampersand
lexeme_of token.Pipe = pipe
lexeme_of token.Caret = caret
lexeme_of token.LessLess = less_less
lexeme_of token.GreaterGreater = greater_greater
lexeme_of token.Tilde = tilde
lexeme_of token.Dot = dot
lexeme_of token.Ellipsis = ellipsis
lexeme_of token.MinusGreater = minus_greater
lexeme_of token.OpeningRound = opening_round
lexeme_of token.ClosingRound = closing_round
lexeme_of token.OpeningSquare = opening_square
lexeme_of token.ClosingSquare = closing_square
lexeme_of token.OpeningCurly = opening_curly
lexeme_of token.ClosingCurly = closing_curly

abbrev pub is_newline : Lexeme → Bool
is_newline newline = true
is_newline _ = false

abbrev pub is_opening : Lexeme → Bool
is_opening opening_round = true
is_opening opening_square = true
is_opening opening_curly = true
is_opening _ = false

abbrev pub is_closing : Lexeme → Bool
is_closing closing_round = true
is_closing closing_square = true
is_closing closing_curly = true
is_closing _ = false

abbrev pub opening_item : Item → Bool
opening_item x = is_opening x.lexeme

abbrev pub closing_item : Item → Bool
closing_item x = is_closing x.lexeme

-- n dedents at a place
abbrev pub dedents : ℕ → ℕ → List Item
dedents i zero = []
dedents i (suc n) = item i dedent i ∷ dedents i n

-- the last line end of the items, of which the last one stands first
abbrev pub newline_span : List Item → ℕ × ℕ
newline_span [] = (0, 0)
newline_span (x ∷ xs) = if is_newline x.lexeme then (x.begin, x.end) else newline_span xs

abbrev pub count_fault : Option Stop → ℕ
count_fault None = 0
count_fault (Some s) = 1

-- how many answers are left: the items, and the fault where there is one
abbrev pub answers : Lexed → ℕ
answers l = length l.items + count_fault l.fault

abbrev pub is_big : Number → Bool
is_big (small z) = false
is_big (big ds negative radix) = true

-- a lexeme whose token holds memory, or of which the lexer keeps something: the width of a line, or what an f-string stands in
abbrev pub takes_memory : Lexeme → Bool
takes_memory indent = true
takes_memory (comment w) = true
takes_memory (identifier w) = true
takes_memory (integer n) = is_big n
takes_memory (float w) = true
takes_memory (string w) = true
takes_memory (bytes w) = true
takes_memory (fstring_start q) = true
takes_memory (fstring_text w) = true
takes_memory _ = false

-- the next answer takes memory: an item that does, or the fault
abbrev pub next_takes : List Item → Option Stop → Bool
next_takes [] None = false
next_takes [] (Some s) = true
next_takes (x ∷ xs) f = takes_memory x.lexeme

-- memory may be missed: something is left, and the next answer takes memory
pub record LacksMemory (l : Lexed) : Type 0 where
  pub some : 0 < answers l
  pub takes : next_takes l.items l.fault ≡ true
