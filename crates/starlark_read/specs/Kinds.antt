-- The kind of a token: what it is beside its payload.
use Rattle.std.specs.Prelude.{ℕ, List, [], ◌∷◌, Bool, true, false}
use Rattle.starlark_lexer.specs.Items.{Lexeme, Item, big, newline, indent, dedent, comment, identifier, integer, float, string, bytes, fstring_start, fstring_text, fstring_expr_start, fstring_bang, fstring_expr_end, fstring_end, keyword_and, keyword_break, keyword_continue, keyword_def, keyword_elif, keyword_else, keyword_for, keyword_if, keyword_in, keyword_lambda, keyword_load, keyword_not, keyword_or, keyword_pass, keyword_return, comma, semicolon, colon, equal, plus_equal, minus_equal, star_equal, slash_equal, slash_slash_equal, percent_equal, ampersand_equal, pipe_equal, caret_equal, less_less_equal, greater_greater_equal, equal_equal, bang_equal, less_than, greater_than, less_equal, greater_equal, plus, minus, star, star_star, slash, slash_slash, percent, ampersand, pipe, caret, less_less, greater_greater, tilde, dot, ellipsis, minus_greater, opening_round, closing_round, opening_square, closing_square, opening_curly, closing_curly}
use Rattle.starlark_lexer.specs.declared.token.FStringQuote.TheVariants as quote
use Rattle.starlark_read.specs.declared.kind.Kind.{Kind}
use Rattle.starlark_read.specs.declared.kind.Kind.TheVariants as kind

abbrev pub kind_of : Lexeme → Kind
kind_of newline = kind.Newline
kind_of indent = kind.Indent
kind_of dedent = kind.Dedent
kind_of (comment t) = kind.Comment
kind_of (identifier t) = kind.Identifier
kind_of (integer n) = kind.Int
kind_of (float t) = kind.Float
kind_of (string t) = kind.String
kind_of (bytes t) = kind.Bytes
kind_of (fstring_start q) = kind.FStringStart
kind_of (fstring_text t) = kind.FStringText
kind_of fstring_expr_start = kind.FStringExprStart
kind_of fstring_bang = kind.FStringBang
kind_of fstring_expr_end = kind.FStringExprEnd
kind_of fstring_end = kind.FStringEnd
kind_of keyword_and = kind.And
kind_of keyword_break = kind.Break
kind_of keyword_continue = kind.Continue
kind_of keyword_def = kind.Def
kind_of keyword_elif = kind.Elif
kind_of keyword_else = kind.Else
kind_of keyword_for = kind.For
kind_of keyword_if = kind.If
kind_of keyword_in = kind.In
kind_of keyword_lambda = kind.Lambda
kind_of keyword_load = kind.Load
kind_of keyword_not = kind.Not
kind_of keyword_or = kind.Or
kind_of keyword_pass = kind.Pass
kind_of keyword_return = kind.Return
kind_of comma = kind.Comma
kind_of semicolon = kind.Semicolon
kind_of colon = kind.Colon
kind_of equal = kind.Equal
kind_of plus_equal = kind.PlusEqual
kind_of minus_equal = kind.MinusEqual
kind_of star_equal = kind.StarEqual
kind_of slash_equal = kind.SlashEqual
kind_of slash_slash_equal = kind.SlashSlashEqual
kind_of percent_equal = kind.PercentEqual
kind_of ampersand_equal = kind.AmpersandEqual
kind_of pipe_equal = kind.PipeEqual
kind_of caret_equal = kind.CaretEqual
kind_of less_less_equal = kind.LessLessEqual
kind_of greater_greater_equal = kind.GreaterGreaterEqual
kind_of equal_equal = kind.EqualEqual
kind_of bang_equal = kind.BangEqual
kind_of less_than = kind.LessThan
kind_of greater_than = kind.GreaterThan
kind_of less_equal = kind.LessEqual
kind_of greater_equal = kind.GreaterEqual
kind_of plus = kind.Plus
kind_of minus = kind.Minus
kind_of star = kind.Star
kind_of star_star = kind.StarStar
kind_of slash = kind.Slash
kind_of slash_slash = kind.SlashSlash
kind_of percent = kind.Percent
kind_of ampersand = kind.Ampersand
kind_of pipe = kind.Pipe
kind_of caret = kind.Caret
kind_of less_less = kind.LessLess
kind_of greater_greater = kind.GreaterGreater
kind_of tilde = kind.Tilde
kind_of dot = kind.Dot
kind_of ellipsis = kind.Ellipsis
kind_of minus_greater = kind.MinusGreater
kind_of opening_round = kind.OpeningRound
kind_of closing_round = kind.ClosingRound
kind_of opening_square = kind.OpeningSquare
kind_of closing_square = kind.ClosingSquare
kind_of opening_curly = kind.OpeningCurly
kind_of closing_curly = kind.ClosingCurly

-- the kind of the first token, if any is left
abbrev pub kind_ahead : List Item → Kind
kind_ahead [] = kind.End
kind_ahead (x ∷ xs) = kind_of x.lexeme

-- tokens of the kind have no payload
abbrev pub is_plain : Kind → Bool
is_plain kind.Comment = false
is_plain kind.Identifier = false
is_plain kind.Int = false
is_plain kind.Float = false
is_plain kind.String = false
is_plain kind.Bytes = false
is_plain kind.FStringStart = false
is_plain kind.FStringText = false
is_plain kind.End = false
is_plain _ = true

-- tokens of the kind have a text
abbrev pub has_text : Kind → Bool
has_text kind.Identifier = true
has_text kind.String = true
has_text kind.FStringText = true
has_text _ = false

-- the token of such a kind with that text
abbrev pub with_text : Kind → List ℕ → Lexeme
with_text kind.Identifier t = identifier t
with_text kind.String t = string t
with_text _ t = fstring_text t

-- the token of a kind without payload, and one of a kind with a payload that an expression begins with
abbrev pub token_of : Kind → Lexeme
token_of kind.Identifier = identifier []
token_of kind.Int = integer (big [] false 0)
token_of kind.Float = float []
token_of kind.String = string []
token_of kind.Bytes = bytes []
token_of kind.FStringStart = fstring_start quote.Single
token_of kind.Newline = newline
token_of kind.Indent = indent
token_of kind.Dedent = dedent
token_of kind.FStringExprStart = fstring_expr_start
token_of kind.FStringBang = fstring_bang
token_of kind.FStringExprEnd = fstring_expr_end
token_of kind.FStringEnd = fstring_end
token_of kind.And = keyword_and
token_of kind.Break = keyword_break
token_of kind.Continue = keyword_continue
token_of kind.Def = keyword_def
token_of kind.Elif = keyword_elif
token_of kind.Else = keyword_else
token_of kind.For = keyword_for
token_of kind.If = keyword_if
token_of kind.In = keyword_in
token_of kind.Lambda = keyword_lambda
token_of kind.Load = keyword_load
token_of kind.Not = keyword_not
token_of kind.Or = keyword_or
token_of kind.Pass = keyword_pass
token_of kind.Return = keyword_return
token_of kind.Comma = comma
token_of kind.Semicolon = semicolon
token_of kind.Colon = colon
token_of kind.Equal = equal
token_of kind.PlusEqual = plus_equal
token_of kind.MinusEqual = minus_equal
token_of kind.StarEqual = star_equal
token_of kind.SlashEqual = slash_equal
token_of kind.SlashSlashEqual = slash_slash_equal
token_of kind.PercentEqual = percent_equal
token_of kind.AmpersandEqual = ampersand_equal
token_of kind.PipeEqual = pipe_equal
token_of kind.CaretEqual = caret_equal
token_of kind.LessLessEqual = less_less_equal
token_of kind.GreaterGreaterEqual = greater_greater_equal
token_of kind.EqualEqual = equal_equal
token_of kind.BangEqual = bang_equal
token_of kind.LessThan = less_than
token_of kind.GreaterThan = greater_than
token_of kind.LessEqual = less_equal
token_of kind.GreaterEqual = greater_equal
token_of kind.Plus = plus
token_of kind.Minus = minus
token_of kind.Star = star
token_of kind.StarStar = star_star
token_of kind.Slash = slash
token_of kind.SlashSlash = slash_slash
token_of kind.Percent = percent
token_of kind.Ampersand = ampersand
token_of kind.Pipe = pipe
token_of kind.Caret = caret
token_of kind.LessLess = less_less
token_of kind.GreaterGreater = greater_greater
token_of kind.Tilde = tilde
token_of kind.Dot = dot
token_of kind.Ellipsis = ellipsis
token_of kind.MinusGreater = minus_greater
token_of kind.OpeningRound = opening_round
token_of kind.ClosingRound = closing_round
token_of kind.OpeningSquare = opening_square
token_of kind.ClosingSquare = closing_square
token_of kind.OpeningCurly = opening_curly
token_of kind.ClosingCurly = closing_curly
token_of _ = newline
