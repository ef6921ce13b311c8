-- What tokens print.
use Rattle.std.specs.Prelude.{ℕ, ◌++◌, ◌==◌, Bool, if◌then◌else◌, List, [], codes, Option, Some, None}
use Rattle.std.specs.Fmt.{signed_decimal}
use Rattle.std.specs.String.{string_bytes}
use Rattle.starlark_lexer.specs.declared.token.Token.{Token}
use Rattle.starlark_lexer.specs.declared.token.Token.TheVariants as token
use Rattle.starlark_lexer.specs.declared.token.TokenInt.{TokenInt}
use Rattle.starlark_lexer.specs.declared.token.TokenInt.TheVariants.{I32, BigInt}

-- The letters before the digits of a radix.
abbrev pub radix_text : ℕ → List ℕ
radix_text radix =
    if radix == 16 then codes "0x" else (if radix == 8 then codes "0o" else (if radix == 2 then codes "0b" else []))

-- A minus, or nothing.
abbrev pub sign_text : Bool → List ℕ
sign_text negative = if negative then codes "-" else []

-- A small integer in decimal, another with its sign, its radix and its digits.
abbrev pub number_text : TokenInt → List ℕ
number_text (I32 n) = signed_decimal n
number_text (BigInt digits negative radix) = sign_text negative ++ radix_text radix ++ string_bytes digits

-- A keyword by its text.
abbrev pub keyword_text : Token → Option (List ℕ)
keyword_text token.And = Some (codes "and")
keyword_text token.Break = Some (codes "break")
keyword_text token.Continue = Some (codes "continue")
keyword_text token.Def = Some (codes "def")
keyword_text token.Elif = Some (codes "elif")
keyword_text token.Else = Some (codes "else")
keyword_text token.For = Some (codes "for")
keyword_text token.If = Some (codes "if")
keyword_text token.In = Some (codes "in")
keyword_text token.Lambda = Some (codes "lambda")
keyword_text token.Load = Some (codes "load")
keyword_text token.Not = Some (codes "not")
keyword_text token.Or = Some (codes "or")
keyword_text token.Pass = Some (codes "pass")
keyword_text token.Return = Some (codes "return")
keyword_text _ = None

-- An operator that assigns by its text.
abbrev pub assigning_text : Token → Option (List ℕ)
assigning_text token.Equal = Some (codes "=")
assigning_text token.PlusEqual = Some (codes "+=")
assigning_text token.MinusEqual = Some (codes "-=")
assigning_text token.StarEqual = Some (codes "*=")
assigning_text token.SlashEqual = Some (codes "/=")
assigning_text token.SlashSlashEqual = Some (codes "//=")
assigning_text token.PercentEqual = Some (codes "%=")
assigning_text token.AmpersandEqual = Some (codes "&=")
assigning_text token.PipeEqual = Some (codes "|=")
assigning_text token.CaretEqual = Some (codes "^=")
assigning_text token.LessLessEqual = Some (codes "<<=")
assigning_text token.GreaterGreaterEqual = Some (codes ">>=")
assigning_text _ = None

-- An operator or a bracket by its text.
abbrev pub symbol_text : Token → Option (List ℕ)
symbol_text token.Comma = Some (codes ",")
symbol_text token.Semicolon = Some (codes ";")
symbol_text token.Colon = Some (codes ":")
symbol_text token.EqualEqual = Some (codes "==")
symbol_text token.BangEqual = Some (codes "!=")
symbol_text token.LessThan = Some (codes "<")
symbol_text token.GreaterThan = Some (codes ">")
symbol_text token.LessEqual = Some (codes "<=")
symbol_text token.GreaterEqual = Some (codes ">=")
symbol_text token.Plus = Some (codes "+")
symbol_text token.Minus = Some (codes "-")
symbol_text token.Star = Some (codes "*")
symbol_text token.StarStar = Some (codes "**")
symbol_text token.Slash = Some (codes "/")
symbol_text token.SlashSlash = Some (codes "//")
symbol_text token.Percent = Some (codes "%")
symbol_text token.Ampersand = Some (codes "&")
symbol_text token.Pipe = Some (codes "|")
symbol_text token.Caret = Some (codes "^")
symbol_text token.LessLess = Some (codes "<<")
symbol_text token.GreaterGreater = Some (codes ">>")
symbol_text token.Tilde = Some (codes "~")
symbol_text token.Dot = Some (codes ".")
symbol_text token.Ellipsis = Some (codes "...")
symbol_text token.MinusGreater = Some (codes "->")
symbol_text token.OpeningRound = Some (codes "(")
symbol_text token.ClosingRound = Some (codes ")")
symbol_text token.OpeningSquare = Some (codes "[")
symbol_text token.ClosingSquare = Some (codes "]")
symbol_text token.OpeningCurly = Some (codes "{")
symbol_text token.ClosingCurly = Some (codes "}")
symbol_text t = assigning_text t

-- A token that is neither, and shows no text of its own.
abbrev pub kind_text : Token → List ℕ
kind_text token.Newline = codes "new line"
kind_text token.Indent = codes "new indentation block"
kind_text token.Dedent = codes "end of indentation block"
kind_text (token.String text) = codes "string literal"
kind_text (token.Bytes bytes) = codes "bytes literal"
kind_text (token.Comment text) = codes "comment"
kind_text (token.FStringStart quote) = codes "f-string start"
kind_text (token.FStringText text) = codes "f-string text"
kind_text token.FStringExprStart = codes "f-string expression start"
kind_text token.FStringExprEnd = codes "f-string expression end"
kind_text token.FStringBang = codes "f-string conversion"
kind_text token.FStringEnd = codes "f-string end"
kind_text _ = []

-- The text of a keyword or a symbol, if it is one, else what is left.
abbrev pub or_else : Option (List ℕ) → List ℕ → List ℕ → List ℕ
or_else None kind left = left
or_else (Some text) kind left = kind ++ text ++ codes "'"

-- A token that shows its own text, or its kind alone.
abbrev pub other_text : Token → List ℕ
other_text (token.Identifier text) = codes "identifier '" ++ string_bytes text ++ codes "'"
other_text (token.Int n) = codes "integer literal '" ++ number_text n ++ codes "'"
other_text (token.Float text) = codes "float literal '" ++ string_bytes text ++ codes "'"
other_text t = kind_text t

-- What a token prints.
abbrev pub token_text : Token → List ℕ
token_text t = or_else (keyword_text t) (codes "keyword '") (or_else (symbol_text t) (codes "symbol '") (other_text t))
