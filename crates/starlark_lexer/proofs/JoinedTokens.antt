-- A lexeme whose text says what it is neither opens nor closes an f-string, and is no line end and no comment.
use Rattle.std.proofs.Common.{◌≡◌, ℕ, Bool, true, false, cond, List, drop, refl}
use Rattle.std.specs.Prelude.{Option, Some, None}
use Rattle.starlark_lexer.specs.declared.words.Keyword.{Keyword}
use Rattle.starlark_lexer.specs.declared.words.Keyword.TheVariants as keyword
use Rattle.starlark_lexer.specs.declared.words.Operator.{Operator}
use Rattle.starlark_lexer.specs.declared.words.Operator.TheVariants as operator
use Rattle.starlark_lexer.specs.declared.literal.Form.{Form}
use Rattle.starlark_lexer.specs.declared.token.LexemeError.TheVariants.{InvalidInput, ReservedKeyword, StartsZero}
use Rattle.starlark_lexer.specs.Items.{Lexeme, identifier, integer, float, keyword_lexeme, operator_lexeme, is_newline}
use Rattle.starlark_lexer.specs.Number.{number}
use Rattle.starlark_lexer.specs.Literals.{opening_of}
use Rattle.starlark_lexer.specs.Classes.{Meaning, token, refused, opens, or_else, when, meaning, keyword_of, by_keyword, word_meaning, is_reserved, is_word, is_decimal, is_based, base_of, is_zeros, is_float, by_opening, by_operator, operator_of, is_other}
use Rattle.starlark_lexer.specs.Joining.{nested, is_comment, is_indent, is_dedent}

-- it changes neither how many f-strings are open nor whether a line begins
pub record IsNeutral (x : Lexeme) : Type 0 where
  pub nested : (n : ℕ) → nested n x ≡ n
  pub no_line : is_newline x ≡ false
  pub no_comment : is_comment x ≡ false
  pub level : is_indent x ≡ is_dedent x

keyword_neutral : (k : Keyword) → IsNeutral (keyword_lexeme k)
keyword_neutral keyword.And = record { nested = λ n. refl; no_line = refl; no_comment = refl; level = refl }
keyword_neutral keyword.Break = record { nested = λ n. refl; no_line = refl; no_comment = refl; level = refl }
keyword_neutral keyword.Continue = record { nested = λ n. refl; no_line = refl; no_comment = refl; level = refl }
keyword_neutral keyword.Def = record { nested = λ n. refl; no_line = refl; no_comment = refl; level = refl }
keyword_neutral keyword.Elif = record { nested = λ n. refl; no_line = refl; no_comment = refl; level = refl }
keyword_neutral keyword.Else = record { nested = λ n. refl; no_line = refl; no_comment = refl; level = refl }
keyword_neutral keyword.For = record { nested = λ n. refl; no_line = refl; no_comment = refl; level = refl }
keyword_neutral keyword.If = record { nested = λ n. refl; no_line = refl; no_comment = refl; level = refl }
keyword_neutral keyword.In = record { nested = λ n. refl; no_line = refl; no_comment = refl; level = refl }
keyword_neutral keyword.Lambda = record { nested = λ n. refl; no_line = refl; no_comment = refl; level = refl }
keyword_neutral keyword.Load = record { nested = λ n. refl; no_line = refl; no_comment = refl; level = refl }
keyword_neutral keyword.Not = record { nested = λ n. refl; no_line = refl; no_comment = refl; level = refl }
keyword_neutral keyword.Or = record { nested = λ n. refl; no_line = refl; no_comment = refl; level = refl }
keyword_neutral keyword.Pass = record { nested = λ n. refl; no_line = refl; no_comment = refl; level = refl }
keyword_neutral keyword.Return = record { nested = λ n. refl; no_line = refl; no_comment = refl; level = refl }

operator_neutral : (o : Operator) → IsNeutral (operator_lexeme o)
operator_neutral operator.Comma = record { nested = λ n. refl; no_line = refl; no_comment = refl; level = refl }
operator_neutral operator.Semicolon = record { nested = λ n. refl; no_line = refl; no_comment = refl; level = refl }
operator_neutral operator.Colon = record { nested = λ n. refl; no_line = refl; no_comment = refl; level = refl }
operator_neutral operator.Equal = record { nested = λ n. refl; no_line = refl; no_comment = refl; level = refl }
operator_neutral operator.PlusEqual = record { nested = λ n. refl; no_line = refl; no_comment = refl; level = refl }
operator_neutral operator.MinusEqual = record { nested = λ n. refl; no_line = refl; no_comment = refl; level = refl }
operator_neutral operator.StarEqual = record { nested = λ n. refl; no_line = refl; no_comment = refl; level = refl }
operator_neutral operator.SlashEqual = record { nested = λ n. refl; no_line = refl; no_comment = refl; level = refl }
operator_neutral operator.SlashSlashEqual = record { nested = λ n. refl; no_line = refl; no_comment = refl; level = refl }
operator_neutral operator.PercentEqual = record { nested = λ n. refl; no_line = refl; no_comment = refl; level = refl }
operator_neutral operator.AmpersandEqual = record { nested = λ n. refl; no_line = refl; no_comment = refl; level = refl }
operator_neutral operator.PipeEqual = record { nested = λ n. refl; no_line = refl; no_comment = refl; level = refl }
operator_neutral operator.CaretEqual = record { nested = λ n. refl; no_line = refl; no_comment = refl; level = refl }
operator_neutral operator.LessLessEqual = record { nested = λ n. refl; no_line = refl; no_comment = refl; level = refl }
operator_neutral operator.GreaterGreaterEqual = record { nested = λ n. refl; no_line = refl; no_comment = refl; level = refl }
operator_neutral operator.EqualEqual = record { nested = λ n. refl; no_line = refl; no_comment = refl; level = refl }
operator_neutral operator.BangEqual = record { nested = λ n. refl; no_line = refl; no_comment = refl; level = refl }
operator_neutral operator.LessThan = record { nested = λ n. refl; no_line = refl; no_comment = refl; level = refl }
operator_neutral operator.GreaterThan = record { nested = λ n. refl; no_line = refl; no_comment = refl; level = refl }
operator_neutral operator.LessEqual = record { nested = λ n. refl; no_line = refl; no_comment = refl; level = refl }
operator_neutral operator.GreaterEqual = record { nested = λ n. refl; no_line = refl; no_comment = refl; level = refl }
operator_neutral operator.Plus = record { nested = λ n. refl; no_line = refl; no_comment = refl; level = refl }
operator_neutral operator.Minus = record { nested = λ n. refl; no_line = refl; no_comment = refl; level = refl }
operator_neutral operator.Star = record { nested = λ n. refl; no_line = refl; no_comment = refl; level = refl }
operator_neutral operator.StarStar = record { nested = λ n. refl; no_line = refl; no_comment = refl; level = refl }
operator_neutral operator.Slash = record { nested = λ n. refl; no_line = refl; no_comment = refl; level = refl }
operator_neutral operator.SlashSlash = record { nested = λ n. refl; no_line = refl; no_comment = refl; level = refl }
operator_neutral operator.Percent = record { nested = λ n. refl; no_line = refl; no_comment = refl; level = refl }
operator_neutral operator.Ampersand = record { nested = λ n. refl; no_line = refl; no_comment = refl; level = refl }
operator_neutral operator.Pipe = record { nested = λ n. refl; no_line = refl; no_comment = refl; level = refl }
operator_neutral operator.Caret = record { nested = λ n. refl; no_line = refl; no_comment = refl; level = refl }
operator_neutral operator.LessLess = record { nested = λ n. refl; no_line = refl; no_comment = refl; level = refl }
operator_neutral operator.GreaterGreater = record { nested = λ n. refl; no_line = refl; no_comment = refl; level = refl }
operator_neutral operator.Tilde = record { nested = λ n. refl; no_line = refl; no_comment = refl; level = refl }
operator_neutral operator.Dot = record { nested = λ n. refl; no_line = refl; no_comment = refl; level = refl }
operator_neutral operator.Ellipsis = record { nested = λ n. refl; no_line = refl; no_comment = refl; level = refl }
operator_neutral operator.MinusGreater = record { nested = λ n. refl; no_line = refl; no_comment = refl; level = refl }
operator_neutral operator.OpeningRound = record { nested = λ n. refl; no_line = refl; no_comment = refl; level = refl }
operator_neutral operator.ClosingRound = record { nested = λ n. refl; no_line = refl; no_comment = refl; level = refl }
operator_neutral operator.OpeningSquare = record { nested = λ n. refl; no_line = refl; no_comment = refl; level = refl }
operator_neutral operator.ClosingSquare = record { nested = λ n. refl; no_line = refl; no_comment = refl; level = refl }
operator_neutral operator.OpeningCurly = record { nested = λ n. refl; no_line = refl; no_comment = refl; level = refl }
operator_neutral operator.ClosingCurly = record { nested = λ n. refl; no_line = refl; no_comment = refl; level = refl }

abbrev Says : Option Meaning → Type 0
Says None = Unit {0}
Says (Some (token x)) = IsNeutral x
Says (Some (refused e)) = Unit {0}
Says (Some (opens f)) = Unit {0}

says_when : (t : Bool) (m : Meaning) → Says (Some m) → Says (when t m)
says_when true m h = h
says_when false m h = tt

says_or : (a b : Option Meaning) → Says a → Says b → Says (or_else a b)
says_or None b h k = k
says_or (Some m) b h k = h

says_reserved : (t : Bool) (w : List ℕ) → Says (Some (cond t (refused ReservedKeyword) (token (identifier w))))
says_reserved true w = tt
says_reserved false w = record { nested = λ n. refl; no_line = refl; no_comment = refl; level = refl }

says_word : (o : Option Keyword) (w : List ℕ) → Says (Some (by_keyword o w))
says_word None w = says_reserved (is_reserved w) w
says_word (Some k) w = keyword_neutral k

says_opening : (o : Option Form) → Says (by_opening o)
says_opening None = tt
says_opening (Some f) = tt

says_operator : (o : Option Operator) → Says (by_operator o)
says_operator None = tt
says_operator (Some o) = operator_neutral o

says : (w : List ℕ) → Says (meaning w)
unfolding meaning
says w =
    says_or _ _ (says_when (is_word w) (word_meaning w) (says_word (keyword_of w) w))
    (says_or _ _ (says_when (is_decimal w) (token (integer (number false 10 w))) (record { nested = λ n. refl; no_line = refl; no_comment = refl; level = refl }))
    (says_or _ _ (says_when (is_based w) (token (integer (number false (base_of w) (drop 2 w)))) (record { nested = λ n. refl; no_line = refl; no_comment = refl; level = refl }))
    (says_or _ _ (says_when (is_zeros w) (refused StartsZero) tt)
    (says_or _ _ (says_when (is_float w) (token (float w)) (record { nested = λ n. refl; no_line = refl; no_comment = refl; level = refl }))
    (says_or _ _ (says_opening (opening_of w))
    (says_or _ _ (says_operator (operator_of w))
    (says_when (is_other w) (refused InvalidInput) tt)))))))

pub token_neutral : (w : List ℕ) (x : Lexeme) → meaning w ≡ Some (token x) → IsNeutral x
token_neutral w x e = rw e at (says w)
