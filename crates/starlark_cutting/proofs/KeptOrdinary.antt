-- Lexemes that neither begin nor end a part of an f-string, and where the place goes behind one.
use Rattle.std.proofs.Common.{◌≡◌, ℕ, Bool, true, false, cond, List, drop, refl}
use Rattle.std.specs.Prelude.{Option, Some, None}
use Rattle.std.proofs.lemmas.Bool.{false≢true}
use Rattle.starlark_lexer.specs.declared.words.Keyword.{Keyword}
use Rattle.starlark_lexer.specs.declared.words.Keyword.TheVariants as keyword
use Rattle.starlark_lexer.specs.declared.words.Operator.{Operator}
use Rattle.starlark_lexer.specs.declared.words.Operator.TheVariants as operator
use Rattle.starlark_lexer.specs.declared.literal.Form.{Form}
use Rattle.starlark_lexer.specs.declared.token.LexemeError.TheVariants.{InvalidInput, ReservedKeyword, StartsZero}
use Rattle.starlark_lexer.specs.Items as items
use Rattle.starlark_lexer.specs.Items.{Lexeme, identifier, integer, float, keyword_lexeme, operator_lexeme, is_opening, is_closing}
use Rattle.starlark_lexer.specs.Number.{number}
use Rattle.starlark_lexer.specs.Literals.{opening_of}
use Rattle.starlark_lexer.specs.Classes.{Meaning, token, refused, opens, or_else, when, meaning, keyword_of, by_keyword, word_meaning, is_reserved, is_word, is_decimal, is_based, base_of, is_zeros, is_float, by_opening, by_operator, operator_of, is_other}
use Rattle.starlark_cutting.specs.Opened.{Nest, deeper, Goes_to}

-- no part of an f-string
abbrev pub ordinary : Lexeme → Bool
ordinary (items.fstring_start q) = false
ordinary (items.fstring_text v) = false
ordinary items.fstring_expr_start = false
ordinary items.fstring_bang = false
ordinary items.fstring_expr_end = false
ordinary items.fstring_end = false
ordinary _ = true

-- ---- what a text is as a whole

keyword_ordinary : (k : Keyword) → ordinary (keyword_lexeme k) ≡ true
keyword_ordinary keyword.And = refl
keyword_ordinary keyword.Break = refl
keyword_ordinary keyword.Continue = refl
keyword_ordinary keyword.Def = refl
keyword_ordinary keyword.Elif = refl
keyword_ordinary keyword.Else = refl
keyword_ordinary keyword.For = refl
keyword_ordinary keyword.If = refl
keyword_ordinary keyword.In = refl
keyword_ordinary keyword.Lambda = refl
keyword_ordinary keyword.Load = refl
keyword_ordinary keyword.Not = refl
keyword_ordinary keyword.Or = refl
keyword_ordinary keyword.Pass = refl
keyword_ordinary keyword.Return = refl

operator_ordinary : (o : Operator) → ordinary (operator_lexeme o) ≡ true
operator_ordinary operator.Comma = refl
operator_ordinary operator.Semicolon = refl
operator_ordinary operator.Colon = refl
operator_ordinary operator.Equal = refl
operator_ordinary operator.PlusEqual = refl
operator_ordinary operator.MinusEqual = refl
operator_ordinary operator.StarEqual = refl
operator_ordinary operator.SlashEqual = refl
operator_ordinary operator.SlashSlashEqual = refl
operator_ordinary operator.PercentEqual = refl
operator_ordinary operator.AmpersandEqual = refl
operator_ordinary operator.PipeEqual = refl
operator_ordinary operator.CaretEqual = refl
operator_ordinary operator.LessLessEqual = refl
operator_ordinary operator.GreaterGreaterEqual = refl
operator_ordinary operator.EqualEqual = refl
operator_ordinary operator.BangEqual = refl
operator_ordinary operator.LessThan = refl
operator_ordinary operator.GreaterThan = refl
operator_ordinary operator.LessEqual = refl
operator_ordinary operator.GreaterEqual = refl
operator_ordinary operator.Plus = refl
operator_ordinary operator.Minus = refl
operator_ordinary operator.Star = refl
operator_ordinary operator.StarStar = refl
operator_ordinary operator.Slash = refl
operator_ordinary operator.SlashSlash = refl
operator_ordinary operator.Percent = refl
operator_ordinary operator.Ampersand = refl
operator_ordinary operator.Pipe = refl
operator_ordinary operator.Caret = refl
operator_ordinary operator.LessLess = refl
operator_ordinary operator.GreaterGreater = refl
operator_ordinary operator.Tilde = refl
operator_ordinary operator.Dot = refl
operator_ordinary operator.Ellipsis = refl
operator_ordinary operator.MinusGreater = refl
operator_ordinary operator.OpeningRound = refl
operator_ordinary operator.ClosingRound = refl
operator_ordinary operator.OpeningSquare = refl
operator_ordinary operator.ClosingSquare = refl
operator_ordinary operator.OpeningCurly = refl
operator_ordinary operator.ClosingCurly = refl

abbrev Says : List ℕ → Option Meaning → Type 0
Says w None = Unit {0}
Says w (Some (token x)) = ordinary x ≡ true
Says w (Some (refused e)) = Unit {0}
Says w (Some (opens f)) = opening_of w ≡ Some f

says_when : (w : List ℕ) (t : Bool) (m : Meaning) → Says w (Some m) → Says w (when t m)
says_when w true m h = h
says_when w false m h = tt

says_or : (w : List ℕ) (a b : Option Meaning) → Says w a → Says w b → Says w (or_else a b)
says_or w None b h k = k
says_or w (Some m) b h k = h

says_reserved : (t : Bool) (w : List ℕ) → Says w (Some (cond t (refused ReservedKeyword) (token (identifier w))))
says_reserved true w = tt
says_reserved false w = refl

says_word : (o : Option Keyword) (w : List ℕ) → Says w (Some (by_keyword o w))
says_word None w = says_reserved (is_reserved w) w
says_word (Some k) w = keyword_ordinary k

says_opening : (w : List ℕ) (o : Option Form) → opening_of w ≡ o → Says w (by_opening o)
says_opening w None e = tt
says_opening w (Some f) e = e

says_operator : (w : List ℕ) (o : Option Operator) → Says w (by_operator o)
says_operator w None = tt
says_operator w (Some o) = operator_ordinary o

says : (w : List ℕ) → Says w (meaning w)
unfolding meaning
says w =
    says_or w _ _ (says_when w (is_word w) (word_meaning w) (says_word (keyword_of w) w))
    (says_or w _ _ (says_when w (is_decimal w) (token (integer (number false 10 w))) refl)
    (says_or w _ _ (says_when w (is_based w) (token (integer (number false (base_of w) (drop 2 w)))) refl)
    (says_or w _ _ (says_when w (is_zeros w) (refused StartsZero) tt)
    (says_or w _ _ (says_when w (is_float w) (token (float w)) refl)
    (says_or w _ _ (says_opening w (opening_of w) refl)
    (says_or w _ _ (says_operator w (operator_of w))
    (says_when w (is_other w) (refused InvalidInput) tt)))))))

pub token_ordinary : (w : List ℕ) (x : Lexeme) → meaning w ≡ Some (token x) → ordinary x ≡ true
token_ordinary w x e = rw e at (says w)

pub meaning_opening : (w : List ℕ) (f : Form) → meaning w ≡ Some (opens f) → opening_of w ≡ Some f
meaning_opening w f e = rw e at (says w)

-- ---- where the place goes

pub data Turn : Lexeme → Nest → Nest → Type 0 where
  deepens : (x : Lexeme) (m n : Nest) → is_opening x ≡ true → is_closing x ≡ false → n ≡ deeper m → Turn x m n
  rises : (x : Lexeme) (m n : Nest) → is_opening x ≡ false → is_closing x ≡ true → m ≡ deeper n → Turn x m n
  stays : (x : Lexeme) (m n : Nest) → is_opening x ≡ false → is_closing x ≡ false → n ≡ m → Turn x m n

pub turn_of : (x : Lexeme) (m n : Nest) → ordinary x ≡ true → Goes_to x m n → Turn x m n
turn_of items.opening_round m n o h = deepens _ m n refl refl h.1
turn_of items.opening_square m n o h = deepens _ m n refl refl h.1
turn_of items.opening_curly m n o h = deepens _ m n refl refl h.1
turn_of items.closing_round m n o h = rises _ m n refl refl h.1
turn_of items.closing_square m n o h = rises _ m n refl refl h.1
turn_of items.closing_curly m n o h = rises _ m n refl refl h.1
turn_of (items.fstring_start q) m n o h = absurd (false≢true o)
turn_of (items.fstring_text v) m n o h = absurd (false≢true o)
turn_of items.fstring_expr_start m n o h = absurd (false≢true o)
turn_of items.fstring_bang m n o h = absurd (false≢true o)
turn_of items.fstring_expr_end m n o h = absurd (false≢true o)
turn_of items.fstring_end m n o h = absurd (false≢true o)
turn_of (items.comment w) m n o h = stays _ m n refl refl h
turn_of x m n o h = stays x m n refl refl h.1
