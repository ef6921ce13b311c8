-- The words and operators with a meaning of their own, and the words that are kept for later use.
use Rattle.std.specs.Prelude.{ℕ, List, [], ◌∷◌, codes}
use Rattle.starlark_lexer.specs.Items.{Lexeme, keyword_and, keyword_break, keyword_continue, keyword_def, keyword_elif, keyword_else, keyword_for, keyword_if, keyword_in, keyword_lambda, keyword_load, keyword_not, keyword_or, keyword_pass, keyword_return, comma, semicolon, colon, equal, plus_equal, minus_equal, star_equal, slash_equal, slash_slash_equal, percent_equal, ampersand_equal, pipe_equal, caret_equal, less_less_equal, greater_greater_equal, equal_equal, bang_equal, less_than, greater_than, less_equal, greater_equal, plus, minus, star, star_star, slash, slash_slash, percent, ampersand, pipe, caret, less_less, greater_greater, tilde, dot, ellipsis, minus_greater, opening_round, closing_round, opening_square, closing_square, opening_curly, closing_curly}

-- The keywords.
abbrev pub keywords : List (List ℕ × Lexeme)
keywords =
    (codes "and", keyword_and) ∷
    (codes "break", keyword_break) ∷
    (codes "continue", keyword_continue) ∷
    (codes "def", keyword_def) ∷
    (codes "elif", keyword_elif) ∷
    (codes "else", keyword_else) ∷
    (codes "for", keyword_for) ∷
    (codes "if", keyword_if) ∷
    (codes "in", keyword_in) ∷
    (codes "lambda", keyword_lambda) ∷
    (codes "load", keyword_load) ∷
    (codes "not", keyword_not) ∷
    (codes "or", keyword_or) ∷
    (codes "pass", keyword_pass) ∷
    (codes "return", keyword_return) ∷
    []

-- The words that are kept for later use.
abbrev pub reserved : List (List ℕ)
reserved =
    codes "as" ∷
    codes "class" ∷
    codes "del" ∷
    codes "except" ∷
    codes "finally" ∷
    codes "from" ∷
    codes "global" ∷
    codes "import" ∷
    codes "is" ∷
    codes "nonlocal" ∷
    codes "raise" ∷
    codes "try" ∷
    codes "while" ∷
    codes "with" ∷
    codes "yield" ∷
    []

-- The operators and brackets, none longer than one before it.
abbrev pub operators : List (List ℕ × Lexeme)
operators =
    (codes "//=", slash_slash_equal) ∷
    (codes "<<=", less_less_equal) ∷
    (codes ">>=", greater_greater_equal) ∷
    (codes "...", ellipsis) ∷
    (codes "+=", plus_equal) ∷
    (codes "-=", minus_equal) ∷
    (codes "*=", star_equal) ∷
    (codes "/=", slash_equal) ∷
    (codes "%=", percent_equal) ∷
    (codes "&=", ampersand_equal) ∷
    (codes "|=", pipe_equal) ∷
    (codes "^=", caret_equal) ∷
    (codes "==", equal_equal) ∷
    (codes "!=", bang_equal) ∷
    (codes "<=", less_equal) ∷
    (codes ">=", greater_equal) ∷
    (codes "**", star_star) ∷
    (codes "//", slash_slash) ∷
    (codes "<<", less_less) ∷
    (codes ">>", greater_greater) ∷
    (codes "->", minus_greater) ∷
    (codes ",", comma) ∷
    (codes ";", semicolon) ∷
    (codes ":", colon) ∷
    (codes "=", equal) ∷
    (codes "<", less_than) ∷
    (codes ">", greater_than) ∷
    (codes "+", plus) ∷
    (codes "-", minus) ∷
    (codes "*", star) ∷
    (codes "/", slash) ∷
    (codes "%", percent) ∷
    (codes "&", ampersand) ∷
    (codes "|", pipe) ∷
    (codes "^", caret) ∷
    (codes "~", tilde) ∷
    (codes ".", dot) ∷
    (codes "(", opening_round) ∷
    (codes ")", closing_round) ∷
    (codes "[", opening_square) ∷
    (codes "]", closing_square) ∷
    (codes "{", opening_curly) ∷
    (codes "}", closing_curly) ∷
    []
