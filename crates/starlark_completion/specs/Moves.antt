-- What a token does to what is open.
use Rattle.std.specs.Prelude.{ℕ, ◌≡◌, suc, Option, Some, None, false}
use Rattle.starlark_lexer.specs.Items.{Lexeme, newline, indent, dedent, fstring_start, fstring_text, fstring_expr_start, fstring_bang, fstring_expr_end, fstring_end, opening_round, opening_square, opening_curly, closing_round, closing_square, closing_curly}
use Rattle.starlark_grammar.specs.Frames.{State}
use Rattle.starlark_cutting.specs.Opened.{Nest, in_field, in_text, deeper}
use Rattle.starlark_completion.specs.Shapes.{nest, depth, Stage, within, at_beginning, in_block, stage, is_within}

-- where the place before it is, and the one behind it: as `Goes_to`, which says too which tokens stand in the text of an f-string
abbrev pub Turned : Lexeme → Nest → Nest → Type 0
Turned opening_round m n = n ≡ deeper m
Turned opening_square m n = n ≡ deeper m
Turned opening_curly m n = n ≡ deeper m
Turned closing_round m n = m ≡ deeper n
Turned closing_square m n = m ≡ deeper n
Turned closing_curly m n = m ≡ deeper n
Turned (fstring_start q) m n = n ≡ in_text m
Turned (fstring_text v) m n = (k : Nest) × ((m ≡ in_text k) × (n ≡ m))
Turned fstring_expr_start m n = (k : Nest) × ((m ≡ in_text k) × (n ≡ in_field 0 k))
Turned fstring_bang m n = (k : Nest) × ((m ≡ in_field 0 k) × (n ≡ m))
Turned fstring_expr_end m n = (k : Nest) × ((m ≡ in_field 0 k) × (n ≡ in_text k))
Turned fstring_end m n = m ≡ in_text n
Turned x m n = n ≡ m

-- how many blocks are around
abbrev pub Deeper : Lexeme → ℕ → ℕ → Type 0
Deeper indent m n = n ≡ suc m
Deeper dedent m n = m ≡ suc n
Deeper x m n = n ≡ m

-- where the state behind it is
abbrev pub Staged : Lexeme → Stage → Type 0
Staged newline g = is_within g ≡ false
Staged indent g = g ≡ in_block
Staged dedent g = g ≡ at_beginning
Staged x g = g ≡ within

-- behind that token, where a state does come
abbrev pub Moves : Nest → ℕ → Lexeme → Option State → Type 0
Moves r d x None = Unit {0}
Moves r d x (Some s) = Turned x r (nest s) × Deeper x d (depth s) × Staged x (stage s)
