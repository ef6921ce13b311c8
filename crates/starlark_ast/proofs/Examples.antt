-- What small trees print.
use lib.Utf8.{encode}
use Rattle.std.proofs.Common.{◌≡◌, refl, List, [], ◌∷◌, ℕ, Some, None, true, codes}
use Rattle.std.specs.Str.{chars}
use Rattle.starlark_lexer.specs.Items.{big}
use Rattle.starlark_ast.specs.Printing.{expr_text, statement_text}
use Rattle.starlark_ast.specs.Shown.{nowhere}
use Rattle.starlark_ast.specs.Tree.{Expr, name, int, bytes, leaf, tuple, index, lambda, item, none, more, absent, present, slice, untyped, typed, parameter, plain, name_at, no_symbols, add_symbol, symbol, no_statements, add_statement, pass, load, expression, assign, either, define, block, return}

abbrev called : List ℕ → Expr
called n = leaf (name n) nowhere nowhere

two_bodies : statement_text 0 (either (called (codes "a")) (pass nowhere) (expression (called (codes "b")) nowhere) nowhere) ≡ codes "if a:\n  pass\nelse:\n  b\n"
two_bodies = refl

-- as `elif` is read
an_if_in_the_other_body : statement_text 0 (either (called (codes "a")) (pass nowhere) (either (called (codes "b")) (pass nowhere) (pass nowhere) nowhere) nowhere) ≡ codes "if a:\n  pass\nelse:\n  if b:\n    pass\n  else:\n    pass\n"
an_if_in_the_other_body = refl

typed_assignment : statement_text 1 (assign (called (codes "x")) (typed (called (codes "int")) nowhere) None (called (codes "y")) nowhere) ≡ codes "  x : int = y\n"
typed_assignment = refl

function : statement_text 0 (define (name_at (codes "f") nowhere) (more none (parameter plain (codes "x") nowhere untyped absent nowhere)) (typed (called (codes "int")) nowhere) (block (add_statement (add_statement no_statements (pass nowhere)) (return (Some (called (codes "x"))) nowhere)) nowhere) nowhere) ≡ codes "def f(x) -> int:\n  pass\n  return x\n"
function = refl

load_of_one : statement_text 0 (load (name_at (codes "m") nowhere) (add_symbol no_symbols (symbol (name_at (codes "x") nowhere) (name_at (codes "y") nowhere)) None) nowhere) ≡ codes "load(\"m\", x = \"y\")\n"
unfolding chars encode
load_of_one = refl

load_of_none : statement_text 0 (load (name_at (codes "m") nowhere) no_symbols nowhere) ≡ codes "load(\"m\", )\n"
unfolding chars encode
load_of_none = refl

nothing_at_all : statement_text 3 (block no_statements nowhere) ≡ []
nothing_at_all = refl

lambda_of_nothing : expr_text (lambda none (called (codes "x")) nowhere) ≡ codes "(lambda : x)"
lambda_of_nothing = refl

tuple_of_one : expr_text (tuple (more none (item (called (codes "a")))) nowhere) ≡ codes "(a,)"
tuple_of_one = refl

a_slice : expr_text (index (called (codes "x")) (slice (present (called (codes "a"))) (present (called (codes "b"))) absent) nowhere) ≡ codes "x[]a:b"
a_slice = refl

some_bytes : expr_text (leaf (bytes (255 ∷ 34 ∷ 10 ∷ [])) nowhere nowhere) ≡ codes "b\"\\xff\\\"\\n\""
unfolding encode
some_bytes = refl

large_integer : expr_text (leaf (int (big (codes "ff00000000") true 16)) nowhere nowhere) ≡ codes "-0xff00000000"
large_integer = refl
