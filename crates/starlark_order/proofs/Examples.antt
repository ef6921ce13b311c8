-- Where the parts of two small trees begin.
use Rattle.std.proofs.Common.{ℕ, ◌+◌, ◌≡◌, [], ◌∷◌, refl}
use Rattle.starlark_place.specs.Place.{extent}
use Rattle.starlark_ast.specs.Tree.{Expr, leaf, name, call, positional, none, more, expression, block, no_statements, add_statement}
use Rattle.starlark_order.specs.Beginnings.{statement_begins, tree_begins}

-- a name of one byte
abbrev letter : ℕ → ℕ → Expr
letter b i = leaf (name (b ∷ [])) (extent i (i + 1)) (extent i (i + 1))

-- `f(a)`: the statement, the call, `f` twice, the argument, `a` twice
a_call : statement_begins (expression (call (letter 102 0) (more none (positional (letter 97 2) (extent 2 3))) (extent 0 4)) (extent 0 4)) ≡ 0 ∷ 0 ∷ 0 ∷ 0 ∷ 2 ∷ 2 ∷ 2 ∷ []
a_call = refl

-- `a; b`: the list of both has a place, which does not count
a_line : tree_begins (block (add_statement (add_statement no_statements (expression (letter 97 0) (extent 0 1))) (expression (letter 98 3) (extent 3 4))) (extent 0 5)) ≡ 0 ∷ 0 ∷ 0 ∷ 3 ∷ 3 ∷ 3 ∷ []
a_line = refl
