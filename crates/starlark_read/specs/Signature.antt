-- Behind the name of a parameter.
use Rattle.std.specs.Prelude.{ℕ, List, ◌≢◌, Some}
use Rattle.starlark_lexer.specs.Items.{Item, colon}
use Rattle.starlark_lexer.specs.declared.dialect.Dialect.{Dialect}
use Rattle.starlark_ast.specs.Tree as tree
use Rattle.starlark_grammar.specs.Frames.{Head, State, behind_name, has, param_type, spot}
use Rattle.starlark_read.specs.Reads.{IsType, first_lexeme}

-- behind the type of a parameter, or where there is none
abbrev pub behind_type : Head → tree.Members → tree.Stars → tree.Name → ℕ → tree.Annotation → ℕ → State
behind_type h ps y n p tree.untyped e = behind_name h ps y n p e
behind_type h ps y n p (tree.typed q s) e = has q e (spot (param_type h ps y n p))

-- the type before these tokens breaks no rule, or there is none, and none begins
abbrev pub IsWhole : Dialect → tree.Annotation → List Item → Type 0
IsWhole d tree.untyped xs = first_lexeme xs ≢ Some colon
IsWhole d (tree.typed q s) xs = IsType d (tree.typed q s)
