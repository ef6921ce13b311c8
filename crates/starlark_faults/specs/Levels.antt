-- What an expression breaks by itself.
use Rattle.std.specs.Prelude.{List, [], ◌++◌}
use Rattle.starlark_lexer.specs.declared.dialect.Dialect.{Dialect}
use Rattle.starlark_ast.specs.Tree as t
use Rattle.starlark_ast.specs.Tree.{Expr}
use Rattle.starlark_rulebook.specs.Rules.{Finding, LambdaDisabled}
use Rattle.starlark_rulebook.specs.Late.{leaf_rules, parameter_rules, unless}

-- without what stands in it
abbrev pub own_rules : Dialect → Expr → List Finding
own_rules d (t.leaf l u s) = leaf_rules d l s
own_rules d (t.lambda ms x s) = unless d.enable_lambda LambdaDisabled s ++ parameter_rules d ms
own_rules d x = []
