-- What an argument is, as the code names it.
use Rattle.std.specs.Prelude.{Bool}
use Rattle.starlark_ast.specs.Tree.{Member}
use Rattle.starlark_rules.specs.Unpacked.{is_positional, is_named, is_starred, is_double_starred}
use Rattle.starlark_rules.specs.declared.arguments.ArgumentKind.{ArgumentKind}
use Rattle.starlark_rules.specs.declared.arguments.ArgumentKind.TheVariants.{Positional, Named, Args, KwArgs}

-- it is of that kind
abbrev pub is_of : ArgumentKind → Member → Bool
is_of Positional m = is_positional m
is_of Named m = is_named m
is_of Args m = is_starred m
is_of KwArgs m = is_double_starred m
