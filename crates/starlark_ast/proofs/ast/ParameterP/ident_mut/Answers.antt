use Rattle.std.proofs.Common.{rules}
use Rattle.starlark_ast.specs.declared.ast.ParameterP.{out-ParameterP}
use Rattle.starlark_ast.proofs.ast.ParameterP.ident_mut.Goals as goal

pub returns-in-Normal : goal.returns-in-Normal
unfolding out-ParameterP
returns-in-Normal g c = search rules

pub returns-in-Args : goal.returns-in-Args
unfolding out-ParameterP
returns-in-Args g c = search rules

pub returns-in-KwArgs : goal.returns-in-KwArgs
unfolding out-ParameterP
returns-in-KwArgs g c = search rules
