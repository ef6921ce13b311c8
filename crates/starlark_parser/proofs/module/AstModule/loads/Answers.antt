use Rattle.std.proofs.Math.Logic.{∥∥₁_elim}
use Rattle.std.proofs.Props.{props}
use Rattle.starlark_ast.specs.View.{stmt_at}
use Rattle.starlark_parser.proofs.Bindings.{loads_held}
use Rattle.starlark_parser.proofs.module.AstModule.loads.Goals as goal

pub put_loads-requires : goal.put_loads-requires
put_loads-requires c = ∥∥₁_elim c.args.self.now.held (hlevel props) (loads_held c.args.self.now.codemap (stmt_at c.args.self.now.statement))
