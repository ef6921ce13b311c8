use Rattle.std.proofs.Math.Logic.{∥∥₁_elim}
use Rattle.std.proofs.Props.{props}
use Rattle.starlark_ast.specs.View.{stmt_at}
use Rattle.starlark_parser.proofs.Located.{locations_held}
use Rattle.starlark_parser.proofs.module.AstModule.stmt_locations.Goals as goal

pub put_locations-requires : goal.put_locations-requires
put_locations-requires c = ∥∥₁_elim c.args.self.now.held (hlevel props) (locations_held c.args.self.now.codemap.source (stmt_at c.args.self.now.statement))
