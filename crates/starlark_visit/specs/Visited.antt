-- The node that a visitor lends.
use Rattle.starlark_ast.specs.Nodes.{Node, expression, statement}
use Rattle.starlark_visit.specs.declared.nodes.VisitOf.{VisitOf}
use Rattle.starlark_visit.specs.declared.nodes.VisitOf.TheVariants as visit

abbrev pub visited : {S X : Type 0} → VisitOf S X → Node S X
visited (visit.Stmt x) = statement x.now
visited (visit.Expr x) = expression x.now
