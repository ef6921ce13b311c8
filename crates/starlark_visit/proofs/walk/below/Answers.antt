use Rattle.std.proofs.Common.{sym, ap, ◌∙◌}
use Rattle.starlark_ast.specs.Statements.{stmts_below, stmts_layer}
use Rattle.starlark_ast.specs.declared.ast.StmtP.TheVariants as stmt
use Rattle.starlark_visit.proofs.walk.below.Goals as goal

pub returns-in-Statements : goal.returns-in-Statements
returns-in-Statements g c = sym (ap stmts_below c.in-Statements.is ∙ ap stmts_layer (stmt.outs-Statements c.in-Statements.xs) ∙ sym c.deref.ensures.value)
